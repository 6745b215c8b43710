-- `brackets::text::Text::first_unmatched` meets its contract. The loop's invariant: nothing was open at `first`, and something at each later place passed. Assumes nothing.
use mathlib.Core.Path.{◌≡◌}
use Rattle.structure.specs.Table.{view}
use Rattle.brackets.specs.Text.{depth}
use Rattle.brackets.proofs.Scan.{Since}
use Rattle.brackets.proofs.text.Text.first_unmatched.Given as goal

abbrev pub invariant-loop-k : goal.invariant-loop-k
invariant-loop-k l = (l.d ≡ depth (view l.self.bytes.now) l.k) × Since (view l.self.bytes.now) l.first l.k
