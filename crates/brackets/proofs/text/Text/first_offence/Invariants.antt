-- `brackets::text::Text::first_offence` meets its contract. The loop's invariant: d are open, and nothing is found at the places passed. Assumes nothing.
use mathlib.Core.Path.{◌≡◌}
use Rattle.refusals.specs.Refusals.{clear, each}
use Rattle.structure.specs.Table.{view}
use Rattle.brackets.specs.Text.{depth, offence}
use Rattle.brackets.proofs.text.Text.first_offence.Given as goal

abbrev pub invariant-loop-k : goal.invariant-loop-k
invariant-loop-k l = (l.d ≡ depth (view l.self.bytes.now) l.k) × (each (offence (view l.self.bytes.now)) l.k ≡ clear)
