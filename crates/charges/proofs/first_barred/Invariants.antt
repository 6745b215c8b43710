-- `charges::first_barred` meets its contract. The loop's invariant: the first of the rest is the first of the whole.
use mathlib.Core.Path.{◌≡◌}
use Prim.Native.Nat.{◌-◌}
use lib.ListN.{length}
use Rattle.structure.specs.Table.{view}
use Rattle.charges.specs.Loops.{barred}
use Rattle.charges.proofs.first_barred.Given as goal

abbrev pub invariant-loop-i : goal.invariant-loop-i
invariant-loop-i l = barred (view l.bases) (view l.pairs) (length l.pairs - l.i) l.i ≡ barred (view l.bases) (view l.pairs) (length l.pairs) 0
