-- `long_terms::agreeing` is safe. The loop's invariant: so many steps make a logarithm of at most so many units.
use Prim.Native.Nat.{◌-◌, ◌*◌, ◌≤◌}
use Rattle.long_terms.proofs.agreeing.Given as goal

abbrev pub invariant-loop-size : goal.invariant-loop-size
invariant-loop-size g l = (l.count ≤ l.size) × (l.ln ≤ 51000000000 * (l.size - 31))
