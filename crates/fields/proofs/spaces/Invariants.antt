-- `fields::spaces` counts no more than it has looked at. Assumes nothing.
use Rattle.std.proofs.Common.{◌≤◌}
use Rattle.fields.proofs.spaces.Given as goal

abbrev pub invariant-loop-b : goal.invariant-loop-b
invariant-loop-b l = l.n ≤ l.b-index
