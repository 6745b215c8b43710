-- `replay::replay` is safe. The loop's invariant: no more lines than bytes passed. Assumes nothing.
use Rattle.std.proofs.Common.{◌+◌, ◌≤◌, length}
use Rattle.replay.proofs.replay.Given as goal

abbrev pub invariant-loop-line : goal.invariant-loop-line
invariant-loop-line l = l.tally.lines + goal.iterator-loop-line.remaining l.line-iterator ≤ length l.list
