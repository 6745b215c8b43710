-- `cells::pass` meets its contract. The loop's invariant: the rows before `i` are joined, and nothing else. Assumes nothing.
use Rattle.cells.specs.Pass.{Joined}
use Rattle.cells.proofs.pass.Given as goal

abbrev pub invariant-loop-i : goal.invariant-loop-i
invariant-loop-i g l = Joined (goal.F-post g l.join) l.initial.cells l.cells l.col l.to l.i
