-- `brackets::spelling::spell` meets its contract. The loop's invariant: the brackets of the positions passed stand at the front of the
-- memory as it came (Front). Assumes nothing.
use Rattle.structure.proofs.Fronts.{Front}
use Rattle.brackets.specs.Brackets.{brackets}
use Rattle.brackets.proofs.spelling.spell.Given as goal

abbrev pub invariant-loop-k : goal.invariant-loop-k
invariant-loop-k l = Front (brackets l.table) l.initial.text l.text l.k
