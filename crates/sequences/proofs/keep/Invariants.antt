-- `sequences::keep` meets its contract. The loop's invariant: the letters passed stand at the front of the memory (Front). Assumes nothing.
use Rattle.structure.proofs.Fronts.{Front}
use Rattle.bases.specs.Bases.{normal}
use mathlib.Core.List.{map}
use Rattle.sequences.proofs.keep.Given as goal

abbrev pub invariant-loop-k : goal.invariant-loop-k
invariant-loop-k l = Front (map normal l.sequence) l.initial.letters l.letters l.k
