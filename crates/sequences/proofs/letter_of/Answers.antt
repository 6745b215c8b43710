-- `sequences::letter_of` meets its contract: the letter of the base that was read, or 0. Assumes nothing.
use Rattle.bases.proofs.Laws.{read_normal}
use Rattle.sequences.proofs.letter_of.Goals as goal

pub returns : goal.returns
returns c = read_normal _ _ _ c.read_base.ensures c.map_or.ensures
