-- `lines::Line::put` meets its contract. Assumes nothing.
use Rattle.std.proofs.Common.{rules}
use Rattle.std.proofs.lemmas.Slice.{overwrites}
use Rattle.lines.proofs.Line.put.Goals as goal

pub returns : goal.returns
returns c = search (rules, overwrites)
