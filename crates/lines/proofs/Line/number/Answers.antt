use Rattle.lines.proofs.Digits.{decimal_is}
use Rattle.lines.proofs.Line.number.Goals as goal

pub returns-clause-puts : goal.returns-clause-puts
returns-clause-puts c = rw (← decimal_is c.args.n c.ranges.n.fits, ← c.format.ensures.text, ← c.as_bytes.ensures.value) c.put.ensures
