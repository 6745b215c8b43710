use Rattle.lines.proofs.Putting.{put_join}
use Rattle.lines.proofs.Line.place.Goals as goal

pub returns-in-Some : goal.returns-in-Some
returns-in-Some c = rw c.in-Some.is (put_join c.put.ensures c.number.ensures.puts)
