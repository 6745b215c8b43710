use Rattle.std.proofs.Common.{refl, rules}
use Rattle.lines.proofs.Putting.{put_join, held}
use Rattle.lines.specs.Text.{pairs_text}
use Rattle.lines.proofs.pairs.Goals as goal

pub returns-clause-holds : goal.returns-clause-holds
unfolding pairs_text
returns-clause-holds c = held (search rules) (put_join c.put.ensures c.number.ensures.puts) refl refl
