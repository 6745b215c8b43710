use Rattle.std.proofs.Common.{refl, rules}
use Rattle.lines.proofs.Putting.{put_join, held}
use Rattle.lines.specs.Text.{refused_text}
use Rattle.lines.proofs.refused.Goals as goal

pub returns-clause-holds : goal.returns-clause-holds
unfolding refused_text
returns-clause-holds c =
    held (search rules) (put_join c.put.ensures (put_join c.number-2.ensures.puts c.place-2.ensures)) refl (rw (c.number.ensures, c.place.ensures))
