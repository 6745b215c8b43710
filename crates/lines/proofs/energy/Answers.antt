use Rattle.std.proofs.Common.{refl, rules}
use Rattle.std.proofs.lemmas.Int.{to_z-of_z}
use mir.Syntax.{w32}
use Rattle.lines.proofs.Putting.{put_join, held}
use Rattle.lines.specs.Text.{energy_text}
use Rattle.lines.proofs.energy.Goals as goal

pub returns-clause-holds : goal.returns-clause-holds
unfolding energy_text
returns-clause-holds c =
    held (search rules) (put_join c.put.ensures (put_join c.sign.ensures (put_join c.number.ensures.puts c.decimals.ensures))) refl
    (rw (c.unsigned_abs-n.ensures.value, to_z-of_z w32 c.args.z c.ranges.z))
