-- `structure::unsound` meets its contract: the entries first, then the crossings. Assumes nothing.
use mathlib.Core.Path.{sym}
use native.Mathlib.Omega.{arith}
use lib.ListN.{length}
use Rattle.structure.specs.Soundness.{unsound_due}
use Rattle.structure.specs.Table.{view}
use Rattle.structure.proofs.Checking.{all_named, unnamed_first, named_clear, sound_clear}
use Rattle.structure.proofs.unsound.Goals as goal

pub returns-in-Some : goal.returns-in-Some
unfolding unsound_due
returns-in-Some c =
    rw (unnamed_first (view c.args.table.now) (length c.args.table.now) c.in-Some.ensures.1 c.in-Some.ensures.0)

pub invariant_of-named : goal.invariant_of-named
invariant_of-named c =
    record { short = c.requires; named = all_named (view c.args.table.now) (length c.args.table.now) c.in_default.ensures (omega arith) }

pub returns-then-nested : goal.returns-then-nested
returns-then-nested c = sym (sound_clear _ (c.nested.ensures.holds c.if-nested.true))

pub lowest_crossed-requires : goal.lowest_crossed-requires
lowest_crossed-requires c = record { crossing = c.nested.ensures.fails c.if-nested.false }

pub returns : goal.returns
unfolding unsound_due
returns c =
    let named = all_named (view c.args.table.now) (length c.args.table.now) c.in_default.ensures (omega arith) in
    rw (named_clear (view c.args.table.now) (length c.args.table.now) named, c.lowest_crossed.ensures)
