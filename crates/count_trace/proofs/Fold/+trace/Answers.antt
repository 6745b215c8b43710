-- `count_trace::Fold::trace`, which calls itself, meets its contract: each arm is the step of the traceback that its choice names.
-- Assumes nothing.
use mathlib.Core.Path.{refl}
use native.Mathlib.Omega.{arith}
use Rattle.count_trace.proofs.Choosing.{split_inside}
use Rattle.count_trace.proofs.Tracing.{traced_done, traced_first, traced_both, traced_split, traced_last, room_in}
use Rattle.count_trace.proofs.Fold.+trace.Goals as goal

pub returns-then-hi-lo-lt2 : goal.returns-then-hi-lo-lt2
returns-then-hi-lo-lt2 t c = traced_done _ _ _ _ _ c.if-hi-lo-lt2.true

pub returns-in-FirstUnpaired : goal.returns-in-FirstUnpaired
returns-in-FirstUnpaired t c =
    traced_first _ _ _ _ _ c.if-hi-lo-lt2.false _ c.choose.ensures _ c.in-FirstUnpaired.is c.trace.ensures

pub returns-in-Paired : goal.returns-in-Paired
returns-in-Paired t c =
    traced_both _ _ _ _ _ c.if-hi-lo-lt2.false _ c.choose.ensures _ _ c.in-Paired.is c.join.ensures c.trace-in-Paired.ensures

pub returns-in-Split : goal.returns-in-Split
returns-in-Split t c =
    traced_split _ _ _ _ _ c.if-hi-lo-lt2.false _ c.choose.ensures _ _ _ c.in-Split.is c.trace-in-Split.ensures c.trace-in-Split-2.ensures

pub returns-in-LastUnpaired : goal.returns-in-LastUnpaired
returns-in-LastUnpaired t c =
    traced_last _ _ _ _ _ c.if-hi-lo-lt2.false _ c.choose.ensures _ c.in-LastUnpaired.is c.trace-in-LastUnpaired.ensures

-- the calls on shorter spans have room
pub trace-requires-in-Paired : goal.trace-requires-in-Paired
trace-requires-in-Paired t c =
    (omega arith, room_in _ _ _ _ _ _ _ _ c.requires c.join.auto.pairs (omega arith) (omega arith))

pub trace-requires-in-Split : goal.trace-requires-in-Split
trace-requires-in-Split t c =
    let b = split_inside _ _ _ _ c.choose.ensures c.in-Split.is in
    (omega arith, room_in _ _ _ _ _ _ _ _ c.requires refl (omega arith) (omega arith))

pub trace-requires-in-LastUnpaired : goal.trace-requires-in-LastUnpaired
trace-requires-in-LastUnpaired t c =
    (omega arith, room_in _ _ _ _ _ _ _ _ c.requires refl (omega arith) (omega arith))
