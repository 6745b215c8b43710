-- `count_trace::traceback` meets its contract: the traceback of the whole, on what `clear` leaves. Assumes nothing.
use native.Mathlib.Omega.{arith}
use Rattle.count_trace.specs.Trace.{traced_of}
use Rattle.count_trace.proofs.traceback.Goals as goal

pub returns : goal.returns
unfolding traced_of
returns c = rw (← c.clear.ensures) (c.trace.ensures c.args.n (omega arith))
