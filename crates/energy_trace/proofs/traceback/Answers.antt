-- `energy_trace::traceback` meets its contract: the traceback of the whole, on what `clear` leaves. Assumes nothing.
use Prim.Native.Nat.{suc}
use native.Mathlib.Omega.{arith}
use Rattle.energy_trace.specs.Trace.{traced_of}
use Rattle.energy_trace.proofs.Readiness.{ready_paired, ready_any, ready_arms}
use Rattle.energy_trace.proofs.traceback.Goals as goal

pub invariant_of-tables : goal.invariant_of-tables
invariant_of-tables c = record { ready = λ j h. ready_paired _ _ _ _ _ j h c.requires.2 }

pub invariant_of-tables-2 : goal.invariant_of-tables-2
invariant_of-tables-2 c = record { ready = λ j h. ready_any _ _ _ _ _ j h c.requires.2 }

pub invariant_of-tables-3 : goal.invariant_of-tables-3
invariant_of-tables-3 c = record { ready = λ j h. ready_arms _ _ _ _ _ j h c.requires.2 }

pub returns : goal.returns
unfolding traced_of
returns c = rw (← c.clear.ensures) (c.trace.ensures (suc c.args.n) (omega arith))
