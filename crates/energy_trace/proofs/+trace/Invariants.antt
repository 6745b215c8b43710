-- `energy_trace::trace`, which calls itself: the measure is the length of the span, hi − lo.
use Prim.Native.Nat.{◌-◌}
use Rattle.energy_trace.proofs.+trace.Given as goal

abbrev pub decreases-trace : goal.decreases-trace
decreases-trace l = l.hi - l.lo
