-- `count_trace::Fold::trace`, which calls itself: the measure is the length of the span, hi − lo. Assumes nothing.
use Rattle.std.proofs.Common.{◌-◌}
use Rattle.count_trace.proofs.Fold.+trace.Given as goal

abbrev pub decreases-trace : goal.decreases-trace
decreases-trace l = l.hi - l.lo
