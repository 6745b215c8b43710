-- `energy_reach::Tables::inner` meets its contract: what the inner pair costs is compared. Assumes nothing.
use native.Mathlib.Omega.{arith}
use Rattle.energy_reach.proofs.Readiness.{ready_cell}
use Rattle.energy_reach.proofs.Tables.inner.Goals as goal

pub inner_at-requires-clause-readable : goal.inner_at-requires-clause-readable
inner_at-requires-clause-readable c =
    ready_cell _ _ _ c.requires.inside.1 (c.args.self.now.paired.ready c.args.y (omega arith))
