-- `energy_reach::Triangle::cell` meets its contract: the place is in the table. Assumes nothing.
use Rattle.energy_reach.proofs.Readiness.{ready_cell}
use Rattle.energy_reach.proofs.Triangle.cell.Goals as goal

pub cell-requires : goal.cell-requires
cell-requires c =
    let r = ready_cell _ _ _ c.requires.0 (c.args.self.now.ready c.args.j c.requires.1) in
    (c.requires.0, r.0, r.1)
