-- `energy_trace::trace`, which calls itself, meets its contract: each arm writes what its move writes. Assumes nothing.
use mathlib.Core.Path.{◌≡◌, sym, subst}
use Prim.Native.Nat.{ℕ}
use native.Mathlib.Omega.{arith}
use Rattle.figures.proofs.Charges.{longest_low}
use Rattle.energy_reach.specs.declared.Tables.{Tables}
use Rattle.energy_trace.specs.Choosing.{moves}
use Rattle.energy_trace.specs.Trace.{Spot}
use Rattle.energy_trace.specs.declared.choice.Job.{Job}
use Rattle.energy_trace.specs.declared.choice.Move.{Move}
use Rattle.energy_trace.proofs.Moving.{Falls, move_falls, falls_go, falls_close, falls_twice}
use Rattle.energy_trace.proofs.Tracing.{traced_stop, traced_go, traced_close, traced_twice}
use Rattle.energy_trace.proofs.+trace.Goals as goal

-- the move stays among the bases and on shorter spans
led : (t : Tables) (lo hi : ℕ) (job : Job) {r : Move} → r ≡ moves t job lo hi → Spot job lo hi t.paired.n → Falls t.paired.n lo hi r
led t lo hi job e s = subst (Falls t.paired.n lo hi) (sym e) (move_falls _ _ _ _ t.paired.n lo hi job s)

-- ---- no move
pub returns-in-Stop : goal.returns-in-Stop
returns-in-Stop t c = traced_stop _ _ _ _ _ _ c.choose.ensures c.in-Stop.is

-- ---- one shorter span
pub trace-requires : goal.trace-requires
trace-requires t c =
    let f = falls_go (led c.args.tables.now _ _ _ c.choose.ensures c.requires.0) c.in-Go.is in
    (omega arith, (f.0, c.requires.1))

pub returns-in-Go : goal.returns-in-Go
returns-in-Go t c =
    let f = falls_go (led c.args.tables.now _ _ _ c.choose.ensures c.requires.0) c.in-Go.is in
    traced_go _ _ _ _ _ _ c.choose.ensures _ _ _ _ c.in-Go.is f.1 c.trace.ensures

-- ---- a pair and its inside
pub join-requires : goal.join-requires
join-requires t c =
    let f = falls_close (led c.args.tables.now _ _ _ c.choose.ensures c.requires.0) c.in-Close.is in
    let l = (c.args.tables.now.paired.ready _ f.1).short in
    (omega arith, omega (arith, longest_low), omega arith)

-- the table is as long as before the pair was written
pub trace-requires-in-Close : goal.trace-requires-in-Close
trace-requires-in-Close t c =
    let f = falls_close (led c.args.tables.now _ _ _ c.choose.ensures c.requires.0) c.in-Close.is in
    (omega arith, ((f.0, f.1), omega arith))

pub returns-in-Close : goal.returns-in-Close
returns-in-Close t c =
    let f = falls_close (led c.args.tables.now _ _ _ c.choose.ensures c.requires.0) c.in-Close.is in
    traced_close _ _ _ _ _ _ c.choose.ensures _ _ _ _ c.in-Close.is f.2 c.join.ensures c.trace-in-Close.ensures

-- ---- two shorter spans
pub trace-requires-in-Twice : goal.trace-requires-in-Twice
trace-requires-in-Twice t c =
    let f = falls_twice (led c.args.tables.now _ _ _ c.choose.ensures c.requires.0) c.in-Twice.is in
    (omega arith, (f.0, c.requires.1))

-- the table is as long as before the first of the two calls
pub trace-requires-in-Twice-2 : goal.trace-requires-in-Twice-2
trace-requires-in-Twice-2 t c =
    let f = falls_twice (led c.args.tables.now _ _ _ c.choose.ensures c.requires.0) c.in-Twice.is in
    (omega arith, (f.1, omega arith))

pub returns-in-Twice : goal.returns-in-Twice
returns-in-Twice t c =
    let f = falls_twice (led c.args.tables.now _ _ _ c.choose.ensures c.requires.0) c.in-Twice.is in
    traced_twice _ _ _ _ _ _ c.choose.ensures _ _ _ _ _ _ c.in-Twice.is f.2 f.3 c.trace-in-Twice.ensures c.trace-in-Twice-2.ensures
