-- `loops::weigh` is safe: what is charged has passed every test that charging asks for.
use Rattle.std.proofs.Common.{◌≡◌, ◌≤◌, ℕ, false, List, Result, Ok, Err, length, arith, sym}
use Rattle.std.specs.Result.{is_err}
use Rattle.refusals.specs.Refusals.{fold_limit}
use Rattle.refusals.specs.declared.Refusal.{Refusal}
use Rattle.structure.specs.Table.{view, Sound}
use Rattle.structure.proofs.Checking.{table_clear}
use Rattle.queries.specs.Calls.{Counts}
use Rattle.figures.proofs.Charges.{fold_reach}
use Rattle.charges.specs.Loops.{first_barred, Chargeable}
use Rattle.charges.proofs.Barred.{barred_most, candidate}
use Rattle.loops.proofs.weigh.Goals as goal

counted : (t : List ℕ) (r : Result ℕ Refusal) → is_err r ≡ false → Counts t r → Sound t
counted t (Ok m) e h = (table_clear t h.0).1
counted t (Err q) e h = absurd (cc)

chargeable : (b t : List ℕ) → Sound t → length t ≤ fold_limit → length t ≤ length b → length t ≤ first_barred b t → Chargeable b t
chargeable b t s short room none =
    record {
      candidate = candidate b t s (omega (arith, barred_most (view b) (view t) (length t) 0));
      bases = room;
      short = omega (arith, fold_reach);
    }

pub first_barred-barred-requires : goal.first_barred-barred-requires
first_barred-barred-requires g c = (counted _ _ (sym c.if-is_err.ensures.value) c.num_pairs.ensures, omega arith)

pub invariant_of-account : goal.invariant_of-account
invariant_of-account g c =
    record { chargeable = chargeable _ _ (counted _ _ (sym c.if-is_err.ensures.value) c.num_pairs.ensures) (omega arith) (omega arith) (omega (arith, c.first_barred-barred.ensures)) }
