-- A record and kept memory that pass the checks: what they were found to have, both ways. Assumes nothing.
use mathlib.Core.Path.{◌≡◌}
use mathlib.Core.Bool.{true, false, not}
use mathlib.Core.Logic.{◌≢◌}
use mathlib.Core.List.{List}
use Prim.Native.Nat.{ℕ, ◌≤◌, ◌<◌}
use native.Mathlib.Omega.{arith}
use lib.Dec.{ltb, eqb}
use lib.ListN.{length}
use borrow.Author.Tests.{ltb-false, le-ltb, eqb-false, ne_eqb, not-false}
use Rattle.refusals.specs.Refusals.{clear, check, then, fold_limit}
use Rattle.std.proofs.Common.{None}
use Rattle.refusals.proofs.Laws.{check_clear, then_clear, neither}
use Rattle.structure.specs.Table.{view}
use Rattle.cells.specs.Tri.{tri}
use Rattle.cells.specs.Fill.{at, Fine}
use Rattle.count_rule.specs.Rule.{Half}
use Rattle.count_fill.specs.Believable.{all_half}
use Rattle.count_fill.proofs.Halves.{all_fine, fine_all}
use Rattle.counting.specs.Checks.{no_room}
use Rattle.count_kept.specs.Checks.{bad_length, all_kept, bad_contents, kept_due}

-- there is room for n bases and their cells
pub room : (b t : List ℕ) (n : ℕ) → no_room b t n ≡ false → (n ≤ length b) × (tri n ≤ length t)
room b t n e =
    let lent = neither (ltb (length b) n) (ltb (length t) (tri n)) e in
    (ltb-false (length b) n lent.0, ltb-false (length t) (tri n) lent.1)

-- a record of n bases and its memory, as a call may build on them
pub record Believable (n : ℕ) (b t : List ℕ) : Type 0 where
  pub some : 0 < n
  pub short : n ≤ fold_limit
  pub bases : n ≤ length b
  pub cells : tri n ≤ length t
  pub kept : all_kept b n ≡ true
  pub fine : Fine (Half (view b)) (at (view t)) n

pub believable : (n : ℕ) (b t : List ℕ) → kept_due n b t ≡ clear → Believable n b t
unfolding kept_due
believable n b t e =
    let small = check (no_room b t n) 4 None in
    let bad = check (bad_contents b t n) 11 None in
    let c₁ = then_clear (check (bad_length n) 11 None) (then small bad) e in
    let c₂ = then_clear small bad c₁.1 in
    let long = neither (eqb n 0) (ltb fold_limit n) (check_clear (bad_length n) 11 None c₁.0) in
    let lent = room b t n (check_clear (no_room b t n) 4 None c₂.0) in
    let contents = neither (not (all_kept b n)) (not (all_half (at (view t)) n)) (check_clear (bad_contents b t n) 11 None c₂.1) in
    let none : n ≢ 0 = eqb-false n 0 long.0 in
    record {
      some = omega arith;
      short = ltb-false fold_limit n long.1;
      bases = lent.0;
      cells = lent.1;
      kept = not-false (all_kept b n) contents.0;
      fine = all_fine (at (view t)) (view b) n (not-false (all_half (at (view t)) n) contents.1);
    }

-- and nothing is due of such a record
pub believed : (n : ℕ) (b t : List ℕ) → Believable n b t → kept_due n b t ≡ clear
unfolding kept_due
believed n b t e =
    simp (ne_eqb n 0 (omega arith), le-ltb fold_limit n e.short, le-ltb (length b) n e.bases, le-ltb (length t) (tri n) e.cells, e.kept, fine_all (at (view t)) (view b) n e.fine)
