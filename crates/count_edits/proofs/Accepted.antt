-- What an accepted call from a record was found to have: its row of checks, taken apart. Assumes nothing.
use mathlib.Core.Path.{◌≡◌}
use mathlib.Core.Bool.{false}
use mathlib.Core.Logic.{◌≢◌}
use mathlib.Core.List.{List}
use Prim.Native.Nat.{ℕ, ◌+◌, ◌≤◌, ◌<◌}
use native.Mathlib.Omega.{arith}
use lib.Dec.{ltb, leb, eqb}
use lib.ListN.{length}
use borrow.Author.Tests.{ltb-false, leb-false, eqb-false}
use Rattle.std.proofs.Common.{None, Some}
use Rattle.refusals.specs.Refusals.{clear, check, then, fold_limit}
use Rattle.refusals.proofs.Laws.{check_clear, then_clear}
use Rattle.bases.specs.Bases.{no_base}
use Rattle.bases.proofs.Laws.{read_is, read_letter, read_none}
use Rattle.cells.specs.Tri.{tri}
use Rattle.counting.specs.Checks.{no_room}
use Rattle.count_kept.specs.Checks.{kept_due}
use Rattle.count_kept.proofs.Believable.{room, Believable, believable}
use Rattle.count_edits.specs.Checks.{replace_due, add_due, erase_due, trace_due}

-- what reading a byte tells of it
pub ruleset reading = (read_is, read_letter, read_none)

pub replace_clear : (n : ℕ) (b t : List ℕ) (p x : ℕ) → replace_due n b t p x ≡ clear → Believable n b t × (p < n) × (no_base x ≡ false)
unfolding replace_due
replace_clear n b t p x e =
    let outside = check (leb n p) 10 None in
    let none = check (no_base x) 2 (Some 0) in
    let c₁ = then_clear (kept_due n b t) (then outside none) e in
    let c₂ = then_clear outside none c₁.1 in
    (believable n b t c₁.0, leb-false n p (check_clear (leb n p) 10 None c₂.0), check_clear (no_base x) 2 (Some 0) c₂.1)

-- a base that n bases may take: one of the four, with room for it
pub record Addable (n : ℕ) (b t : List ℕ) (x : ℕ) : Type 0 where
  pub base : no_base x ≡ false
  pub short : n < fold_limit
  pub bases : n + 1 ≤ length b
  pub cells : tri (n + 1) ≤ length t

pub add_clear : (n : ℕ) (b t : List ℕ) (x : ℕ) → add_due n b t x ≡ clear → Believable n b t × Addable n b t x
unfolding add_due
add_clear n b t x e =
    let none = check (no_base x) 2 (Some 0) in
    let long = check (leb fold_limit n) 3 None in
    let small = check (no_room b t (n + 1)) 4 None in
    let c₁ = then_clear (kept_due n b t) (then none (then long small)) e in
    let c₂ = then_clear none (then long small) c₁.1 in
    let c₃ = then_clear long small c₂.1 in
    let lent = room b t (n + 1) (check_clear (no_room b t (n + 1)) 4 None c₃.1) in (
      believable n b t c₁.0,
      record {
        base = check_clear (no_base x) 2 (Some 0) c₂.0;
        short = leb-false fold_limit n (check_clear (leb fold_limit n) 3 None c₃.0);
        bases = lent.0;
        cells = lent.1;
      },
    )

pub erase_clear : (n : ℕ) (b t : List ℕ) → erase_due n b t ≡ clear → Believable n b t × (1 < n)
unfolding erase_due
erase_clear n b t e =
    let c = then_clear (kept_due n b t) (check (eqb n 1) 1 None) e in
    let held = believable n b t c.0 in
    let more : n ≢ 1 = eqb-false n 1 (check_clear (eqb n 1) 1 None c.1) in
    (held, omega arith)

pub trace_clear : (n : ℕ) (b t o : List ℕ) → trace_due n b t o ≡ clear → Believable n b t × (n ≤ length o)
unfolding trace_due
trace_clear n b t o e =
    let c = then_clear (kept_due n b t) (check (ltb (length o) n) 4 None) e in
    (believable n b t c.0, ltb-false (length o) n (check_clear (ltb (length o) n) 4 None c.1))
