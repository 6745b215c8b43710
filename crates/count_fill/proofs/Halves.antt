-- The computed test of believable cells: its steps, and that it passes exactly where every cell is believable. Assumes nothing.
use mathlib.Core.Path.{◌≡◌, refl, ap, ◌∙◌, sym}
use mathlib.Core.Bool.{Bool, true, false, true≢false}
use mathlib.Core.Logic.{by_cases}
use Prim.Native.Nat.{ℕ, ◌+◌, ◌*◌, ◌≤◌, ◌<◌, max}
use native.Mathlib.Omega.{arith}
use native.Mathlib.Decide.{dec_le}
use lib.Dec.{leb}
use native.Mathlib.Numerals.{add-one}
use borrow.Author.Tests.{lt-leb, le-leb, leb-true}
use Rattle.std.proofs.Common.{List, length, get_or}
use Rattle.std.specs.Bool.{MatchBool}
use Rattle.std.specs.List.{range_with_len, AllWithin, HoldsAt}
use Rattle.std.proofs.lemmas.List.FromFn.{length-range_with_len, get_or-range_with_len}
use Rattle.cells.specs.Rule.{Bases, Cells}
use Rattle.cells.specs.Tri.{tri}
use Rattle.cells.specs.Fill.{at, Fine}
use Rattle.cells.specs.Solve.{every}
use Rattle.cells.proofs.Solves.{every_stop, every_true, true_every}
use Rattle.count_rule.specs.Rule.{best, Half}
use Rattle.count_rule.proofs.Laws.{best_under}
use Rattle.count_rule.proofs.Ruling.{best_above}
use Rattle.count_fill.specs.Believable.{half_at, fullness, column_half, all_half}

-- the fullest cell so far, one row on
pub full_more : (g : ℕ → ℕ) (to i m v : ℕ) → m ≡ best (fullness g to) 0 i → v ≡ g (to + i) → max m (2 * v + i) ≡ best (fullness g to) 0 (i + 1)
unfolding best fullness
full_more g to i m v e p = rw (add-one i) (let z : 0 + i ≡ i = omega arith in omega (arith, ap (λ (k : ℕ). 2 * g (to + k) + k) z))

full_under : (g : ℕ → ℕ) (j : ℕ) → column_half (at g) j ≡ true → best (fullness g (tri j)) 0 (j + 1) ≤ j + 1
unfolding column_half half_at fullness
full_under g j e =
    best_under (fullness g (tri j)) 0 (j + 1) (j + 1) (λ k l h. leb-true (2 * at g k j + k) (j + 1) (every_true (half_at (at g) j) (j + 1) e k (omega arith)))

under_full : (g : ℕ → ℕ) (j : ℕ) → best (fullness g (tri j)) 0 (j + 1) ≤ j + 1 → column_half (at g) j ≡ true
unfolding column_half half_at fullness
under_full g j b =
    true_every (half_at (at g) j) (j + 1)
    (λ i h. le-leb (2 * at g i j + i) (j + 1) (omega (arith, best_above (fullness g (tri j)) 0 (j + 1) i (omega arith) (omega arith))))

-- a column is believable exactly where its fullest cell is
pub full_half : (g : ℕ → ℕ) (j : ℕ) → leb (best (fullness g (tri j)) 0 (j + 1)) (j + 1) ≡ column_half (at g) j
full_half g j = go (column_half (at g) j) refl
  where
    go : (t : Bool) → column_half (at g) j ≡ t → leb (best (fullness g (tri j)) 0 (j + 1)) (j + 1) ≡ t
    go true e = le-leb (best (fullness g (tri j)) 0 (j + 1)) (j + 1) (full_under g j e)
    go false e = by_cases (dec_le (best (fullness g (tri j)) 0 (j + 1)) (j + 1)) (λ h. absurd (true≢false (sym (under_full g j h) ∙ e))) (λ h. lt-leb (best (fullness g (tri j)) 0 (j + 1)) (j + 1) (omega arith))

-- whether every item of a list passes, said of the places 0 to n - 1
pub every_item :
    (f g : ℕ → Bool) (n : ℕ) (xs : List ℕ) (r : Bool) → length xs ≡ n → ((k : ℕ) → k < n → g (get_or xs k 0) ≡ f k) →
    MatchBool r (AllWithin (λ x. g x ≡ true) xs 0 (length xs)) ((k : ℕ) × (k < length xs) × HoldsAt (λ x. g x ≡ false) xs k) → r ≡ every f n
every_item f g n xs true l e h = sym (true_every f n (λ k p. sym (e k p) ∙ h k 0 (omega arith) (omega arith)))
every_item f g n xs false l e h = let p : h.0 < n = omega arith in sym (every_stop f n h.0 p (sym (e h.0 p) ∙ h.2 0))

module _ (c : Cells ℕ) where
  -- the columns, one after the other
  pub all_columns :
      (n : ℕ) (r : Bool) → (let xs = range_with_len 0 n in
      MatchBool r (AllWithin (λ j. column_half c j ≡ true) xs 0 (length xs)) ((k : ℕ) × (k < length xs) × HoldsAt (λ j. column_half c j ≡ false) xs k)) →
      r ≡ all_half c n
  unfolding all_half
  all_columns n r h = every_item (column_half c) (column_half c) n (range_with_len 0 n) r (length-range_with_len 0 n) (λ k l. ap (column_half c) (omega (arith, get_or-range_with_len 0 n k 0 l))) h

  -- the test passes exactly where every cell is believable
  pub all_fine : (b : Bases) (n : ℕ) → all_half c n ≡ true → Fine (Half b) c n
  unfolding all_half column_half half_at
  all_fine b n e i j h l =
      leb-true (2 * c i j + i) (j + 1) (every_true (half_at c j) (j + 1) (every_true (column_half c) n e j l) i (omega arith))

  pub fine_all : (b : Bases) (n : ℕ) → Fine (Half b) c n → all_half c n ≡ true
  unfolding all_half column_half half_at
  fine_all b n f =
      true_every (column_half c) n
      (λ j l. true_every (half_at c j) (j + 1) (λ i h. le-leb (2 * c i j + i) (j + 1) (f i j (omega arith) l)))
