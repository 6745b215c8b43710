-- Searches as loops make them, what they say of their tests, and where lies what they find. Assumes nothing.
use mathlib.Core.Path.{◌≡◌, refl, ap, subst, ◌∙◌}
use mathlib.Core.Logic.{by_cases}
use mathlib.Core.Bool.{Bool}
use Prim.Native.Nat.{ℕ, zero, suc, ◌+◌, ◌-◌, ◌<◌, ◌≤◌, min}
use native.Mathlib.Decide.{ℕ_discrete}
use native.Mathlib.Omega.{arith}
use Rattle.std.proofs.Common.{Option, None, Some}
use Rattle.searches.proofs.First.{Sought, hit, sought}
use Rattle.cells.specs.Rule.{Bases}
use Rattle.figures.specs.Figures.{longest_side}
use Rattle.energy_rule.specs.Rule.{Table, lowest}
use Rattle.energy_rule.proofs.Parts.{lowest_is}
use Rattle.energy_reach.specs.Reach.{split_at, reaches}
use Rattle.energy_search.specs.Search.{Places, or_else, first_row, splitting, inner_row, inside}

-- ---- along rows: at k, of what is left before j; r is what its row finds
module _ (row : ℕ → Option ℕ) where
  rows_none : (k : ℕ) {m : ℕ} → m ≡ 0 → first_row row k m ≡ None
  unfolding first_row
  rows_none k e = rw e

  rows_more : (k : ℕ) {m l : ℕ} → m ≡ suc l → first_row row k m ≡ or_else k (row k) (first_row row (k + 1) l)
  unfolding first_row
  rows_more k e = rw e

  pub rows_end : (k j : ℕ) → j ≤ k → first_row row k (j - k) ≡ None
  rows_end k j h = rows_none k (omega arith)

  module _ (k j : ℕ) (h : k < j) {r : Option ℕ} (e : r ≡ row k) where
    pub rows_here : {y : ℕ} → r ≡ Some y → first_row row k (j - k) ≡ Some (k, y)
    rows_here q = rows_more k {l = j - (k + 1)} (omega arith) ∙ simp (← e, q)

    pub rows_next : r ≡ None → first_row row k (j - k) ≡ first_row row (k + 1) (j - (k + 1))
    rows_next q = rows_more k {l = j - (k + 1)} (omega arith) ∙ simp (← e, q)

-- what was found is its row's, and the row is among the n from k on; where nothing was, no row finds anything
pub data Scanned (row : ℕ → Option ℕ) (k n : ℕ) : Option Places → Type 0 where
  hits : {x y : ℕ} → k ≤ x → x < k + n → row x ≡ Some y → Scanned row k n (Some (x, y))
  misses : ((x : ℕ) → k ≤ x → x < k + n → row x ≡ None) → Scanned row k n None

scanned_next : {row : ℕ → Option ℕ} {k n : ℕ} {z : Option Places} → row k ≡ None → Scanned row (k + 1) n z → Scanned row k (suc n) z
scanned_next {row} {k} {n} e (hits {x} {y} a c d) = hits {x = x} {y = y} (omega arith) (omega arith) d
scanned_next {row} {k} {n} e (misses f) = misses (λ x a c. by_cases (ℕ_discrete x k) (λ q. ap row q ∙ e) (λ q. f x (omega arith) (omega arith)))

pub scanned : (row : ℕ → Option ℕ) (n k : ℕ) → Scanned row k n (first_row row k n)
unfolding first_row
scanned row zero k = misses (λ x a c. absurd (omega arith))
scanned row (suc n) k = one (row k) refl (scanned row n (k + 1))
  where
    one : (f : Option ℕ) → row k ≡ f → Scanned row (k + 1) n (first_row row (k + 1) n) → Scanned row k (suc n) (or_else k (row k) (first_row row (k + 1) n))
    one (Some y) e s = rw e (hits {x = k} {y = y} (omega arith) (omega arith) e)
    one None e s = rw e (scanned_next e s)

-- ---- where it lies
pub splitting_in : (c : Table) (i j : ℕ) {k : ℕ} → splitting c i j ≡ Some k → (i < k) × (k < j)
unfolding splitting
splitting_in c i j {k} e = in_span (subst (Sought _ (i + 1) (j - (i + 1))) e (sought (split_at c i j) (j - (i + 1)) (i + 1)))
  where
    in_span : {test : ℕ → Bool} → Sought test (i + 1) (j - (i + 1)) (Some k) → (i < k) × (k < j)
    in_span (hit a c d) = (omega arith, omega arith)

pub inside_in : (b : Bases) (v : Table) (i j : ℕ) {x y : ℕ} → inside b v i j ≡ Some (x, y) → (i < x) × (x < y) × (y < j)
unfolding inside inner_row
inside_in b v i j {x} {y} e =
    in_rows (subst (Scanned _ (i + 1) (min (suc longest_side) (j - (i + 1)))) e (scanned (inner_row b v i j) (min (suc longest_side) (j - (i + 1))) (i + 1)))
  where
    in_row : Sought (reaches b v i j x) (lowest j x) (j - lowest j x) (Some y) → i + 1 ≤ x → (i < x) × (x < y) × (y < j)
    in_row (hit a c d) l = let w = lowest_is j x in (omega arith, omega arith, omega arith)

    in_rows : Scanned (inner_row b v i j) (i + 1) (min (suc longest_side) (j - (i + 1))) (Some (x, y)) → (i < x) × (x < y) × (y < j)
    in_rows (hits a c d) = in_row (subst (Sought _ (lowest j x) (j - lowest j x)) d (sought (reaches b v i j x) (j - lowest j x) (lowest j x))) a
