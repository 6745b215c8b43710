-- The parts of the cell rules on any table: splits and loops with one inner pair, candidate by candidate, and which candidate a least reaches.
use mathlib.Core.Path.{◌≡◌, refl, ap, ◌∙◌}
use mathlib.Core.Bool.{true, false}
use Prim.Native.Nat.{ℕ, suc, ◌+◌, ◌-◌, ◌<◌, ◌≤◌, min, max}
use native.Mathlib.Omega.{arith}
use native.Mathlib.Numerals.{add-one}
use lib.IntN.{ℤ, ◌+ℤ◌}
use lib.Signed.{◌≤ℤ◌, ◌<ℤ◌}
use Rattle.cells.specs.Rule.{Bases}
use Rattle.ints.specs.Ints.{mark, add_e, min_from}
use Rattle.ints.proofs.Ints.{ints, either}
use Rattle.ints.proofs.Minima.{least_le, least_real, least_cap, add_some, add_real}
use Rattle.figures.specs.Figures.{smallest_hairpin, longest_side}
use Rattle.figures.proofs.Charges.{figure_low}
use Rattle.closing.specs.Closing.{may_close, own}
use Rattle.closing.proofs.Closing.{own_in, close_far}
use Rattle.energy_rule.specs.Rule.{Table, inner_at, lowest, inner_from, interior, splits}

pub lowest_is : (j x : ℕ) → lowest j x ≡ max (x + suc smallest_hairpin) (j - suc longest_side)
unfolding lowest
lowest_is j x = refl

-- a pair that may close a loop has room for a hairpin
pub may_far : (b : Bases) (i j : ℕ) → may_close b i j ≡ true → i + smallest_hairpin < j
may_far b i j e = omega (arith, close_far b i j e)

-- ---- splits
module _ (c : Table) (i j : ℕ) where
  pub split_le : (k : ℕ) → i < k → k < j → c i k <ℤ mark → c (suc k) j <ℤ mark → splits c i j ≤ℤ (c i k +ℤ c (suc k) j)
  unfolding splits
  split_le k l h p q =
      let f : ℕ → ℤ = λ x. add_e (c i x) (c (x + 1) j) in
      let e : f k ≡ add_e (c i k) (c (suc k) j) = ap (λ x. add_e (c i k) (c x j)) (add-one k) in
      let r = least_le f (i + 1) (j - (i + 1)) k (omega arith) (omega arith) in
      let s = add_some (c i k) (c (suc k) j) p q in
      omega ints

  pub split_cap : splits c i j ≤ℤ mark
  unfolding splits
  split_cap = least_cap _ (i + 1) (j - (i + 1))

  -- the split that z is the sum of
  pub record Cut (z : ℤ) : Type 0 where
    pub at : ℕ
    pub from : i < at
    pub to : at < j
    pub left : c i at <ℤ mark
    pub right : c (suc at) j <ℤ mark
    pub value : z ≡ c i at +ℤ c (suc at) j

  pub split_real : i < j → splits c i j <ℤ mark → Cut (splits c i j)
  unfolding splits
  split_real o h =
      let f : ℕ → ℤ = λ x. add_e (c i x) (c (x + 1) j) in
      let r = least_real f (i + 1) (j - (i + 1)) h in
      let k = r.at in
      let v : min_from f (i + 1) (j - (i + 1)) ≡ add_e (c i k) (c (k + 1) j) = r.value in
      let s = add_real (c i k) (c (k + 1) j) (omega ints) in
      let from = r.from in
      let to = r.to in
      let right = s.right in
      record {
        at = k;
        from = omega arith;
        to = omega arith;
        left = s.left;
        right = rw (add-one k) at right;
        value = v ∙ s.value ∙ ap (λ x. c i k +ℤ c x j) (add-one k);
      }

-- ---- loops with one inner pair
module _ (b : Bases) (v : Table) (i j : ℕ) where
  pub inner_none : (x y : ℕ) → may_close b x y ≡ false → inner_at b v i j x y ≡ mark
  unfolding inner_at
  inner_none x y e = rw e

  pub inner_some : (x y : ℕ) → may_close b x y ≡ true → inner_at b v i j x y ≡ add_e (v x y) (own b i j x y)
  unfolding inner_at
  inner_some x y e = rw e

  pub interior_le : (x y : ℕ) → i < x → y < j → x - suc i ≤ longest_side → j - suc y ≤ longest_side → may_close b x y ≡ true → v x y <ℤ mark
      → interior b v i j ≤ℤ (v x y +ℤ own b i j x y)
  unfolding interior inner_from
  interior_le x y l u s t g p =
      let h = may_far b x y g in
      let o = own_in b i j x y in
      let d = inner_some x y g in
      let e = add_some (v x y) (own b i j x y) p (omega (ints, figure_low)) in
      let w = lowest_is j x in
      let r = least_le (inner_at b v i j x) (lowest j x) (j - lowest j x) y (omega arith) (omega arith) in
      let q = least_le (inner_from b v i j) (i + 1) (min (suc longest_side) (j - (i + 1))) x (omega arith) (omega arith) in
      omega ints

  -- the inner pair that z is the sum of
  pub record Inner (z : ℤ) : Type 0 where
    pub x : ℕ
    pub y : ℕ
    pub from : i < x
    pub far : x + smallest_hairpin < y
    pub to : y < j
    pub left : x - suc i ≤ longest_side
    pub right : j - suc y ≤ longest_side
    pub may : may_close b x y ≡ true
    pub real : v x y <ℤ mark
    pub value : z ≡ v x y +ℤ own b i j x y

  pub interior_real : interior b v i j <ℤ mark → Inner (interior b v i j)
  unfolding interior inner_from
  interior_real h =
      let r = least_real (inner_from b v i j) (i + 1) (min (suc longest_side) (j - (i + 1))) h in
      let e : interior b v i j ≡ inner_from b v i j r.at = r.value in
      let s = least_real (inner_at b v i j r.at) (lowest j r.at) (j - lowest j r.at) (omega ints) in
      let f : inner_from b v i j r.at ≡ inner_at b v i j r.at s.at = s.value in
      let rf = r.from in
      let rt = r.to in
      let sf = s.from in
      let st = s.to in
      let w = lowest_is j r.at in
      let g : may_close b r.at s.at ≡ true
      = either (may_close b r.at s.at) (λ g. g) (λ g. let k = inner_none r.at s.at g in absurd (omega ints)) in
      let d = inner_some r.at s.at g in
      let t = add_real (v r.at s.at) (own b i j r.at s.at) (omega ints) in
      let u = t.value in
      record {
        x = r.at;
        y = s.at;
        from = omega arith;
        far = omega arith;
        to = omega arith;
        left = omega arith;
        right = omega arith;
        may = g;
        real = t.left;
        value = omega ints;
      }
