-- What is known where a pair opens in a chargeable table: its inside folds, its inner pairs are in reach, its loop has a figure, and sums of charges stay small.
use mathlib.Core.Path.{◌≡◌, refl, sym, ap, ◌∙◌}
use mathlib.Core.Logic.{◌≢◌, ◌⊎◌, inl, inr, ⊎_elim, by_cases}
use mathlib.Core.Bool.{Bool, true, false, cond}
use mathlib.Core.List.{List}
use Prim.Native.Nat.{ℕ, zero, suc, ◌+◌, ◌-◌, ◌*◌, ◌<◌, ◌≤◌}
use native.Mathlib.Omega.{arith}
use native.Mathlib.Numerals.{add-one}
use native.Mathlib.Decide.{ℕ_discrete}
use lib.Dec.{eqb}
use lib.IntN.{pos, negsuc, ◌+ℤ◌}
use lib.ListN.{length}
use lib.Signed.{◌≤ℤ◌}
use borrow.Author.Tests.{eq-eqb, ne_eqb}
use Rattle.bases.specs.Bases.{pair_index}
use Rattle.bases.proofs.Laws.{index_below}
use Rattle.structure.specs.Table.{unpaired, view, opens, Fold}
use Rattle.structure.proofs.Folds as folds
use Rattle.structure.proofs.Counts.{opens_none, opens_high}
use Rattle.ints.specs.Ints.{In, Small}
use Rattle.ints.proofs.Ints.{ints, either}
use Rattle.figures.specs.Charge.{Figured, figure_most, charge_most}
use Rattle.figures.specs.declared.Loop.{Loop}
use Rattle.figures.proofs.Charges.{sides_reach, longest_low, term_low, charge_in}
use Rattle.figures.proofs.Flanks.{between_figured}
use Rattle.closing.specs.Closing.{may_close, purines}
use Rattle.closing.proofs.Closing.{purines_le, close_pair, close_far}
use Rattle.charges.specs.Loops.{opening, arms, arms_in, first, first_in, single, kind_by, kind, charge_by, charge_at, total, Chargeable}
use Rattle.charges.proofs.Walk.{arms_free, arms_pair, shut_none, first_le, one_arm}

-- ---- openings
pub opening_true : (k v : ℕ) → opening k v ≡ true → (k < v) × (v ≢ unpaired)
opening_true k v e = grind arith

-- what the test that a position opens a pair tells
pub opens_is : (r : Bool) (k v : ℕ) → cond r 1 0 ≡ opens k v → r ≡ opening k v
opens_is true k v e = sym (eq-eqb (opens k v) 1 (sym e))
opens_is false k v e = sym (ne_eqb (opens k v) 1 (λ q. omega arith))

-- the inside of any pair of a span that folds
pub inside_folds : (p : ℕ → ℕ) {lo hi : ℕ} → Fold p lo hi → (i : ℕ) → lo ≤ i → i < p i → p i < hi → Fold p (suc i) (p i)
inside_folds p {lo} {hi} f i l o h = grind arith

-- ---- the walk along a span: an unpaired position is passed, a pair jumped over
pub record Step (p : ℕ → ℕ) (x hi y : ℕ) : Type 0 where
  pub on : x < y
  pub within : y ≤ hi
  pub fold : Fold p y hi
  pub count : opens x (p x) + arms_in p y hi ≡ arms_in p x hi

pub step : (p : ℕ → ℕ) {x hi : ℕ} → Fold p x hi → x < hi → Step p x hi (cond (eqb (p x) unpaired) (x + 1) (p x + 1))
step p {x} {hi} f h =
    by_cases (ℕ_discrete (p x) unpaired)
    (λ e. rw (eq-eqb (p x) unpaired e, add-one x)
    (record { on = omega arith; within = h; fold = folds.tail p f e; count = omega (arith, opens_none x (p x) e, arms_free p x hi h (shut_none x (p x) e)) }))
    (λ n. let s = folds.first p f h n in
    rw (ne_eqb (p x) unpaired n, add-one (p x))
    (record {
      on = omega (arith, s.0);
      within = s.1;
      fold = folds.outer p f s.0 s.1;
      count = omega (arith, opens_high x (p x) s.0 n, arms_pair p x hi s.0 s.1 n);
    }))

-- the first opening of some positions, or the place after them
first_found : (p : ℕ → ℕ) (n k : ℕ) → (first p n k ≡ k + n) ⊎ (opening (first p n k) (p (first p n k)) ≡ true)
unfolding first
first_found p zero k = inl (omega arith)
first_found p (suc n) k = either (opening k (p k)) (λ e. rw e (inr e)) (λ e. rw e (grind (arith, first_found p n (suc k))))

-- no more arms than positions
arms_below : (p : ℕ → ℕ) (n s k : ℕ) → arms p n s k ≤ n
unfolding arms
arms_below p zero s k = omega arith
arms_below p (suc n) zero k = grind (arith, arms_below p n (p k - k) (suc k), arms_below p n zero (suc k))
arms_below p (suc n) (suc s) k = omega (arith, arms_below p n s (suc k))

pub arms_le : (p : ℕ → ℕ) (lo hi : ℕ) → arms_in p lo hi ≤ hi - lo
arms_le p lo hi = arms_below p (hi - lo) 0 lo

single_figured : (b : ℕ → ℕ) (i j x y o n p : ℕ) → o < 6 → n < 6 → Figured (single b i j x y) o n p
unfolding single
single_figured b i j x y o n p d e = grind (arith, sides_reach, between_figured)

-- ---- an opening place
module _ (b t : List ℕ) (r : Chargeable b t) (i : ℕ) (h : i < length t) (o : opening i (view t i) ≡ true) where
  -- the pair that opens there
  pub record Closes : Type 0 where
    pub up : i < view t i
    pub within : view t i < length t
    pub real : view t i ≢ unpaired
    pub back : view t (view t i) ≡ i
    pub inner : Fold (view t) (suc i) (view t i)
    pub may : may_close (view b) i (view t i) ≡ true

  pub closes : Closes
  closes = grind arith

  -- where it has one inner pair, that pair
  pub record Inner (x : ℕ) : Type 0 where
    pub from : i < x
    pub up : x < view t x
    pub to : view t x < view t i
    pub may : may_close (view b) x (view t x) ≡ true

  pub one_inner : arms_in (view t) (suc i) (view t i) ≡ 1 → Inner (first_in (view t) (suc i) (view t i))
  one_inner e =
      let c = closes in
      let u = c.up in
      let v = c.within in
      let w = one_arm (view t) (view b) (view t i) (suc i) (view t i) (omega arith) (omega arith) c.inner e in
      let l = w.from in
      let k = w.to in
      let s = w.up in
      record {
        from = w.from;
        up = w.up;
        to = w.to;
        may = r.candidate.each (first_in (view t) (suc i) (view t i)) (omega arith) (omega arith) w.up w.real;
      }

  -- the first inner pair, or the closing place where there is none, is in reach
  pub record Foremost (x : ℕ) : Type 0 where
    pub from : i < x
    pub to : x ≤ view t i
    pub mate : view t x < length t

  pub foremost : Foremost (first_in (view t) (suc i) (view t i))
  foremost =
      let c = closes in
      let u = c.up in
      let v = c.within in
      let x = first_in (view t) (suc i) (view t i) in
      let l = first_le (view t) (view t i - suc i) (suc i) in
      record {
        from = omega arith;
        to = omega arith;
        mate = ⊎_elim
            (λ e. let q : x ≡ view t i = omega arith in let z : view t x ≡ i = ap (view t) q ∙ c.back in omega arith)
            (λ e. (r.candidate.fold.mate x (omega arith) (omega arith) (opening_true x (view t x) e).1).1)
            (first_found (view t) (view t i - suc i) (suc i));
      }

  figured_by : (m : ℕ) → arms_in (view t) (suc i) (view t i) ≡ m
      → let x = first_in (view t) (suc i) (view t i) in
      Figured (kind_by (view b) i (view t i) m x (view t x)) (pair_index (view b i) (view b (view t i))) (pair_index (view b x) (view b (view t x)))
      (purines (view b (i + 1)) (view b (view t i - 1)))
  unfolding kind_by
  figured_by zero e =
      let c = closes in
      let w = c.within in
      let s = r.short in
      (omega (arith, close_far (view b) i (view t i) c.may), omega arith, purines_le (view b (i + 1)) (view b (view t i - 1)))
  figured_by (suc zero) e =
      let x = first_in (view t) (suc i) (view t i) in
      single_figured (view b) i (view t i) x (view t x) _ _ _
      (index_below (view b i) (view b (view t i)) (close_pair (view b) i (view t i) closes.may))
      (index_below (view b x) (view b (view t x)) (close_pair (view b) x (view t x) (one_inner e).may))
  figured_by (suc (suc m)) e =
      let w = closes.within in
      let s = r.short in
      (omega arith, omega (arith, arms_le (view t) (suc i) (view t i)))

  -- its loop has a figure
  pub figured : let x = first_in (view t) (suc i) (view t i) in
      Figured (kind (view b) (view t) i) (pair_index (view b i) (view b (view t i))) (pair_index (view b x) (view b (view t x)))
      (purines (view b (i + 1)) (view b (view t i - 1)))
  unfolding kind
  figured = figured_by (arms_in (view t) (suc i) (view t i)) refl

  -- the same as the code finds it, part by part
  pub inner_at_lem : (x m : ℕ) → m ≡ arms_in (view t) (i + 1) (view t i) → m ≡ 1 → x ≡ first_in (view t) (i + 1) (view t i) → Inner x
  inner_at_lem x m em e ex = rw (ex, add-one i) (one_inner (sym (rw (add-one i) at em) ∙ e))

  pub first_at : (x : ℕ) → x ≡ first_in (view t) (i + 1) (view t i) → Foremost x
  first_at x ex = rw (ex, add-one i) foremost

  pub figured_at : (l : Loop) (x o n q : ℕ) → l ≡ kind (view b) (view t) i → x ≡ first_in (view t) (i + 1) (view t i)
      → o ≡ pair_index (view b i) (view b (view t i)) → n ≡ pair_index (view b x) (view b (view t x)) → q ≡ purines (view b (i + 1)) (view b (view t i - 1))
      → Figured l o n q
  figured_at l x o n q el ex eo en eq = rw (el, eo, en, rw (add-one i) at ex, eq) figured

  -- its charge is within 500,000
  pub charge_near : In (negsuc 499999) (pos 500000) (charge_at (view b) (view t) i)
  unfolding charge_at charge_by charge_most figure_most
  charge_near =
      let x = first_in (view t) (suc i) (view t i) in
      omega (
        ints,
        longest_low,
        term_low,
        charge_in (kind (view b) (view t) i) (pair_index (view b i) (view b (view t i))) (pair_index (view b x) (view b (view t x)))
            (purines (view b (i + 1)) (view b (view t i - 1))) figured,
      )

-- ---- sums
pub total_more : (b p : ℕ → ℕ) (k : ℕ) → total b p (k + 1) ≡ total b p k +ℤ cond (opening k (p k)) (charge_at b p k) (pos 0)
unfolding total
total_more b p k = rw (add-one k)

-- what a position adds is within 500,000, and so many together are small
module _ (b t : List ℕ) (r : Chargeable b t) where
  share_near : (k : ℕ) → k < length t → In (negsuc 499999) (pos 500000) (cond (opening k (view t k)) (charge_at (view b) (view t) k) (pos 0))
  share_near k h = grind (ints, charge_near b t r k h)

  total_near : (k : ℕ) → k ≤ length t
      → (total (view b) (view t) k ≤ℤ pos (500000 * k)) × (pos 0 ≤ℤ (total (view b) (view t) k +ℤ pos (500000 * k)))
  unfolding total
  total_near zero h = (omega ints, omega ints)
  total_near (suc k) h =
      let q = total_near k (omega arith) in
      let w = share_near k h in
      (omega ints, omega ints)

  pub total_small : (k : ℕ) → k ≤ length t → Small (total (view b) (view t) k)
  total_small k h =
      let s = r.short in
      let q = total_near k h in
      omega (ints, longest_low)
