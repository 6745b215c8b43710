-- Arms, the first of them, and the sum of charges along a span that folds: what each step of a walk over it changes.
use mathlib.Core.Path.{◌≡◌, refl, sym, ap, ap₂, ◌∙◌}
use mathlib.Core.Logic.{◌≢◌, by_cases}
use mathlib.Core.Bool.{true, false}
use Prim.Native.Nat.{ℕ, zero, suc, ◌+◌, ◌-◌, ◌<◌, ◌≤◌}
use native.Mathlib.Omega.{arith}
use native.Mathlib.Decide.{ℕ_discrete}
use lib.IntN.{◌+ℤ◌}
use Rattle.structure.specs.Table.{unpaired, Fold}
use Rattle.structure.proofs.Folds as folds
use Rattle.charges.specs.Loops.{opening, arms, arms_in, first, first_in, charge_at, total}

-- ---- openings
pub shut_none : (k v : ℕ) → v ≡ unpaired → opening k v ≡ false
shut_none k v e = grind arith

pub shut_low : (k v : ℕ) → v ≤ k → opening k v ≡ false
shut_low k v h = grind arith

pub opens_up : (k v : ℕ) → k < v → v ≢ unpaired → opening k v ≡ true
opens_up k v h n = grind arith

module _ (p : ℕ → ℕ) where
  -- ---- arms
  arms_skip : (n s k : ℕ) → s ≤ n → arms p n s k ≡ arms p (n - s) 0 (k + s)
  unfolding arms
  arms_skip zero zero k h = refl
  arms_skip zero (suc s) k h = absurd (omega arith)
  arms_skip (suc n) zero k h =
      let e : suc n ≡ suc n - 0 = omega arith in
      let q : k ≡ k + 0 = omega arith in
      ap₂ (λ x y. arms p x 0 y) e q
  arms_skip (suc n) (suc s) k h =
      let e : n - s ≡ suc n - suc s = omega arith in
      let q : suc k + s ≡ k + suc s = omega arith in
      arms_skip n s (suc k) (omega arith) ∙ ap₂ (λ x y. arms p x 0 y) e q

  pub arms_none : (lo hi : ℕ) → hi ≤ lo → arms_in p lo hi ≡ 0
  unfolding arms
  arms_none lo hi h = grind arith

  pub arms_free : (lo hi : ℕ) → lo < hi → opening lo (p lo) ≡ false → arms_in p lo hi ≡ arms_in p (suc lo) hi
  unfolding arms
  arms_free lo hi h o = grind arith

  pub arms_pair : (lo hi : ℕ) → lo < p lo → p lo < hi → p lo ≢ unpaired → arms_in p lo hi ≡ suc (arms_in p (suc (p lo)) hi)
  unfolding arms
  arms_pair lo hi h l n =
      let e : hi - lo ≡ suc (hi - suc lo) = omega arith in
      let a : (hi - suc lo) - (p lo - lo) ≡ hi - suc (p lo) = omega arith in
      let c : suc lo + (p lo - lo) ≡ suc (p lo) = omega arith in
      ap (λ x. arms p x 0 lo) e ∙ rw (opens_up lo (p lo) h n)
      (ap suc (arms_skip (hi - suc lo) (p lo - lo) (suc lo) (omega arith) ∙ ap₂ (λ x y. arms p x 0 y) a c))

  -- ---- the first opening
  pub first_here : (lo hi : ℕ) → lo < hi → opening lo (p lo) ≡ true → first_in p lo hi ≡ lo
  unfolding first
  first_here lo hi h o = grind arith

  pub first_next : (lo hi : ℕ) → lo < hi → opening lo (p lo) ≡ false → first_in p lo hi ≡ first_in p (suc lo) hi
  unfolding first
  first_next lo hi h o = grind arith

  pub first_none : (lo hi : ℕ) → hi ≤ lo → first_in p lo hi ≡ lo
  unfolding first
  first_none lo hi h = grind arith

  pub first_le : (n k : ℕ) → (k ≤ first p n k) × (first p n k ≤ k + n)
  unfolding first
  first_le zero k = (omega arith, omega arith)
  first_le (suc n) k = grind (arith, first_le n (suc k))

  -- ---- sums
  module _ (b : ℕ → ℕ) where
    pub total_free : (k : ℕ) → opening k (p k) ≡ false → total b p (suc k) ≡ total b p k
    unfolding total
    total_free k o = grind arith

    pub total_open : (k : ℕ) → k < p k → p k ≢ unpaired → total b p (suc k) ≡ total b p k +ℤ charge_at b p k
    unfolding total
    total_open k h n = grind arith

    -- a pair and what lies behind it
    pub closing : {lo hi : ℕ} → Fold p lo hi → lo < hi → p lo ≢ unpaired → total b p (suc (p lo)) ≡ total b p (p lo)
    closing {lo} {hi} f h n = let s = folds.first p f h n in let e = s.2 in total_free (p lo) (shut_low (p lo) (p (p lo)) (omega arith))

    -- ---- a span with no arm costs nothing
    pub armless : (f lo hi : ℕ) → hi ≤ lo + f → lo ≤ hi → Fold p lo hi → arms_in p lo hi ≡ 0 → total b p hi ≡ total b p lo
    armless zero lo hi m l d z = let e : hi ≡ lo = omega arith in ap (total b p) e
    armless (suc f) lo hi m l d z = by_cases (ℕ_discrete hi lo)
        (λ e. ap (total b p) e)
        (λ ne. by_cases (ℕ_discrete (p lo) unpaired)
        (λ e. let o = shut_none lo (p lo) e in
        armless f (suc lo) hi (omega arith) (omega arith) (folds.tail p d e) (sym (arms_free lo hi (omega arith) o) ∙ z) ∙ total_free lo o)
        (λ q. let s = folds.first p d (omega arith) q in
        absurd (omega (arith, arms_pair lo hi s.0 s.1 q))))

    -- ---- the arms of two spans side by side
    pub arms_join : (f lo mid hi : ℕ) → mid ≤ lo + f → lo ≤ mid → mid ≤ hi → Fold p lo mid → arms_in p lo hi ≡ arms_in p lo mid + arms_in p mid hi
    arms_join zero lo mid hi m l h d =
        let e : lo ≡ mid = omega arith in
        omega (arith, arms_none lo mid (omega arith), ap (λ x. arms_in p x hi) e)
    arms_join (suc f) lo mid hi m l h d = by_cases (ℕ_discrete lo mid)
        (λ e. omega (arith, arms_none lo mid (omega arith), ap (λ x. arms_in p x hi) e))
        (λ ne. by_cases (ℕ_discrete (p lo) unpaired)
        (λ e. let o = shut_none lo (p lo) e in
        omega (
          arith,
          arms_join f (suc lo) mid hi (omega arith) (omega arith) h (folds.tail p d e),
          arms_free lo hi (omega arith) o,
          arms_free lo mid (omega arith) o,
        ))
        (λ q. let s = folds.first p d (omega arith) q in
        omega (
          arith,
          arms_join f (suc (p lo)) mid hi (omega arith) s.1 h (folds.outer p d s.0 s.1),
          arms_pair lo hi s.0 (omega arith) q,
          arms_pair lo mid s.0 s.1 q,
        )))

    -- ---- the one arm of a span that has one
    pub record One (lo hi x : ℕ) : Type 0 where
      pub from : lo ≤ x
      pub up : x < p x
      pub to : p x < hi
      pub real : p x ≢ unpaired
      pub back : p (p x) ≡ x
      pub before : total b p x ≡ total b p lo
      pub after : total b p hi ≡ total b p (suc (p x))

    pub one_arm : (f lo hi : ℕ) → hi ≤ lo + f → lo ≤ hi → Fold p lo hi → arms_in p lo hi ≡ 1 → One lo hi (first_in p lo hi)
    one_arm zero lo hi m l d z = absurd (omega (arith, arms_none lo hi (omega arith)))
    one_arm (suc f) lo hi m l d z = by_cases (ℕ_discrete lo hi)
        (λ e. absurd (omega (arith, arms_none lo hi (omega arith))))
        (λ ne. by_cases (ℕ_discrete (p lo) unpaired)
        (λ e. let o = shut_none lo (p lo) e in
        let r = one_arm f (suc lo) hi (omega arith) (omega arith) (folds.tail p d e) (sym (arms_free lo hi (omega arith) o) ∙ z) in
        rw (first_next lo hi (omega arith) o)
        (record {
          from = let u = r.from in omega arith;
          up = r.up;
          to = r.to;
          real = r.real;
          back = r.back;
          before = r.before ∙ total_free lo o;
          after = r.after;
        }))
        (λ q. let s = folds.first p d (omega arith) q in
        rw (first_here lo hi (omega arith) (opens_up lo (p lo) s.0 q))
        (record {
          from = omega arith;
          up = s.0;
          to = s.1;
          real = q;
          back = s.2;
          before = refl;
          after = armless hi (suc (p lo)) hi (omega arith) s.1 (folds.outer p d s.0 s.1) (omega (arith, arms_pair lo hi s.0 s.1 q));
        })))

    -- ---- unpaired positions in front
    pub record Bare (lo x hi : ℕ) : Type 0 where
      pub count : arms_in p lo hi ≡ arms_in p x hi
      pub head : first_in p lo hi ≡ first_in p x hi
      pub none : total b p x ≡ total b p lo

    pub bare : (f lo x hi : ℕ) → x ≤ lo + f → lo ≤ x → x ≤ hi → ((k : ℕ) → lo ≤ k → k < x → p k ≡ unpaired) → Bare lo x hi
    bare zero lo x hi m l h z = let e : lo ≡ x = omega arith in rw e (record { count = refl; head = refl; none = refl })
    bare (suc f) lo x hi m l h z = by_cases (ℕ_discrete lo x)
        (λ e. rw e (record { count = refl; head = refl; none = refl }))
        (λ ne.
        let o = shut_none lo (p lo) (z lo (omega arith) (omega arith)) in
        let r = bare f (suc lo) x hi (omega arith) (omega arith) h (λ k u. z k (omega arith)) in
        record {
          count = arms_free lo hi (omega arith) o ∙ r.count;
          head = first_next lo hi (omega arith) o ∙ r.head;
          none = r.none ∙ total_free lo o;
        })
