-- What a count of openings depends on. Assumes nothing.
use mathlib.Core.Bool.{Bool, true, false, cond}
use mathlib.Core.Path.{◌≡◌, refl, sym, ap, ◌∙◌}
use mathlib.Core.Logic.{◌≢◌, by_cases}
use Prim.Native.Nat.{ℕ, zero, suc, ◌+◌, ◌<◌, ◌≤◌}
use native.Mathlib.Omega.{arith}
use native.Mathlib.Numerals.{add-one}
use native.Mathlib.Decide.{dec_lt, ℕ_discrete}
use borrow.Author.Tests.{lt-ltb, le-ltb, eq-eqb, ne_eqb}
use Rattle.structure.specs.Table.{unpaired, opens, opened}

pub opens_none : (k v : ℕ) → v ≡ unpaired → opens k v ≡ 0
opens_none k v e = rw (eq-eqb v unpaired e)

pub opens_low : (k v : ℕ) → v ≤ k → k < unpaired → opens k v ≡ 0
opens_low k v h l = rw (ne_eqb v unpaired (λ e. omega arith), le-ltb k v h)

pub opens_high : (k v : ℕ) → k < v → v ≢ unpaired → opens k v ≡ 1
opens_high k v h n = rw (ne_eqb v unpaired n, lt-ltb k v h)

-- what the test that a position opens a pair tells of the count
pub opens_true : {r : Bool} (k v : ℕ) → cond r 1 0 ≡ opens k v → r ≡ true → opens k v ≡ 1
opens_true k v e t = sym e ∙ ap (λ (b : Bool). cond b 1 0) t

pub opens_false : {r : Bool} (k v : ℕ) → cond r 1 0 ≡ opens k v → r ≡ false → opens k v ≡ 0
opens_false k v e f = sym e ∙ ap (λ (b : Bool). cond b 1 0) f

-- a position that opens no pair is unpaired, or its partner lies no further right
pub low_or_none : (k v : ℕ) → opens k v ≡ 0 → v ≢ unpaired → v ≤ k
low_or_none k v z n = by_cases (dec_lt k v) (λ h. omega (arith, opens_high k v h n)) (λ h. omega arith)

-- a position whose partner stands right of the next one opens a pair
pub opens_before : (k v : ℕ) → opens (k + 1) v ≢ 0 → opens k v ≢ 0
opens_before k v o z = by_cases (ℕ_discrete v unpaired)
    (λ e. o (opens_none (k + 1) v e))
    (λ n. by_cases (dec_lt k v) (λ h. omega (arith, z, opens_high k v h n)) (λ h. o (rw (ne_eqb v unpaired n, le-ltb (k + 1) v (omega arith)) refl)))

-- counts over a span differ alike where the entries are alike
pub opened_moved : (p q : ℕ → ℕ) (lo hi : ℕ) → lo ≤ hi → ((k : ℕ) → lo ≤ k → k < hi → q k ≡ p k) → opened q hi + opened p lo ≡ opened p hi + opened q lo
opened_moved p q lo zero h s = let e : lo ≡ 0 = omega arith in omega (arith, ap (opened p) e, ap (opened q) e)
opened_moved p q lo (suc hi) h s = by_cases (ℕ_discrete lo (suc hi))
    (λ e. omega (arith, ap (opened p) e, ap (opened q) e))
    (λ n. let r = opened_moved p q lo hi (omega arith) (λ k l u. s k l (omega arith)) in
    omega (arith, ap (opens hi) (s hi (omega arith) (omega arith))))

pub opened_step : (p : ℕ → ℕ) (i n v : ℕ) → n ≡ opened p i → v ≡ opens i (p i) → n + v ≡ opened p (i + 1)
opened_step p i n v e o = rw (add-one i) (omega arith)

pub opens_le : (k v : ℕ) → opens k v ≤ 1
opens_le k v = by_cases (ℕ_discrete v unpaired)
    (λ e. omega (arith, opens_none k v e))
    (λ n. by_cases (dec_lt k v) (λ h. omega (arith, opens_high k v h n)) (λ h. rw (ne_eqb v unpaired n, le-ltb k v (omega arith)) (omega arith)))

-- no more positions open a pair than there are
pub opened_le : (p : ℕ → ℕ) (k : ℕ) → opened p k ≤ k
opened_le p zero = omega arith
opened_le p (suc k) = omega (arith, opened_le p k, opens_le k (p k))
