-- Searches, and what they say of their tests. Assumes nothing.
use mathlib.Core.Path.{◌≡◌, refl, ap, subst, sym, ◌∙◌}
use mathlib.Core.Logic.{by_cases}
use mathlib.Core.Bool.{Bool, true, false, cond}
use Prim.Native.Nat.{ℕ, zero, suc, ◌+◌, ◌-◌, ◌<◌, ◌≤◌}
use native.Mathlib.Decide.{ℕ_discrete}
use native.Mathlib.Omega.{arith}
use Rattle.std.proofs.Common.{Option, None, Some}
use Rattle.std.specs.Option.{MatchOption}
use Rattle.searches.specs.First.{first_passing}

-- what was found passes, and is among the n numbers from k on; where nothing was, none passes
pub data Sought (test : ℕ → Bool) (k n : ℕ) : Option ℕ → Type 0 where
  hit : {x : ℕ} → k ≤ x → x < k + n → test x ≡ true → Sought test k n (Some x)
  miss : ((x : ℕ) → k ≤ x → x < k + n → test x ≡ false) → Sought test k n None

sought_next : {test : ℕ → Bool} {k n : ℕ} {f : Option ℕ} → test k ≡ false → Sought test (k + 1) n f → Sought test k (suc n) f
sought_next {test} {k} {n} e (hit {x} a c d) = hit {x = x} (omega arith) (omega arith) d
sought_next {test} {k} {n} e (miss f) = miss (λ x a c. by_cases (ℕ_discrete x k) (λ q. ap test q ∙ e) (λ q. f x (omega arith) (omega arith)))

pub sought : (test : ℕ → Bool) (n k : ℕ) → Sought test k n (first_passing test k n)
unfolding first_passing
sought test zero k = miss (λ x a c. absurd (omega arith))
sought test (suc n) k = passes (test k) refl (sought test n (k + 1))
  where
    passes : (r : Bool) → test k ≡ r → Sought test (k + 1) n (first_passing test (k + 1) n) → Sought test k (suc n) (cond r (Some k) (first_passing test (k + 1) n))
    passes true e s = hit {x = k} (omega arith) (omega arith) e
    passes false e s = sought_next e s

module _ (test : ℕ → Bool) (n k : ℕ) where
  pub first_found : (x : ℕ) → first_passing test k n ≡ Some x → (k ≤ x) × (x < k + n) × (test x ≡ true)
  first_found x e = found (subst (Sought test k n) e (sought test n k))
    where
      found : Sought test k n (Some x) → (k ≤ x) × (x < k + n) × (test x ≡ true)
      found (hit a c d) = (a, c, d)

  pub first_missed : first_passing test k n ≡ None → (x : ℕ) → k ≤ x → x < k + n → test x ≡ false
  first_missed e = missed (subst (Sought test k n) e (sought test n k))
    where
      missed : Sought test k n None → (x : ℕ) → k ≤ x → x < k + n → test x ≡ false
      missed (miss f) = f

-- a search depends on its test where it looks
pub first_same : (test test' : ℕ → Bool) (m k : ℕ) → ((x : ℕ) → k ≤ x → x < k + m → test x ≡ test' x) → first_passing test k m ≡ first_passing test' k m
unfolding first_passing
first_same test test' zero k e = refl
first_same test test' (suc m) k e =
    λ i. cond (e k (omega arith) (omega arith) i) (Some k) (first_same test test' m (k + 1) (λ x p q. e x (omega arith) (omega arith)) i)

-- what `find` answers of a range is the first that passes
first_by :
    (test : ℕ → Bool) (k j n : ℕ) (r : Option ℕ) → n ≡ j - k →
    MatchOption r ((x : ℕ) → k ≤ x → x < j → test x ≡ false)
    (λ i. (k ≤ i) × (i < j) × (test i ≡ true) × ((x : ℕ) → k ≤ x → x < i → test x ≡ false)) → r ≡ first_passing test k n
unfolding first_passing
first_by test k j zero None e h = refl
first_by test k j zero (Some i) e h = absurd (omega arith)
first_by test k j (suc n) None e h =
    simp (h k (omega arith) (omega arith)) (first_by test (k + 1) j n None (omega arith) (λ x p q. h x (omega arith) q))
first_by test k j (suc n) (Some i) e h = by_cases (ℕ_discrete i k)
    (λ q. let t : test k ≡ true = ap test (sym q) ∙ h.2 in simp t (ap Some q))
    (λ q.
    simp (h.3 k (omega arith) (omega arith))
    (first_by test (k + 1) j n (Some i) (omega arith) (omega arith, h.1, h.2, λ x p u. h.3 x (omega arith) u)))

pub first_of_range :
    (test : ℕ → Bool) (k j : ℕ) (r : Option ℕ) →
    MatchOption r ((x : ℕ) → k ≤ x → x < j → test x ≡ false)
    (λ i. (k ≤ i) × (i < j) × (test i ≡ true) × ((x : ℕ) → k ≤ x → x < i → test x ≡ false)) → r ≡ first_passing test k (j - k)
first_of_range test k j r h = first_by test k j (j - k) r refl h
