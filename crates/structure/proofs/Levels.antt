-- Openings and closings: within a span that folds what closed never exceeds what opened, and its ends stand at one height. Assumes nothing.
use mathlib.Core.Path.{◌≡◌, ap}
use mathlib.Core.Logic.{◌≢◌, by_cases}
use Prim.Native.Nat.{ℕ, zero, suc, ◌+◌, ◌<◌, ◌≤◌}
use native.Mathlib.Omega.{arith}
use native.Mathlib.Decide.{dec_lt, ℕ_discrete}
use borrow.Author.Tests.{lt-ltb, le-ltb, eq-eqb, ne_eqb}
use Rattle.structure.specs.Table.{unpaired, Fold, opened, closes, closed}
use Rattle.structure.proofs.Counts.{opens_none, opens_low, opens_high}
use Rattle.structure.proofs.Folds.{tail, inner, outer, first}

pub closes_none : (k v : ℕ) → v ≡ unpaired → closes k v ≡ 0
closes_none k v e = rw (eq-eqb v unpaired e)

pub closes_low : (k v : ℕ) → v < k → v ≢ unpaired → closes k v ≡ 1
closes_low k v h n = rw (ne_eqb v unpaired n, lt-ltb v k h)

pub closes_high : (k v : ℕ) → k ≤ v → v ≢ unpaired → closes k v ≡ 0
closes_high k v h n = rw (ne_eqb v unpaired n, le-ltb v k h)

module _ (p : ℕ → ℕ) where
  -- a span whose ends stand at one height: as many closed as opened within it
  abbrev Level : ℕ → ℕ → Type 0
  Level lo hi = closed p hi + opened p lo ≡ opened p hi + closed p lo

  -- a pair around a level span
  arm : {i hi : ℕ} → Fold p i hi → i < hi → p i ≢ unpaired → Level (suc i) (p i) → Level i (suc (p i))
  arm {i} {hi} f h n e =
      let w = f.fits in
      let m = first p f h n in
      let back : closes (p i) (p (p i)) ≡ 1 = closes_low (p i) (p (p i)) (omega arith) (omega arith) in
      omega (arith, opens_high i (p i) m.0 n, closes_high i (p i) (omega arith) n, back, opens_low (p i) (p (p i)) (omega arith) (omega arith))

  level : (f lo hi : ℕ) → hi ≤ lo + f → lo ≤ hi → Fold p lo hi → Level lo hi
  level zero lo hi m l s = let e : hi ≡ lo = omega arith in omega (arith, ap (closed p) e, ap (opened p) e)
  level (suc f) lo hi m l s =
      by_cases (ℕ_discrete hi lo)
      (λ e. omega (arith, ap (closed p) e, ap (opened p) e))
      (λ ne. by_cases (ℕ_discrete (p lo) unpaired)
      (λ e. let r = level f (suc lo) hi (omega arith) (omega arith) (tail p s e) in
      omega (arith, opens_none lo (p lo) e, closes_none lo (p lo) e))
      (λ n. let o = first p s (omega arith) n in
      let a = arm s (omega arith) n (level f (suc lo) (p lo) (omega arith) (omega arith) (inner p s o.0 o.1)) in
      let r = level f (suc (p lo)) hi (omega arith) (omega arith) (outer p s o.0 o.1) in
      omega arith))

  -- within a span that folds, what closed never exceeds what opened
  below : (f lo hi k : ℕ) → hi ≤ lo + f → Fold p lo hi → lo ≤ k → k ≤ hi → closed p k + opened p lo ≤ opened p k + closed p lo
  below zero lo hi k m s l h = let e : k ≡ lo = omega arith in omega (arith, ap (closed p) e, ap (opened p) e)
  below (suc f) lo hi k m s l h =
      by_cases (ℕ_discrete k lo)
      (λ e. omega (arith, ap (closed p) e, ap (opened p) e))
      (λ ne. by_cases (ℕ_discrete (p lo) unpaired)
      (λ e. let r = below f (suc lo) hi k (omega arith) (tail p s e) (omega arith) h in
      omega (arith, opens_none lo (p lo) e, closes_none lo (p lo) e))
      (λ n. let o = first p s (omega arith) n in
      let g = inner p s o.0 o.1 in
      by_cases (dec_lt (p lo) k)
      (λ u. let a = arm s (omega arith) n (level f (suc lo) (p lo) (omega arith) (omega arith) g) in
      let r = below f (suc (p lo)) hi k (omega arith) (outer p s o.0 o.1) u h in
      omega arith)
      (λ u. let r = below f (suc lo) (p lo) k (omega arith) g (omega arith) (omega arith) in
      omega (arith, opens_high lo (p lo) o.0 n, closes_high lo (p lo) (omega arith) n))))

  pub closed_below : {lo hi k : ℕ} → Fold p lo hi → lo ≤ k → k ≤ hi → closed p k + opened p lo ≤ opened p k + closed p lo
  closed_below {lo} {hi} {k} s l h = below hi lo hi k (omega arith) s l h

  -- the ends of a span that folds stand at one height
  pub closed_level : {lo hi : ℕ} → Fold p lo hi → lo ≤ hi → closed p hi + opened p lo ≡ opened p hi + closed p lo
  closed_level {lo} {hi} s l = level hi lo hi (omega arith) l s
