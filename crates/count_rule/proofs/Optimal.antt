-- No allowed structure on a span has more pairs than its cell: by induction on the span, taken apart at its first position.
-- Assumes nothing.
use mathlib.Core.Path.{◌≡◌, ap}
use mathlib.Core.Logic.{by_cases}
use mathlib.Core.List.{List}
use Prim.Native.Nat.{ℕ, zero, suc, ◌+◌, ◌-◌, ◌<◌, ◌≤◌}
use native.Mathlib.Omega.{arith}
use native.Mathlib.Numerals.{add-one}
use native.Mathlib.Decide.{dec_lt, ℕ_discrete}
use lib.ListN.{length}
use Rattle.cells.specs.Rule.{Bases, Cells, Right, span}
use Rattle.structure.specs.Table.{unpaired, view, opened, pairs}
use Rattle.structure.proofs.Folds.{tail, inner, outer, first}
use Rattle.structure.proofs.Counts.{opens_none, opens_low, opens_high}
use Rattle.count_rule.specs.Rule.{nussinov}
use Rattle.count_rule.specs.Allowed.{Allowed, May}
use Rattle.count_rule.specs.Counts.{Ruled}
use Rattle.cells.proofs.Spans.{span_some, span_none}
use Rattle.count_rule.proofs.Ruling.{right_ruled}

module _ (can : ℕ → ℕ → Type 0) (n : ℕ) (c : Cells ℕ) (w : Ruled can n c) where
  span_left : (lo hi : ℕ) → lo < hi → hi ≤ n → span c (suc lo) hi ≤ span c lo hi
  span_left lo hi l h =
      rw (← add-one lo)
      (by_cases (dec_lt (lo + 1) hi)
      (λ s. omega (arith, span_some c lo hi l, span_some c (lo + 1) hi s, w.left lo (hi - 1) (omega arith) (omega arith)))
      (λ s. omega (arith, span_none c (lo + 1) hi (omega arith))))

  span_pair : (lo k : ℕ) → lo < k → k < n → can lo k → span c (suc lo) k + 1 ≤ c lo k
  span_pair lo k l h y = rw (← add-one lo) (w.pair lo k l h y)

  span_cut : (lo k hi : ℕ) → lo < k → k < hi → hi ≤ n → c lo k + span c (suc k) hi ≤ span c lo hi
  span_cut lo k hi l r h =
      rw (← add-one k)
      (by_cases (dec_lt (k + 1) hi)
      (λ s. omega (arith, span_some c lo hi (omega arith), span_some c (k + 1) hi s, w.cut lo k (hi - 1) l (omega arith) (omega arith)))
      (λ s.
      let e : k ≡ hi - 1 = omega arith in
      omega (arith, span_some c lo hi (omega arith), span_none c (k + 1) hi (omega arith), ap (c lo) e)))

  module _ (p : ℕ → ℕ) where
    -- by induction on a bound f of the span
    pub bounded : (f lo hi : ℕ) → hi ≤ lo + f → lo ≤ hi → hi ≤ n → Allowed can p lo hi → opened p hi ≤ opened p lo + span c lo hi
    bounded zero lo hi m l h a = let e : hi ≡ lo = omega arith in omega (arith, ap (opened p) e)
    bounded (suc f) lo hi m l h a = by_cases (ℕ_discrete hi lo)
        (λ e. omega (arith, ap (opened p) e))
        (λ ne. by_cases (ℕ_discrete (p lo) unpaired)
        (λ e.
        let r = bounded f (suc lo) hi (omega arith) (omega arith) h
        (record { fold = tail p a.fold e; each = λ k u. a.each k (omega arith) }) in
        omega (arith, opens_none lo (p lo) e, span_left lo hi (omega arith) h))
        (λ q.
        let s = first p a.fold (omega arith) q in
        let e = s.2 in
        let x = bounded f (suc lo) (p lo) (omega arith) s.0 (omega arith)
        (record { fold = inner p a.fold s.0 s.1; each = λ k u v. a.each k (omega arith) (omega arith) }) in
        let y = bounded f (suc (p lo)) hi (omega arith) s.1 h
        (record { fold = outer p a.fold s.0 s.1; each = λ k u. a.each k (omega arith) }) in
        let b = a.fold.fits in
        omega (
          arith,
          opens_high lo (p lo) s.0 q,
          opens_low (p lo) (p (p lo)) (omega arith) (omega arith),
          span_pair lo (p lo) s.0 (omega arith) (a.each lo (omega arith) (omega arith) s.0 q),
          span_cut lo (p lo) hi s.0 s.1 h,
        )))

-- the last cell of a right table is the greatest count: no allowed structure has more pairs
pub greatest :
    (gap n : ℕ) (b : Bases) (c : Cells ℕ) → 0 < n → n < 65535 → Right (nussinov gap) b c n → (t : List ℕ) → length t ≡ n →
    Allowed (May b gap) (view t) 0 n → pairs t ≤ c 0 (n - 1)
greatest gap n b c h l r t e a =
    rw e
    (omega (arith, bounded (May b gap) n c (right_ruled gap n b c r) (view t) n 0 n (omega arith) (omega arith) (omega arith) a, span_some c 0 n h))
