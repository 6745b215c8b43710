-- The laws of the pair-count rule: what each part of it is, that it looks at nothing but the bases and the shorter spans inside, and
-- that it keeps cells believable. Assumes nothing.
use mathlib.Core.Path.{◌≡◌, refl, ap, ap₂, ◌∙◌, sym}
use mathlib.Core.Bool.{Bool, true, false, cond}
use mathlib.Core.Logic.{⊎_elim}
use Prim.Native.Nat.{ℕ, zero, suc, ◌+◌, ◌-◌, ◌/◌, ◌≤◌, ◌<◌, max}
use native.Mathlib.Omega.{arith}
use borrow.Author.Tests.{lt-ltb, le-ltb}
use Rattle.cells.specs.Rule.{Bases, Cells, Local, SameInside, span}
use Rattle.cells.specs.Fill.{FineInside, Keeps}
use Rattle.cells.proofs.Places.{less_or}
use Rattle.cells.proofs.Spans.{span_same, span_under}
use Rattle.count_rule.specs.Rule.{may_pair, best, paired, split, nussinov, Half}

-- ---- the largest of a range

-- one more at the front
pub best_down : (f : ℕ → ℕ) (lo m : ℕ) → best f lo (suc m) ≡ max (best f (lo + 1) m) (f lo)
unfolding best
best_down f lo zero = let e : lo + 0 ≡ lo = omega arith in rw e
best_down f lo (suc m) = let e : lo + suc m ≡ lo + 1 + m = omega arith in omega (arith, best_down f lo m, ap f e)

pub best_same : (f g : ℕ → ℕ) (lo m : ℕ) → ((k : ℕ) → lo ≤ k → k < lo + m → f k ≡ g k) → best f lo m ≡ best g lo m
unfolding best
best_same f g lo zero e = refl
best_same f g lo (suc m) e = ap₂ max (best_same f g lo m (λ k p q. e k p (omega arith))) (e (lo + m) (omega arith) (omega arith))

pub best_under : (f : ℕ → ℕ) (lo m v : ℕ) → ((k : ℕ) → lo ≤ k → k < lo + m → f k ≤ v) → best f lo m ≤ v
unfolding best
best_under f lo zero v e = omega arith
best_under f lo (suc m) v e =
    omega (arith, best_under f lo m v (λ k p q. e k p (omega arith)), e (lo + m) (omega arith) (omega arith))

-- ---- i with j

module _ (gap : ℕ) (b : Bases) (c : Cells ℕ) (i j : ℕ) where
  pub paired_none : may_pair b gap i j ≡ false → paired gap b c i j ≡ 0
  unfolding paired
  paired_none p = rw p

  pub paired_some : may_pair b gap i j ≡ true → paired gap b c i j ≡ span c (i + 1) j + 1
  unfolding paired
  paired_some p = rw p

  pub paired_under : (v : ℕ) → span c (i + 1) j ≤ v → paired gap b c i j ≤ v + 1
  unfolding paired
  paired_under v h = go (may_pair b gap i j)
    where
      go : (t : Bool) → cond t (span c (i + 1) j + 1) 0 ≤ v + 1
      go true = omega arith
      go false = omega arith

-- it depends on its two bases and on the span between them
pub paired_same :
    (gap : ℕ) (b b' : Bases) (c c' : Cells ℕ) (i j : ℕ) → b i ≡ b' i → b j ≡ b' j → span c (i + 1) j ≡ span c' (i + 1) j →
    paired gap b c i j ≡ paired gap b' c' i j
unfolding paired may_pair
paired_same gap b b' c c' i j e f s = rw (e, f, s)

-- ---- the rule, in its two cases

module _ (gap : ℕ) (b : Bases) (c : Cells ℕ) (i j : ℕ) where
  pub nussinov_one : i ≡ j → nussinov gap b c i j ≡ 0
  unfolding nussinov
  nussinov_one e = rw (le-ltb i j (omega arith))

  pub nussinov_more :
      i < j → nussinov gap b c i j ≡ max (max (max (c (i + 1) j) (c i (j - 1))) (paired gap b c i j)) (split c i j)
  unfolding nussinov
  nussinov_more l = rw (lt-ltb i j l)

-- ---- it looks at nothing else

split_same : (c c' : Cells ℕ) (i j : ℕ) → SameInside c c' i j → split c i j ≡ split c' i j
unfolding split
split_same c c' i j f =
    best_same _ _ (i + 1) (j - (i + 1))
    (λ k p q. ap₂ ◌+◌ (f i k (omega arith) (omega arith) (omega arith) (omega arith)) (f (k + 1) j (omega arith) (omega arith) (omega arith) (omega arith)))

pub nussinov_local : (gap : ℕ) → Local (nussinov gap)
nussinov_local gap b b' c c' i j h e f =
    ⊎_elim
    (λ l.
    nussinov_more gap b c i j l
    ∙ ap₂ max
    (ap₂ max
    (ap₂ max (f (i + 1) j (omega arith) (omega arith) (omega arith) (omega arith)) (f i (j - 1) (omega arith) (omega arith) (omega arith) (omega arith)))
    (paired_same gap b b' c c' i j (e i (omega arith) h) (e j h (omega arith))
    (span_same c c' (i + 1) j (λ m. f (i + 1) (j - 1) (omega arith) (omega arith) (omega arith) (omega arith)))))
    (split_same c c' i j f)
    ∙ sym (nussinov_more gap b' c' i j l))
    (λ l. nussinov_one gap b c i j (omega arith) ∙ sym (nussinov_one gap b' c' i j (omega arith)))
    (less_or i j)

-- ---- it keeps cells believable

split_under : (b : Bases) (c : Cells ℕ) (i j : ℕ) → FineInside (Half b) c i j → split c i j ≤ (j + 1 - i) / 2
unfolding split
split_under b c i j f =
    best_under _ (i + 1) (j - (i + 1)) _
    (λ k p q.
    omega (
      arith,
      f i k (omega arith) (omega arith) (omega arith) (omega arith),
      f (k + 1) j (omega arith) (omega arith) (omega arith) (omega arith),
    ))

pub nussinov_keeps : (gap : ℕ) → Keeps (nussinov gap) Half
nussinov_keeps gap b c i j h f = ⊎_elim (λ l. omega (arith, under l)) (λ l. omega (arith, nussinov_one gap b c i j (omega arith))) (less_or i j)
  where
    pair : i < j → paired gap b c i j ≤ (j + 1 - i) / 2
    pair l =
        let inside : span c (i + 1) j ≤ (j - i - 1) / 2 =
        span_under c (i + 1) j _ (λ m. omega (arith, f (i + 1) (j - 1) (omega arith) (omega arith) (omega arith) (omega arith))) in
        omega (arith, paired_under gap b c i j _ inside)

    under : i < j → nussinov gap b c i j ≤ (j + 1 - i) / 2
    under l =
        rw (nussinov_more gap b c i j l)
        (omega (
          arith,
          f (i + 1) j (omega arith) (omega arith) (omega arith) (omega arith),
          f i (j - 1) (omega arith) (omega arith) (omega arith) (omega arith),
          pair l,
          split_under b c i j f,
        ))
