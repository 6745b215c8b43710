-- The steps of the passes, and what they make of a column: the cell rule. Assumes nothing.
use mathlib.Core.Path.{◌≡◌, refl, ap, ap₂, ◌∙◌, sym, subst}
use mathlib.Core.Logic.{⊎_elim}
use Prim.Native.Nat.{ℕ, zero, suc, ◌+◌, ◌-◌, ◌/◌, ◌≤◌, ◌<◌, max}
use native.Mathlib.Omega.{arith}
use borrow.Author.Tests.{lt-ltb, le-ltb}
use Rattle.cells.specs.Tri.{tri, place}
use Rattle.cells.specs.Rule.{Bases, Cells, span}
use Rattle.cells.specs.Fill.{at, Fine, FineFrom, Rows}
use Rattle.cells.specs.Pass.{gather, parts, Settled}
use Rattle.cells.proofs.Places.{less_or, three, tri_below, place_below}
use Rattle.cells.proofs.Fills.{Put}
use Rattle.cells.proofs.Spans.{span_same, span_under, span_some, span_none}
use Rattle.cells.proofs.Passes.{gather_front, gather_none, settled_value}
use Rattle.count_rule.specs.Rule.{best, paired, split, nussinov, Half}
use Rattle.count_rule.proofs.Laws.{best_down, paired_none, paired_some, paired_same, paired_under, nussinov_one, nussinov_more}
use Rattle.count_fill.specs.Passes.{AnyHalf, begun, Started, Fit, both}

-- the largest of v and a range, joined from the last to the first
gather_best : (v : ℕ) (f : ℕ → ℕ) (lo m : ℕ) → gather max v f lo m ≡ max v (best f lo m)
unfolding gather best
gather_best v f lo zero = omega arith
gather_best v f lo (suc m) = omega (arith, gather_best v f (lo + 1) m, best_down f lo m)

-- what a pair is worth
pub ruleset pairing = (paired_none, paired_some, span_some, span_none, place_below)

-- ---- what a cell holds before any split

module _ (gap : ℕ) (b : Bases) (c : Cells ℕ) (i j : ℕ) where
  pub begun_one : i ≡ j → begun gap b c i j ≡ 0
  unfolding begun
  begun_one e = rw (le-ltb i j (omega arith))

  pub begun_more : i < j → begun gap b c i j ≡ max (c i (j - 1)) (paired gap b c i j)
  unfolding begun
  begun_more l = rw (lt-ltb i j l)

  -- the cell rule is that, and then every split
  begun_rule : i ≤ j → (i < j → c i i ≡ 0) → gather max (begun gap b c i j) (parts both c i j) i (j - i) ≡ nussinov gap b c i j
  unfolding split gather
  begun_rule h z =
      ⊎_elim
      (λ l.
      omega (
        arith,
        begun_more l,
        gather_front max (begun gap b c i j) (parts both c i j) i (i + 1) j refl l,
        gather_best (begun gap b c i j) (parts both c i j) (i + 1) (j - (i + 1)),
        z l,
        nussinov_more gap b c i j l,
      ))
      (λ l.
      sym (gather_none max _ (parts both c i j) i (j - i) (omega arith))
      ∙ begun_one (omega arith)
      ∙ sym (nussinov_one gap b c i j (omega arith)))
      (less_or i j)

  -- it is believable where the column before is
  begun_half : i ≤ j → Fine AnyHalf c j → AnyHalf i j (begun gap b c i j)
  begun_half h f = ⊎_elim (λ l. omega (arith, under l)) (λ l. omega (arith, begun_one (omega arith))) (less_or i j)
    where
      pair : i < j → paired gap b c i j ≤ (j + 1 - i) / 2
      pair l =
          let inside : span c (i + 1) j ≤ (j - i - 1) / 2 =
          span_under c (i + 1) j _ (λ m. omega (arith, f (i + 1) (j - 1) (omega arith) (omega arith))) in
          omega (arith, paired_under gap b c i j _ inside)

      under : i < j → begun gap b c i j ≤ (j + 1 - i) / 2
      under l = omega (arith, begun_more l, pair l, f i (j - 1) (omega arith) (omega arith))

-- it depends on two cells of the column before
begun_same :
    (gap : ℕ) (b : Bases) (c c' : Cells ℕ) (i j : ℕ) → i ≤ j → (i < j → c i (j - 1) ≡ c' i (j - 1)) →
    (i + 1 < j → c (i + 1) (j - 1) ≡ c' (i + 1) (j - 1)) → begun gap b c i j ≡ begun gap b c' i j
begun_same gap b c c' i j h e f =
    ⊎_elim
    (λ l.
    begun_more gap b c i j l
    ∙ ap₂ max (e l) (paired_same gap b b c c' i j refl refl (span_same c c' (i + 1) j f))
    ∙ sym (begun_more gap b c' i j l))
    (λ l. begun_one gap b c i j (omega arith) ∙ sym (begun_one gap b c' i j (omega arith)))
    (less_or i j)

-- ---- starting a column

module _ (gap : ℕ) (b : Bases) (g₀ : ℕ → ℕ) (j : ℕ) where
  pub started_more :
      (g g' : ℕ → ℕ) (n p x : ℕ) → p ≡ place n j → n ≤ j → Put g g' p x → x ≡ begun gap b (at g) n j →
      Started gap b g₀ g j n → Started gap b g₀ g' j (n + 1)
  started_more g g' n p x w h put e r =
      record {
        left = λ k s. put.off k (λ q. omega arith) ∙ r.left k s;
        right = λ k s. put.off k (λ q. omega arith) ∙ r.right k (omega arith);
        each = λ i s. three i n (λ q. put.off (place i j) (λ u. omega arith) ∙ r.each i q) (λ q. rw q newest) (λ q. absurd (omega arith));
      }
    where
      newest : at g' n j ≡ begun gap b (at g₀) n j
      newest =
          ap g' (sym w)
          ∙ put.here
          ∙ e
          ∙ begun_same gap b (at g) (at g₀) n j h
          (λ l. r.left (place n (j - 1)) (omega (arith, tri_below (j - 1) j (omega arith))))
          (λ l. r.left (place (n + 1) (j - 1)) (omega (arith, tri_below (j - 1) j (omega arith))))

  -- the columns before are as believable as they were
  pub started_fine : (g : ℕ → ℕ) (n : ℕ) → Started gap b g₀ g j n → Fine AnyHalf (at g₀) j → Fine AnyHalf (at g) j
  started_fine g n r f i l h m = subst (AnyHalf i l) (sym (r.left (place i l) (omega (arith, tri_below l j m)))) (f i l h m)

-- ---- settling it

-- a believable cell stays so when two believable cells side by side are joined in
pub half_step :
    (i k j v x y : ℕ) → i ≤ k → k < j → AnyHalf i j v → AnyHalf i k x → AnyHalf (k + 1) j y → AnyHalf i j (max v (both i k x y))
half_step i k j v x y h l p q s = omega arith

-- the sums of the pass at k fit
pub fit : (g : ℕ → ℕ) (j r k col v n : ℕ) → r ≡ k + 1 → k < j → j < 65535 → col ≡ tri k → n ≤ r → v ≡ at g r j → Fine AnyHalf (at g) (j + 1) → Fit g col n v
fit g j r k col v n e h s w m x f i l =
    omega (arith, ap (λ y. g (y + i)) w, f i k (omega arith) (omega arith), f r j (omega arith) (omega arith))

pub before_fine : (g : ℕ → ℕ) (j from : ℕ) → FineFrom AnyHalf (at g) (from + 1) j → Fine AnyHalf (at g) j
before_fine g j from f k m u w = f k m u (omega arith) (λ z. absurd (omega arith))

module _ (gap : ℕ) (b : Bases) (g₀ g₁ : ℕ → ℕ) (j from : ℕ) (h : from ≤ j) (f : FineFrom (Half b) (at g₀) (from + 1) j) (s : Started gap b g₀ g₁ j (from + 1)) where
  -- a started column is believable
  pub started_all : Fine AnyHalf (at g₁) (j + 1)
  started_all i l p q =
      three l j (λ y. started_fine gap b g₀ j g₁ (from + 1) s before i l p y)
      (λ y. subst (λ (z : ℕ). AnyHalf i z (at g₁ i z)) (sym y) (⊎_elim (λ u. kept u (omega arith)) (λ u. fresh u (omega arith)) (less_or from i)))
      (λ y. absurd (omega arith))
    where
      before : Fine AnyHalf (at g₀) j
      before = before_fine g₀ j from f

      kept : from < i → i ≤ j → AnyHalf i j (at g₁ i j)
      kept u w = subst (AnyHalf i j) (sym (s.right (place i j) (omega arith))) (f i j w (omega arith) (λ z. omega arith))

      fresh : i ≤ from → i ≤ j → AnyHalf i j (at g₁ i j)
      fresh u w = subst (AnyHalf i j) (sym (s.each i (omega arith))) (begun_half gap b (at g₀) i j w before)

  -- a started and settled column obeys the rule
  pub settled_rows : (g : ℕ → ℕ) → Settled max both AnyHalf g g₁ g j from 0 → Rows (nussinov gap) Half b g₀ g j from 0
  settled_rows g r =
      record {
        left = λ k p. r.left k p ∙ s.left k p;
        right = λ k p. r.right k p ∙ s.right k (omega arith);
        fresh = λ k p q. obeys k q;
        fine = λ k l p q x. r.fine k l p (omega arith);
      }
    where
      old : (i l : ℕ) → i ≤ l → l < j → at g₀ i l ≡ at g i l
      old i l p q = sym (r.left (place i l) (omega (arith, tri_below l j q)) ∙ s.left (place i l) (omega (arith, tri_below l j q)))

      obeys : (i : ℕ) → i ≤ from → at g i j ≡ nussinov gap b (at g) i j
      obeys i p =
          settled_value i (begun gap b (at g) i j) r p
          (s.each i (omega arith)
          ∙ begun_same gap b (at g₀) (at g) i j (omega arith) (λ l. old i (j - 1) (omega arith) (omega arith)) (λ l. old (i + 1) (j - 1) (omega arith) (omega arith)))
          ∙ begun_rule gap b (at g) i j (omega arith) (λ l. omega (arith, r.fine i i (omega arith) (omega arith)))
