-- A right table obeys the cell rule by its parts, the largest of the candidates being above each and one of them. Assumes nothing.
use mathlib.Core.Path.{◌≡◌, refl, ap, ◌∙◌}
use mathlib.Core.Logic.{by_cases}
use mathlib.Core.Bool.{Bool, true, false, cond}
use Prim.Native.Nat.{ℕ, zero, suc, ◌+◌, ◌-◌, ◌<◌, ◌≤◌, max}
use native.Mathlib.Omega.{arith}
use native.Mathlib.Decide.{dec_lt, ℕ_discrete}
use Rattle.cells.specs.Rule.{Bases, Cells, Right, span}
use Rattle.count_rule.specs.Rule.{may_pair, best, paired, split, nussinov}
use Rattle.count_rule.specs.Allowed.{May}
use Rattle.count_rule.specs.Counts.{Step, Ruled}
use Rattle.count_rule.proofs.Laws.{paired_some, nussinov_one, nussinov_more}

-- ---- the largest of a run
module _ (f : ℕ → ℕ) (lo : ℕ) where
  -- where the largest stands, or that it is the 0 of none
  data Largest (m v : ℕ) : Type 0 where
    none : v ≡ 0 → Largest m v
    one : (k : ℕ) → lo ≤ k → k < lo + m → v ≡ f k → Largest m v

  more : {m v : ℕ} → Largest m v → Largest (suc m) v
  more (none e) = none e
  more (one k l h e) = one k l (omega arith) e

  largest : (m : ℕ) → Largest m (best f lo m)
  unfolding best
  largest zero = none refl
  largest (suc m) = by_cases (dec_lt (best f lo m) (f (lo + m)))
      (λ h. one (lo + m) (omega arith) (omega arith) (omega arith))
      (λ h. let e : max (best f lo m) (f (lo + m)) ≡ best f lo m = omega arith in rw e (more (largest m)))

  pub best_above : (m k : ℕ) → lo ≤ k → k < lo + m → f k ≤ best f lo m
  unfolding best
  best_above zero k l h = absurd (omega arith)
  best_above (suc m) k l h = by_cases (ℕ_discrete k (lo + m))
      (λ e. omega (arith, ap f e))
      (λ n. omega (arith, best_above m k l (omega arith)))

-- ---- the rule at one cell
module _ (gap : ℕ) (b : Bases) (c : Cells ℕ) (i j : ℕ) (h : i < j) where
  split_above : (k : ℕ) → i < k → k < j → c i k + c (k + 1) j ≤ split c i j
  unfolding split
  split_above k l r = best_above (λ x. c i x + c (x + 1) j) (i + 1) (j - (i + 1)) k (omega arith) (omega arith)

  -- the pair reaches the cell, or the cell is 0, as (i + 1, j) is then
  paired_step : c i j ≡ paired gap b c i j → c (i + 1) j ≤ c i j → Step (May b gap) c i j
  unfolding paired
  paired_step q l = go (may_pair b gap i j) refl q
    where
      go : (y : Bool) → may_pair b gap i j ≡ y → c i j ≡ cond y (span c (i + 1) j + 1) 0 → Step (May b gap) c i j
      go true y v = Step.both y v
      go false y v = Step.first (omega arith)

  -- and so for the best split
  split_step : c i j ≡ split c i j → c (i + 1) j ≤ c i j → Step (May b gap) c i j
  unfolding split
  split_step q l = go (largest (λ x. c i x + c (x + 1) j) (i + 1) (j - (i + 1))) q
    where
      go : {v : ℕ} → Largest (λ x. c i x + c (x + 1) j) (i + 1) (j - (i + 1)) v → c i j ≡ v → Step (May b gap) c i j
      go (none e) v = Step.first (omega arith)
      go (one k x y e) v = Step.split k (omega arith) (omega arith) (v ∙ e)

-- ---- a right table
module _ (gap n : ℕ) (b : Bases) (c : Cells ℕ) (r : Right (nussinov gap) b c n) where
  larger : (i j : ℕ) → i < j → j < n → c i j ≡ max (max (max (c (i + 1) j) (c i (j - 1))) (paired gap b c i j)) (split c i j)
  larger i j h l = r i j (omega arith) l ∙ nussinov_more gap b c i j h

  pub right_ruled : Ruled (May b gap) n c
  right_ruled = record {
    alone = λ i h. r i i (omega arith) h ∙ nussinov_one gap b c i i refl;
    left = λ i j h l. omega (arith, larger i j h l);
    right = λ i j h l. omega (arith, larger i j h l);
    pair = λ i j h l y. omega (arith, larger i j h l, paired_some gap b c i j y);
    cut = λ i k j h l m. omega (arith, larger i j (omega arith) m, split_above gap b c i j (omega arith) k h l);
    reached = λ i j h l.
        let e = larger i j h l in
        by_cases (ℕ_discrete (c i j) (c (i + 1) j)) Step.first
        (λ n₁. by_cases (ℕ_discrete (c i j) (c i (j - 1))) Step.last
        (λ n₂. by_cases (ℕ_discrete (c i j) (paired gap b c i j)) (λ q. paired_step gap b c i j h q (omega arith))
        (λ n₃. split_step gap b c i j h (omega arith) (omega arith))));
  }
