-- What the search for a split finds, and what each choice says of the counts. Assumes nothing.
use mathlib.Core.Path.{◌≡◌, refl, sym, subst, ◌∙◌}
use mathlib.Core.Bool.{Bool, true, false, cond, ◌&&◌, true≢false, false≢true}
use Prim.Native.Nat.{ℕ, ◌+◌, ◌-◌, ◌<◌}
use native.Mathlib.Omega.{arith}
use borrow.Author.Tests.{eqb-true, eqb-false, eq-eqb}
use lib.Dec.{eqb}
use Rattle.std.proofs.Common.{Option, None, Some}
use Rattle.searches.proofs.First.{first_found, first_missed}
use Rattle.cells.specs.Rule.{Cells, span}
use Rattle.count_trace.specs.Choosing.{closes_of, split_at, split_of, or_last, choice}
use Rattle.count_trace.specs.declared.choice.Choice.{Choice}
use Rattle.count_trace.specs.declared.choice.Choice.TheVariants.{FirstUnpaired, Paired, Split, LastUnpaired}

-- what a choice says of the counts
pub data Why (c : Cells ℕ) (p : ℕ → ℕ → Bool) (i j : ℕ) : Choice → Type 0 where
  first : c i j ≡ c (i + 1) j → Why c p i j FirstUnpaired
  both : p i j ≡ true → c i j ≡ span c (i + 1) j + 1 → Why c p i j Paired
  split : (k : ℕ) → i < k → k < j → c i j ≡ c i k + c (k + 1) j → Why c p i j (Split k)
  last :
      (c i j ≡ c (i + 1) j → ⊥) → (p i j ≡ true → c i j ≡ span c (i + 1) j + 1 → ⊥) →
      ((k : ℕ) → i < k → k < j → c i j ≡ c i k + c (k + 1) j → ⊥) → Why c p i j LastUnpaired

module _ (c : Cells ℕ) (p : ℕ → ℕ → Bool) (i j : ℕ) where
  closes_true : closes_of c p i j (c i j) ≡ true → Why c p i j Paired
  unfolding closes_of
  closes_true e = go (p i j) refl e
    where
      go : (b : Bool) → p i j ≡ b → (b && eqb (span c (i + 1) j + 1) (c i j)) ≡ true → Why c p i j Paired
      go true y q = both y (sym (eqb-true _ _ q))
      go false y q = absurd (false≢true q)

  closes_false : closes_of c p i j (c i j) ≡ false → p i j ≡ true → c i j ≡ span c (i + 1) j + 1 → ⊥
  unfolding closes_of
  closes_false e y q = true≢false (sym (eq-eqb _ _ (sym q)) ∙ (simp y at e))

  -- the last two, where the first two fail
  split_why :
      (f : Option ℕ) → split_of c i j (c i j) ≡ f → (c i j ≡ c (i + 1) j → ⊥) → (p i j ≡ true → c i j ≡ span c (i + 1) j + 1 → ⊥) →
      Why c p i j (or_last f)
  unfolding split_of split_at
  split_why (Some k) e a b =
      let r = first_found _ (j - (i + 1)) (i + 1) k e in
      split k (omega arith) (omega arith) (sym (eqb-true _ _ r.2))
  split_why None e a b =
      last a b
      (λ k h l q. true≢false (sym (eq-eqb _ _ (sym q)) ∙ first_missed _ (j - (i + 1)) (i + 1) e k (omega arith) (omega arith)))

  pub why : Why c p i j (choice c p i j)
  unfolding choice
  why = first_or (eqb (c (i + 1) j) (c i j)) refl
    where
      both_or :
          (b : Bool) → closes_of c p i j (c i j) ≡ b → (c i j ≡ c (i + 1) j → ⊥) →
          Why c p i j (cond b Paired (or_last (split_of c i j (c i j))))
      both_or true e a = closes_true e
      both_or false e a = split_why (split_of c i j (c i j)) refl a (closes_false e)

      first_or :
          (b : Bool) → eqb (c (i + 1) j) (c i j) ≡ b →
          Why c p i j (cond b FirstUnpaired (cond (closes_of c p i j (c i j)) Paired (or_last (split_of c i j (c i j)))))
      first_or true e = first (sym (eqb-true _ _ e))
      first_or false e = both_or (closes_of c p i j (c i j)) refl (λ q. eqb-false _ _ e (sym q))

-- a split lies inside the span
pub why_split : {c : Cells ℕ} {p : ℕ → ℕ → Bool} {i j k : ℕ} → Why c p i j (Split k) → (i < k) × (k < j)
why_split (split k h l q) = (h, l)

pub split_inside : (c : Cells ℕ) (p : ℕ → ℕ → Bool) (i j : ℕ) {ch : Choice} {k : ℕ} → ch ≡ choice c p i j → ch ≡ Split k → (i < k) × (k < j)
split_inside c p i j e q = why_split (subst (λ (x : Choice). Why c p i j x) (sym e ∙ q) (why c p i j))
