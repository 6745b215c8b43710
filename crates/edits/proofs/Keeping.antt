-- Each edit keeps bases and table those of what is spelled; and one sequence has one table. Assumes nothing.
use mathlib.Core.Path.{◌≡◌, refl, ap, ◌∙◌, sym}
use mathlib.Core.List.{List, [], ◌∷◌, ◌++◌, map}
use Prim.Native.Nat.{ℕ, zero, suc, ◌+◌, ◌-◌, ◌≤◌, ◌<◌}
use native.Mathlib.Omega.{arith}
use lib.ListN.{length, get_or, set, take, length-set, length-append, length-take, length-map, get_or-append}
use lib.Seq.{get_or-set_same, get_or-set_other, get_or-append_seam, get_or-take}
use Rattle.cells.specs.Rule.{Bases, Rule, Local}
use Rattle.cells.specs.Fill.{at, Keeps, Columns}
use Rattle.cells.proofs.Places.{three}
use Rattle.cells.proofs.Rules.{unique}
use Rattle.cells.proofs.Fills.{replaced_right, added_right}
use Rattle.edits.specs.Kinds.{Kept, Put}

-- a sequence's letters, entry by entry
pub letter_at : (letter : ℕ → ℕ) (s : List ℕ) (k : ℕ) → k < length s → get_or (map letter s) k 0 ≡ letter (get_or s k 0)
letter_at letter [] k h = absurd (omega arith)
letter_at letter (x ∷ s) zero h = refl
letter_at letter (x ∷ s) (suc k) h = letter_at letter s k (omega arith)

module _
    {A : Type 0} (rule : Rule A) (loc : Local rule) (Ok : Bases → ℕ → ℕ → A → Type 0) (keeps : Keeps rule Ok)
    (letter : ℕ → ℕ) (s : List ℕ) where
  pub kept_replace :
      (b b' : Bases) (g g' : ℕ → A) (n p x : ℕ) → p < n → Put b b' p (letter x) → Columns rule Ok b' g g' p p n →
      Kept rule letter s b g n → Kept rule letter (set s p x) b' g' n
  kept_replace b b' g g' n p x h put c r =
      let l = r.long in
      record {
        long = simp length-set l;
        spelt = λ k m.
            three k p (λ q. other k m (λ z. omega arith))
            (λ q. rw q (put.here ∙ ap letter (sym (get_or-set_same s p x 0 (omega arith)))))
            (λ q. other k m (λ z. omega arith));
        right = replaced_right rule loc Ok keeps b' b g g' n p put.off c r.right;
      }
    where
      other : (k : ℕ) → k < n → (k ≡ p → ⊥) → b' k ≡ letter (get_or (set s p x) k 0)
      other k m ne = sym (put.off k ne) ∙ r.spelt k m ∙ ap letter (sym (get_or-set_other s p k x 0 ne))

  pub kept_add :
      (b b' : Bases) (g g' : ℕ → A) (n x : ℕ) → Put b b' n (letter x) → Columns rule Ok b' g g' n n (n + 1) →
      Kept rule letter s b g n → Kept rule letter (s ++ (x ∷ [])) b' g' (n + 1)
  kept_add b b' g g' n x put c r =
      let l = r.long in
      record {
        long = simp length-append (omega arith);
        spelt = λ k m.
            three k n
            (λ q. sym (put.off k (λ z. omega arith)) ∙ r.spelt k q ∙ ap letter (sym (get_or-append s (x ∷ []) 0 k (omega arith))))
            (λ q. rw q (put.here ∙ ap letter (sym (get_or-append_seam s x [] 0)) ∙ ap (λ (i : ℕ). letter (get_or (s ++ (x ∷ [])) i 0)) (sym l)))
            (λ q. absurd (omega arith));
        right = added_right rule loc Ok keeps b' b g g' n (λ k h. put.off k (λ z. omega arith)) c r.right;
      }

  pub kept_erase : (b : Bases) (g : ℕ → A) (n : ℕ) → 0 < n → Kept rule letter s b g n → Kept rule letter (take (length s - 1) s) b g (n - 1)
  kept_erase b g n h r =
      let l = r.long in
      record {
        long = simp length-take (omega arith);
        spelt = λ k m. r.spelt k (omega arith) ∙ ap letter (sym (get_or-take (length s - 1) s k 0 (omega arith)));
        right = λ i j p q. r.right i j p (omega arith);
      }

  -- the letters are a sequence with the same bases and table
  pub kept_letters :
      ((x : ℕ) → letter (letter x) ≡ letter x) → (b : Bases) (g : ℕ → A) (n : ℕ) → Kept rule letter s b g n →
      Kept rule letter (map letter s) b g n
  kept_letters again b g n r =
      let l = r.long in
      record {
        long = l ∙ sym (length-map s letter);
        spelt = λ k h. r.spelt k h ∙ sym (ap letter (letter_at letter s k (omega arith)) ∙ again (get_or s k 0));
        right = r.right;
      }

  -- one sequence: one length, the same bases and the same cells
  pub one_sequence :
      (b b' : Bases) (g g' : ℕ → A) (n n' : ℕ) → Kept rule letter s b g n → Kept rule letter s b' g' n' →
      (n ≡ n') × ((k : ℕ) → k < n' → b k ≡ b' k) × ((i j : ℕ) → i ≤ j → j < n' → at g i j ≡ at g' i j)
  one_sequence b b' g g' n n' r r' =
      let e : n ≡ n' = r.long ∙ sym r'.long in
      let f : (k : ℕ) → k < n' → b k ≡ b' k = λ k h. r.spelt k (omega arith) ∙ sym (r'.spelt k h) in
      (e, f, unique rule loc b b' (at g) (at g') n' f (λ i j p q. r.right i j p (omega arith)) r'.right)
