-- There is a table for each local rule, and a computed test shows that a given one is it. Assumes nothing.
use mathlib.Core.Path.{◌≡◌, refl, ◌∙◌, sym, ap, subst}
use mathlib.Core.Bool.{Bool, true, false, ◌&&◌}
use Prim.Native.Nat.{ℕ, zero, suc, ◌+◌, ◌-◌, ◌≤◌, ◌<◌}
use native.Mathlib.Omega.{arith}
use lib.Dec.{T}
use Rattle.cells.specs.Rule.{Bases, Cells, Rule, Local, Right}
use Rattle.cells.specs.Solve.{tab, solved, every, obeys}
use Rattle.cells.proofs.Places.{three}
use Rattle.cells.proofs.Rules.{unique}

module _ {A : Type 0} (rule : Rule A) (loc : Local rule) (d : A) (b : Bases) where
  tab_enough : (s u i j : ℕ) → i ≤ j → j < i + s → j < i + u → tab rule d b s i j ≡ tab rule d b u i j
  unfolding tab
  tab_enough zero u i j h p q = absurd (omega arith)
  tab_enough (suc s) zero i j h p q = absurd (omega arith)
  tab_enough (suc s) (suc u) i j h p q =
      loc b b _ _ i j h (λ k x y. refl) (λ k l x y z w. tab_enough s u k l y (omega arith) (omega arith))

  -- it obeys the rule everywhere
  pub solved_right : (n : ℕ) → Right rule b (solved rule d b) n
  unfolding solved tab
  solved_right n i j h l =
      loc b b _ _ i j h (λ k x y. refl) (λ k m x y z w. tab_enough (j - i) (suc (m - k)) k m y (omega arith) (omega arith))

  -- and every right table is it
  pub right_solved : (c : Cells A) (n : ℕ) → Right rule b c n → (i j : ℕ) → i ≤ j → j < n → c i j ≡ solved rule d b i j
  right_solved c n r = unique rule loc b b c (solved rule d b) n (λ k x. refl) r (solved_right n)

both_left : (a b : Bool) → T (a && b) → T a
both_left true b t = tt
both_left false b t = t

both_right : (a b : Bool) → T (a && b) → T b
both_right true b t = t
both_right false b t = absurd t

pub every_at : (f : ℕ → Bool) (n : ℕ) → T (every f n) → (k : ℕ) → k < n → T (f k)
unfolding every
every_at f zero t k h = absurd (omega arith)
every_at f (suc n) t k h =
    three k n (λ p. every_at f n (both_right (f n) (every f n) t) k p) (λ p. rw p (both_left (f n) (every f n) t)) (λ p. absurd (omega arith))

pub obeys_right :
    {A : Type 0} (same : A → A → Bool) → ((x y : A) → T (same x y) → x ≡ y) → (rule : Rule A) (b : Bases) (c : Cells A) (n : ℕ) →
    T (obeys same rule b c n) → Right rule b c n
obeys_right same sound rule b c n t i j h l =
    sound _ _ (every_at (λ i. same (c i j) (rule b c i j)) (suc j) (every_at _ n t j l) i (omega arith))

pub every_stop : (f : ℕ → Bool) (n k : ℕ) → k < n → f k ≡ false → every f n ≡ false
unfolding every
every_stop f zero k h p = absurd (omega arith)
every_stop f (suc n) k h p = three k n (λ q. later (f n) (every_stop f n k q p)) (λ q. ap (λ x. x && every f n) (ap f (sym q) ∙ p)) (λ q. absurd (omega arith))
  where
    later : (t : Bool) → every f n ≡ false → t && every f n ≡ false
    later true e = e
    later false e = refl

pub every_true : (f : ℕ → Bool) (n : ℕ) → every f n ≡ true → (k : ℕ) → k < n → f k ≡ true
every_true f n e k h = go (f k) refl
  where
    go : (t : Bool) → f k ≡ t → f k ≡ true
    go true p = p
    go false p = absurd (subst T (sym e ∙ every_stop f n k h p) tt)

pub true_every : (f : ℕ → Bool) (n : ℕ) → ((k : ℕ) → k < n → f k ≡ true) → every f n ≡ true
unfolding every
true_every f zero g = refl
true_every f (suc n) g = rw (g n (omega arith)) (true_every f n (λ k h. g k (omega arith)))
