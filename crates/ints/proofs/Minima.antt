-- The smaller of two, sums that a mark absorbs, and the least of a run: no candidate is below it, and one reaches it where it isn't the mark.
use mathlib.Core.Path.{◌≡◌, refl, ap, ◌∙◌}
use mathlib.Core.Logic.{◌⊎◌, inl, inr, ⊎_elim, by_cases}
use Prim.Native.Nat.{ℕ, zero, suc, ◌+◌, ◌-◌, ◌<◌, ◌≤◌}
use native.Mathlib.Omega.{arith}
use native.Mathlib.Decide.{ℕ_discrete}
use lib.IntN.{ℤ, ◌+ℤ◌}
use lib.Signed.{lt_z, le_z, ◌≤ℤ◌, ◌<ℤ◌}
use Rattle.std.proofs.lemmas.Int.{by_lt_z}
use Rattle.ints.specs.Ints.{minℤ, mark, add_e, min_from}
use Rattle.ints.proofs.Ints.{ints, either}

-- of two numbers one is below the other, or not
pub less : (x y : ℤ) → (x <ℤ y) ⊎ (y ≤ℤ x)
less x y = by_lt_z x y inl inr

-- ---- the smaller of two
pub min_by : (a b : ℤ) (P : ℤ → Type 0) → (a ≤ℤ b → P a) → (b ≤ℤ a → P b) → P (minℤ a b)
unfolding minℤ
min_by a b P f g = either (le_z a b) (λ e. rw e (f (omega ints))) (λ e. rw e (g (omega ints)))

pub min_l : (a b : ℤ) → a ≤ℤ b → minℤ a b ≡ a
unfolding minℤ
min_l a b h = grind ints

pub min_le_l : (a b : ℤ) → minℤ a b ≤ℤ a
unfolding minℤ
min_le_l a b = grind ints

pub min_le_r : (a b : ℤ) → minℤ a b ≤ℤ b
unfolding minℤ
min_le_r a b = grind ints

pub min_one : (a b : ℤ) → (minℤ a b ≡ a) ⊎ (minℤ a b ≡ b)
unfolding minℤ
min_one a b = grind ints

-- ---- a sum that a mark absorbs
pub add_by : (a b : ℤ) (P : ℤ → Type 0) → (a <ℤ mark → b <ℤ mark → P (a +ℤ b)) → ((mark ≤ℤ a) ⊎ (mark ≤ℤ b) → P mark) → P (add_e a b)
unfolding add_e
add_by a b P f g =
    either (lt_z a mark)
    (λ e. either (lt_z b mark) (λ d. rw (e, d) (f (omega ints) (omega ints))) (λ d. rw (e, d) (g (inr (omega ints)))))
    (λ e. rw e (g (inl (omega ints))))

pub add_some : (a b : ℤ) → a <ℤ mark → b <ℤ mark → add_e a b ≡ a +ℤ b
unfolding add_e
add_some a b p q = grind ints

pub add_none_l : (a b : ℤ) → mark ≤ℤ a → add_e a b ≡ mark
unfolding add_e
add_none_l a b p = grind ints

pub add_none_r : (a b : ℤ) → mark ≤ℤ b → add_e a b ≡ mark
unfolding add_e
add_none_r a b p = grind ints

-- a sum that isn't the mark, by its parts
pub record Sum (a b z : ℤ) : Type 0 where
  pub left : a <ℤ mark
  pub right : b <ℤ mark
  pub value : z ≡ a +ℤ b

pub add_real : (a b : ℤ) → add_e a b <ℤ mark → Sum a b (add_e a b)
unfolding add_e
add_real a b h = record { left = grind ints; right = grind ints; value = grind ints }

-- ---- the least of a run
-- at most each candidate
pub least_le : (f : ℕ → ℤ) (i n k : ℕ) → i ≤ k → k < i + n → min_from f i n ≤ℤ f k
unfolding min_from
least_le f i zero k l h = absurd (omega arith)
least_le f i (suc n) k l h =
    by_cases (ℕ_discrete k (i + n))
    (λ e. rw e (min_le_r (min_from f i n) (f (i + n))))
    (λ ne. omega (ints, least_le f i n k l (omega arith), min_le_l (min_from f i n) (f (i + n))))

-- one of them, or the mark
pub record Reached (f : ℕ → ℤ) (i n : ℕ) (z : ℤ) : Type 0 where
  pub at : ℕ
  pub from : i ≤ at
  pub to : at < i + n
  pub value : z ≡ f at

pub least_one : (f : ℕ → ℤ) (i n : ℕ) → (min_from f i n ≡ mark) ⊎ Reached f i n (min_from f i n)
unfolding min_from
least_one f i zero = inl refl
least_one f i (suc n) =
    ⊎_elim
    (λ e. ⊎_elim (λ k. inl (e ∙ k))
    (λ k. inr (record { at = k.at; from = k.from; to = let t = k.to in omega arith; value = e ∙ k.value })) (least_one f i n))
    (λ e. inr (record { at = i + n; from = omega arith; to = omega arith; value = e }))
    (min_one (min_from f i n) (f (i + n)))

pub least_real : (f : ℕ → ℤ) (i n : ℕ) → min_from f i n <ℤ mark → Reached f i n (min_from f i n)
least_real f i n h = ⊎_elim (λ e. absurd (omega ints)) (λ r. r) (least_one f i n)

pub least_cap : (f : ℕ → ℤ) (i n : ℕ) → min_from f i n ≤ℤ mark
unfolding min_from
least_cap f i zero = omega ints
least_cap f i (suc n) = omega (ints, least_cap f i n, min_le_l (min_from f i n) (f (i + n)))

-- what a loop's turn needs: none yet, and one more
pub least_none : (f : ℕ → ℤ) (i : ℕ) → min_from f i (i - i) ≡ mark
unfolding min_from
least_none f i = let e : i - i ≡ 0 = omega arith in ap (min_from f i) e

pub least_more : (f : ℕ → ℤ) (i k : ℕ) → i ≤ k → min_from f i ((k + 1) - i) ≡ minℤ (min_from f i (k - i)) (f k)
unfolding min_from
least_more f i k h =
    let e : (k + 1) - i ≡ suc (k - i) = omega arith in
    let q : i + (k - i) ≡ k = omega arith in
    ap (min_from f i) e ∙ ap (λ (m : ℕ). minℤ (min_from f i (k - i)) (f m)) q

-- it depends on its own candidates alone
pub least_ext : (f g : ℕ → ℤ) (i n : ℕ) → ((k : ℕ) → i ≤ k → k < i + n → f k ≡ g k) → min_from f i n ≡ min_from g i n
unfolding min_from
least_ext f g i zero h = refl
least_ext f g i (suc n) h = rw (least_ext f g i n (λ k l u. h k l (omega arith)), h (i + n) (omega arith) (omega arith))
