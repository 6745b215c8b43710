-- Laws of bases: what reading tells, exactly which bytes are bases and which pair, and what a pair's number tells. Assumes nothing.
use mathlib.Core.Path.{◌≡◌, refl, sym, ap, ◌∙◌}
use mathlib.Core.Bool.{Bool, true, false, true≢false, false≢true, cond, not, ◌&&◌}
use mathlib.Core.List.{[], ◌∷◌}
use mathlib.Core.Logic.{◌⊎◌, inl, inr, ⊎_elim, by_cases}
use Prim.Native.Nat.{ℕ, ◌<◌}
use native.Mathlib.Decide.{ℕ_discrete}
use borrow.Author.Tests.{eqb-true, ne_eqb}
use lib.Dec.{eqb, lit<}
use lib.ListN.{get_or}
use Rattle.bases.specs.declared.Base.{Base}
use Rattle.bases.specs.declared.Base.TheVariants.{A, C, G, U}
use Rattle.std.proofs.Common.{Option, Some, None, MatchOption}
use Rattle.bases.specs.Bases.{letter_of, Spelt, kept, refused, told, reads, is_refused, letter_in, no_base, normal, is_kept, can_pair, pair_index}

-- ---- reading

-- a byte that is read as a base is one, and that base's letter is the one that is kept
pub read_is : {r : Option Base} {b : Base} (x : ℕ) → told r ≡ reads x → r ≡ Some b → no_base x ≡ false
unfolding no_base
read_is x h e = ap is_refused (sym h ∙ ap told e)

pub read_letter : {r : Option Base} {b : Base} (x : ℕ) → told r ≡ reads x → r ≡ Some b → letter_of b ≡ normal x
unfolding normal
read_letter x h e = sym (ap letter_in (sym h ∙ ap told e))

pub read_none : {r : Option Base} (x : ℕ) → told r ≡ reads x → r ≡ None → no_base x ≡ true
unfolding no_base
read_none x h e = ap is_refused (sym h ∙ ap told e)

-- the letter of the base that is read, or 0
pub read_normal : (r : Option Base) (x v : ℕ) → told r ≡ reads x → MatchOption r (v ≡ 0) (λ b. v ≡ letter_of b) → v ≡ normal x
unfolding normal
read_normal (Some b) x v h e = e ∙ ap letter_in h
read_normal None x v h e = e ∙ ap letter_in h

-- and it is kept as it is where it is that base's letter
pub kept_some : {r : Option Base} {b : Base} (x : ℕ) → told r ≡ reads x → r ≡ Some b → is_kept x ≡ eqb (letter_of b) x
unfolding is_kept
kept_some x h e = simp (read_is _ h e, ← read_letter _ h e)

pub kept_none : {r : Option Base} (x : ℕ) → told r ≡ reads x → r ≡ None → is_kept x ≡ false
unfolding is_kept
kept_none x h e = simp (read_none _ h e)

-- the base of a letter, and the answer that says so
base_of : ℕ → Base
base_of y = cond (eqb y 65) A (cond (eqb y 67) C (cond (eqb y 71) G U))

reading_of : Spelt → Option Base
reading_of (kept y) = Some (base_of y)
reading_of (refused num) = None

told_back : (r : Option Base) → reading_of (told r) ≡ r
unfolding reading_of base_of
told_back (Some A) = refl
told_back (Some C) = refl
told_back (Some G) = refl
told_back (Some U) = refl
told_back None = refl

-- `read_base` has one permitted answer
pub one_reading : {s : Spelt} (r r' : Option Base) → told r ≡ s → told r' ≡ s → r ≡ r'
one_reading r r' p q = sym (told_back r) ∙ ap reading_of (p ∙ sym q) ∙ told_back r'

-- 0, which stands past the end of a list, is no base
pub normal_zero : normal 0 ≡ 0
unfolding normal reads
normal_zero = refl

-- ---- exactly ten bytes are bases

-- the rules' list: a byte, and the letter that is kept of it
pub data Letter : ℕ → ℕ → Type 0 where
  upper_A : Letter 65 65
  lower_a : Letter 97 65
  upper_C : Letter 67 67
  lower_c : Letter 99 67
  upper_G : Letter 71 71
  lower_g : Letter 103 71
  upper_U : Letter 85 85
  lower_u : Letter 117 85
  upper_T : Letter 84 85
  lower_t : Letter 116 85

pub letter_reads : {x y : ℕ} → Letter x y → reads x ≡ kept y
unfolding reads
letter_reads upper_A = refl
letter_reads lower_a = refl
letter_reads upper_C = refl
letter_reads lower_c = refl
letter_reads upper_G = refl
letter_reads lower_g = refl
letter_reads upper_U = refl
letter_reads lower_u = refl
letter_reads upper_T = refl
letter_reads lower_t = refl

-- a byte is one of the ten, or is refused as 2
pub only_ten : (x : ℕ) → Letter x (normal x) ⊎ (reads x ≡ refused 2)
unfolding reads normal
only_ten x =
    by_cases (ℕ_discrete x 65) (λ e. inl (rw e upper_A))
    (λ n₁. by_cases (ℕ_discrete x 97) (λ e. inl (rw e lower_a))
    (λ n₂. by_cases (ℕ_discrete x 67) (λ e. inl (rw e upper_C))
    (λ n₃. by_cases (ℕ_discrete x 99) (λ e. inl (rw e lower_c))
    (λ n₄. by_cases (ℕ_discrete x 71) (λ e. inl (rw e upper_G))
    (λ n₅. by_cases (ℕ_discrete x 103) (λ e. inl (rw e lower_g))
    (λ n₆. by_cases (ℕ_discrete x 85) (λ e. inl (rw e upper_U))
    (λ n₇. by_cases (ℕ_discrete x 117) (λ e. inl (rw e lower_u))
    (λ n₈. by_cases (ℕ_discrete x 84) (λ e. inl (rw e upper_T))
    (λ n₉. by_cases (ℕ_discrete x 116) (λ e. inl (rw e lower_t))
    (λ n. inr (simp (ne_eqb x 65 n₁, ne_eqb x 97 n₂, ne_eqb x 67 n₃, ne_eqb x 99 n₄, ne_eqb x 71 n₅, ne_eqb x 103 n₆, ne_eqb x 85 n₇, ne_eqb x 117 n₈, ne_eqb x 84 n₉, ne_eqb x 116 n))))))))))))

-- ---- exactly six pairs

-- the rules' list: a pair's number, and its two letters
pub data Pair : ℕ → ℕ → ℕ → Type 0 where
  AU : Pair 0 65 85
  UA : Pair 1 85 65
  GC : Pair 2 71 67
  CG : Pair 3 67 71
  GU : Pair 4 71 85
  UG : Pair 5 85 71

pub pair_can : {k a b : ℕ} → Pair k a b → can_pair a b ≡ true
unfolding can_pair
pair_can AU = refl
pair_can UA = refl
pair_can GC = refl
pair_can CG = refl
pair_can GU = refl
pair_can UG = refl

pub pair_number : {k a b : ℕ} → Pair k a b → pair_index a b ≡ k
unfolding pair_index
pair_number AU = refl
pair_number UA = refl
pair_number GC = refl
pair_number CG = refl
pair_number GU = refl
pair_number UG = refl

-- two bytes are one of the six, or don't pair and have the number 6
six_or_none : (a b : ℕ) → Pair (pair_index a b) a b ⊎ ((can_pair a b ≡ false) × (pair_index a b ≡ 6))
unfolding can_pair pair_index
six_or_none a b =
    by_cases (ℕ_discrete a 65)
    (λ e. by_cases (ℕ_discrete b 85) (λ f. inl (rw (e, f) AU)) (λ m. inr (simp (e, ne_eqb b 85 m), simp (e, ne_eqb b 85 m))))
    (λ n₁. by_cases (ℕ_discrete a 85)
    (λ e. by_cases (ℕ_discrete b 65) (λ f. inl (rw (e, f) UA))
    (λ m₁. by_cases (ℕ_discrete b 71) (λ f. inl (rw (e, f) UG)) (λ m. inr (simp (e, ne_eqb b 65 m₁, ne_eqb b 71 m), simp (e, ne_eqb b 65 m₁, ne_eqb b 71 m)))))
    (λ n₂. by_cases (ℕ_discrete a 71)
    (λ e. by_cases (ℕ_discrete b 67) (λ f. inl (rw (e, f) GC))
    (λ m₁. by_cases (ℕ_discrete b 85) (λ f. inl (rw (e, f) GU)) (λ m. inr (simp (e, ne_eqb b 67 m₁, ne_eqb b 85 m), simp (e, ne_eqb b 67 m₁, ne_eqb b 85 m)))))
    (λ n₃. by_cases (ℕ_discrete a 67)
    (λ e. by_cases (ℕ_discrete b 71) (λ f. inl (rw (e, f) CG)) (λ m. inr (simp (e, ne_eqb b 71 m), simp (e, ne_eqb b 71 m))))
    (λ n. inr
    (simp (ne_eqb a 65 n₁, ne_eqb a 85 n₂, ne_eqb a 71 n₃, ne_eqb a 67 n), simp (ne_eqb a 65 n₁, ne_eqb a 85 n₂, ne_eqb a 71 n₃, ne_eqb a 67 n))))))

pub only_six : (a b : ℕ) → can_pair a b ≡ true → Pair (pair_index a b) a b
only_six a b h = ⊎_elim (λ p. p) (λ e. absurd (true≢false (sym h ∙ e.0))) (six_or_none a b)

turned : {k a b : ℕ} → Pair k a b → can_pair b a ≡ true
unfolding can_pair
turned AU = refl
turned UA = refl
turned GC = refl
turned CG = refl
turned GU = refl
turned UG = refl

same_truth : (p q : Bool) → (p ≡ true → q ≡ true) → (q ≡ true → p ≡ true) → p ≡ q
same_truth true q f g = sym (f refl)
same_truth false true f g = g refl
same_truth false false f g = refl

pub pair_symmetric : (a b : ℕ) → can_pair a b ≡ can_pair b a
pair_symmetric a b = same_truth (can_pair a b) (can_pair b a) (λ h. turned (only_six a b h)) (λ h. turned (only_six b a h))

below_six : {k a b : ℕ} → Pair k a b → k < 6
below_six AU = lit< tt
below_six UA = lit< tt
below_six GC = lit< tt
below_six CG = lit< tt
below_six GU = lit< tt
below_six UG = lit< tt

-- the number of a pair is below 6
pub index_below : (a b : ℕ) → can_pair a b ≡ true → pair_index a b < 6
index_below a b h = below_six (only_six a b h)

-- and 6 where the bytes don't pair
pub index_none : (a b : ℕ) → can_pair a b ≡ false → pair_index a b ≡ 6
index_none a b h = ⊎_elim (λ p. absurd (true≢false (sym (pair_can p) ∙ h))) (λ e. e.1) (six_or_none a b)

first : ℕ → ℕ
first k = get_or (65 ∷ 85 ∷ 71 ∷ 67 ∷ 71 ∷ 85 ∷ []) k 0

second : ℕ → ℕ
second k = get_or (85 ∷ 65 ∷ 67 ∷ 71 ∷ 85 ∷ 71 ∷ []) k 0

letters_of : {k a b : ℕ} → Pair k a b → (a ≡ first k) × (b ≡ second k)
unfolding first second
letters_of AU = (refl, refl)
letters_of UA = (refl, refl)
letters_of GC = (refl, refl)
letters_of CG = (refl, refl)
letters_of GU = (refl, refl)
letters_of UG = (refl, refl)

-- the number tells the pair
pub index_tells : (a b c d : ℕ) → can_pair a b ≡ true → can_pair c d ≡ true → pair_index a b ≡ pair_index c d → (a ≡ c) × (b ≡ d)
index_tells a b c d h g e =
    let p = letters_of (only_six a b h) in
    let q = letters_of (only_six c d g) in
    (p.0 ∙ ap first e ∙ sym q.0, p.1 ∙ ap second e ∙ sym q.1)

-- what pairs is kept as it is
both_kept : {k a b : ℕ} → Pair k a b → (is_kept a ≡ true) × (is_kept b ≡ true)
unfolding is_kept no_base normal reads
both_kept AU = (refl, refl)
both_kept UA = (refl, refl)
both_kept GC = (refl, refl)
both_kept CG = (refl, refl)
both_kept GU = (refl, refl)
both_kept UG = (refl, refl)

pub pair_kept : (a b : ℕ) → can_pair a b ≡ true → (is_kept a ≡ true) × (is_kept b ≡ true)
pair_kept a b h = both_kept (only_six a b h)

-- the letter that is kept of a base is kept as it is
letter_kept : {x y : ℕ} → Letter x y → is_kept y ≡ true
unfolding is_kept no_base normal reads
letter_kept upper_A = refl
letter_kept lower_a = refl
letter_kept upper_C = refl
letter_kept lower_c = refl
letter_kept upper_G = refl
letter_kept lower_g = refl
letter_kept upper_U = refl
letter_kept lower_u = refl
letter_kept upper_T = refl
letter_kept lower_t = refl

pub normal_kept : (x : ℕ) → no_base x ≡ false → is_kept (normal x) ≡ true
unfolding no_base
normal_kept x h = ⊎_elim letter_kept (λ e. absurd (true≢false (sym (ap is_refused e) ∙ h))) (only_ten x)

not_and : (p q : Bool) → (not p && q) ≡ true → (p ≡ false) × (q ≡ true)
not_and true q e = absurd (false≢true e)
not_and false q e = (refl, e)

-- and a byte that is kept as it is is a base
pub kept_base : (x : ℕ) → is_kept x ≡ true → (no_base x ≡ false) × (normal x ≡ x)
unfolding is_kept
kept_base x h = let e = not_and (no_base x) (eqb (normal x) x) h in (e.0, eqb-true (normal x) x e.1)

-- the letter of a base is one
pub normal_base : (x : ℕ) → no_base x ≡ false → no_base (normal x) ≡ false
normal_base x h = (kept_base (normal x) (normal_kept x h)).0

nothing_kept : (r : Spelt) → is_refused r ≡ true → letter_in r ≡ 0
nothing_kept (kept y) e = absurd (true≢false (sym e))
nothing_kept (refused num) e = refl

no_letter : (x : ℕ) → no_base x ≡ true → normal x ≡ 0
unfolding no_base normal
no_letter x e = nothing_kept (reads x) e

-- and is its own letter; of a byte that is no base nothing is kept, and again nothing
pub normal_again : (x : ℕ) → normal (normal x) ≡ normal x
normal_again x = go (no_base x) refl
  where
    go : (p : Bool) → no_base x ≡ p → normal (normal x) ≡ normal x
    go true e = let z = no_letter x e in rw z normal_zero
    go false e = (kept_base (normal x) (normal_kept x e)).1
