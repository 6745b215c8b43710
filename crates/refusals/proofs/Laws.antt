-- How a row of checks is read, and that a call is due one thing: a refusal is known by its number and place. Assumes nothing.
use mathlib.Core.Path.{◌≡◌, refl, sym, ap, ◌∙◌}
use mathlib.Core.Bool.{Bool, true, false, true≢false, false≢true, ◌||◌, or-true, Bool-discrete}
use mathlib.Core.Logic.{◌⊎◌, inl, inr, ⊎_elim, by_cases}
use mathlib.Core.List.{[], ◌∷◌}
use Prim.Native.Nat.{ℕ, zero, suc, ◌+◌, ◌-◌, ◌<◌}
use native.Mathlib.Decide.{ℕ_discrete}
use native.Mathlib.Numerals.{add-one}
use lib.ListN.{get_or}
use native.Mathlib.Omega.{arith}
use Rattle.refusals.specs.declared.Refusal.{Refusal}
use Rattle.refusals.specs.declared.Refusal.TheVariants.{Empty, NoBase, TooLong, TooShort, Unopened, NoBracket, Unclosed, Unsound, Unequal, Outside, Unbelievable}
use Rattle.std.proofs.Common.{Option, None, Some}
use Rattle.refusals.specs.Refusals.{number, place, Due, clear, refuse, check, then, each, some, due_of}

or_right : (p q : Bool) → ¬ (p ≡ true) → (p || q) ≡ true → q ≡ true
or_right true q n e = absurd (n refl)
or_right false q n e = e

-- a test made of two finds nothing where neither does
pub neither : (p q : Bool) → (p || q) ≡ false → (p ≡ false) × (q ≡ false)
neither true q e = absurd (true≢false e)
neither false q e = (refl, e)

not_true_false : (p : Bool) → ¬ (p ≡ true) → p ≡ false
not_true_false true n = absurd (n refl)
not_true_false false n = refl

at : Option ℕ → ℕ
at None = 0
at (Some k) = k

-- the refusal with a number and a place
refusal_of : ℕ → Option ℕ → Refusal
refusal_of num p =
    get_or (Empty ∷ NoBase (at p) ∷ TooLong ∷ TooShort ∷ Unopened (at p) ∷ NoBracket (at p) ∷ Unclosed (at p) ∷ Unsound (at p) ∷ Unequal ∷ Outside ∷ []) (num - 1)
    Unbelievable

refusal_of_lem : (q : Refusal) → refusal_of (number q) (place q) ≡ q
unfolding refusal_of at
refusal_of_lem Empty = refl
refusal_of_lem (NoBase k) = refl
refusal_of_lem TooLong = refl
refusal_of_lem TooShort = refl
refusal_of_lem (Unopened k) = refl
refusal_of_lem (NoBracket k) = refl
refusal_of_lem (Unclosed k) = refl
refusal_of_lem (Unsound k) = refl
refusal_of_lem Unequal = refl
refusal_of_lem Outside = refl
refusal_of_lem Unbelievable = refl

-- a call is not both accepted and refused
pub one_of : {d : Due} (q : Refusal) → d ≡ clear → d ≡ due_of q → ⊥
one_of q p r = let z : ◌≡◌ {A = ℕ} 0 1 = cc in omega arith

-- and there is one refusal
pub one_refusal : {d : Due} (q q' : Refusal) → d ≡ due_of q → d ≡ due_of q' → q ≡ q'
one_refusal {d} q q' p r =
    let num : number q ≡ number q' = cc in
    let pl : place q ≡ place q' = cc in
    sym (refusal_of_lem q) ∙ (cc) ∙ refusal_of_lem q'

pub check_clear : (t : Bool) (num : ℕ) (at : Option ℕ) → check t num at ≡ clear → t ≡ false
check_clear true num at e = let z : ◌≡◌ {A = ℕ} 0 1 = cc in absurd (omega arith)
check_clear false num at e = refl

pub then_clear : (v w : Due) → then v w ≡ clear → (v ≡ clear) × (w ≡ clear)
then_clear clear w e = (refl, e)
then_clear (refuse num at) w e = let z : ◌≡◌ {A = ℕ} 0 1 = cc in absurd (omega arith)

-- how a row is read: a refusal is that of the first row, or the first row finds nothing and it is that of the second
pub then_refuse : (v w : Due) (num : ℕ) (at : Option ℕ) → then v w ≡ refuse num at → (v ≡ refuse num at) ⊎ ((v ≡ clear) × (w ≡ refuse num at))
then_refuse clear w num at e = inr (refl, e)
then_refuse (refuse m p) w num at e = inl e

-- and one check gives its own number and place, where its test is true
pub check_refuse : (t : Bool) (num num' : ℕ) (at at' : Option ℕ) → check t num at ≡ refuse num' at' → (t ≡ true) × (num ≡ num') × (at ≡ at')
check_refuse true num num' at at' e = (refl, cc, cc)
check_refuse false num num' at at' e = let z : ◌≡◌ {A = ℕ} 0 1 = cc in absurd (omega arith)

-- ---- the checks at each place

pub each_clear : (f : ℕ → Due) (n : ℕ) → each f n ≡ clear → (k : ℕ) → k < n → f k ≡ clear
each_clear f zero e k h = absurd (omega arith)
each_clear f (suc n) e k h =
    let c = then_clear (each f n) (f n) e in
    by_cases (ℕ_discrete n k) (λ q. ap f (sym q) ∙ c.1) (λ ne. each_clear f n c.0 k (omega arith))

pub clear_each : (f : ℕ → Due) (n : ℕ) → ((k : ℕ) → k < n → f k ≡ clear) → each f n ≡ clear
clear_each f zero h = refl
clear_each f (suc n) h = rw (clear_each f n (λ k l. h k (omega arith))) (h n (omega arith))

-- one more place at which nothing is found, as a loop counts
pub each_step : (f : ℕ → Due) (i : ℕ) → each f i ≡ clear → f i ≡ clear → each f (i + 1) ≡ clear
each_step f i e d = rw (add-one i) (rw e d)

-- a refusal found at the first place that has one is that of the whole row
pub each_found : (f : ℕ → Due) (i n : ℕ) (num : ℕ) (at : Option ℕ) → i < n → each f i ≡ clear → f i ≡ refuse num at → each f n ≡ refuse num at
each_found f i zero num at h e d = absurd (omega arith)
each_found f i (suc n) num at h e d =
    by_cases (ℕ_discrete i n)
    (λ q. rw (ap (each f) (sym q) ∙ e, ap f (sym q) ∙ d))
    (λ ne. rw (each_found f i n num at (omega arith) e d))

-- and it was found at such a place
pub each_refuse : (f : ℕ → Due) (n : ℕ) (num : ℕ) (at : Option ℕ) → each f n ≡ refuse num at → (k : ℕ) × (k < n) × (each f k ≡ clear) × (f k ≡ refuse num at)
each_refuse f zero num at e = let z : ◌≡◌ {A = ℕ} 0 1 = cc in absurd (omega arith)
each_refuse f (suc n) num at e =
    ⊎_elim
    (λ d. let r = each_refuse f n num at d in (r.0, omega arith, r.2, r.3))
    (λ d. (n, omega arith, d.0, d.1))
    (then_refuse (each f n) (f n) num at e)

-- ---- a test at some place

pub some_at : (f : ℕ → Bool) (n k : ℕ) → k < n → f k ≡ true → some f n ≡ true
some_at f zero k h e = absurd (omega arith)
some_at f (suc n) k h e =
    by_cases (ℕ_discrete n k)
    (λ q. ap (λ (x : Bool). some f n || x) (ap f q ∙ e) ∙ or-true (some f n))
    (λ ne. rw (some_at f n k (omega arith) e))

pub some_true : (f : ℕ → Bool) (n : ℕ) → some f n ≡ true → (k : ℕ) × (k < n) × (f k ≡ true)
some_true f zero e = absurd (false≢true e)
some_true f (suc n) e =
    by_cases (Bool-discrete (some f n) true)
    (λ d. let r = some_true f n d in (r.0, omega arith, r.2))
    (λ ne. (n, omega arith, or_right (some f n) (f n) ne e))

pub some_false : (f : ℕ → Bool) (n : ℕ) → some f n ≡ false → (k : ℕ) → k < n → f k ≡ false
some_false f n e k h = not_true_false (f k) (λ d. true≢false (sym (some_at f n k h d) ∙ e))

pub false_some : (f : ℕ → Bool) (n : ℕ) → ((k : ℕ) → k < n → f k ≡ false) → some f n ≡ false
false_some f zero h = refl
false_some f (suc n) h = rw (false_some f n (λ k l. h k (omega arith))) (h n (omega arith))
