-- What a scan of bracket text knows: which bytes offend, and which `(` is left open. Assumes nothing.
use mathlib.Core.Path.{◌≡◌, refl, sym, ap, ◌∙◌}
use mathlib.Core.Logic.{◌≢◌, by_cases}
use mathlib.Core.Bool.{Bool, not, ◌&&◌, and-false}
use Prim.Native.Nat.{ℕ, zero, suc, ◌+◌, ◌<◌, ◌≤◌}
use native.Mathlib.Omega.{arith}
use native.Mathlib.Numerals.{add-one}
use native.Mathlib.Decide.{dec_lt, ℕ_discrete}
use lib.Dec.{ltb, leb, eqb}
use borrow.Author.Tests.{eq-eqb, ne_eqb, lt-ltb, le-ltb, le-leb, lt-leb}
use Rattle.refusals.specs.Refusals.{number, place, Due, clear, refuse, check, each, due_of}
use Rattle.refusals.specs.declared.Refusal.{Refusal}
use Rattle.std.proofs.Common.{Some}
use Rattle.refusals.specs.declared.Refusal.TheVariants.{Unopened, NoBracket, Unclosed}
use Rattle.refusals.proofs.Laws.{one_of, each_clear, clear_each, each_found, some_at, false_some}
use Rattle.brackets.specs.Text.{next, depth, offends, offence, unmatched, unclosed}
use Rattle.brackets.specs.Parsing.{Proper, Clean}

-- ---- how many are open

next_le : (v d : ℕ) → next v d ≤ suc d
next_le v d = by_cases (ℕ_discrete v 40)
    (λ e. rw (eq-eqb v 40 e) (omega arith))
    (λ n. by_cases (ℕ_discrete v 41) (λ e. rw (ne_eqb v 40 n, eq-eqb v 41 e) (omega arith)) (λ m. rw (ne_eqb v 40 n, ne_eqb v 41 m) (omega arith)))

pub depth_le : (b : ℕ → ℕ) (k : ℕ) → depth b k ≤ k
depth_le b zero = omega arith
depth_le b (suc k) = omega (arith, next_le (b k) (depth b k), depth_le b k)

pub depth_step : (b : ℕ → ℕ) (d i : ℕ) → d ≡ depth b i → next (b i) d ≡ depth b (i + 1)
depth_step b d i e = rw (add-one i) (ap (next (b i)) e)

-- ---- what a byte comes to

pub offends_open : (v d k : ℕ) → v ≡ 40 → offends v d k ≡ clear
offends_open v d k e = rw (ne_eqb v 41 (omega arith), eq-eqb v 40 e)

pub offends_dot : (v d k : ℕ) → v ≡ 46 → offends v d k ≡ clear
offends_dot v d k e = rw (ne_eqb v 41 (omega arith), ne_eqb v 40 (omega arith), eq-eqb v 46 e)

pub offends_close : (v d k : ℕ) → v ≡ 41 → d ≢ 0 → offends v d k ≡ clear
offends_close v d k e n = rw (eq-eqb v 41 e, ne_eqb d 0 n, ne_eqb v 40 (omega arith))

pub offends_unopened : (v d k : ℕ) → v ≡ 41 → d ≡ 0 → offends v d k ≡ refuse 5 (Some k)
offends_unopened v d k e z = rw (eq-eqb v 41 e, eq-eqb d 0 z)

pub offends_other : (v d k : ℕ) → v ≢ 40 → v ≢ 41 → v ≢ 46 → offends v d k ≡ refuse 6 (Some k)
offends_other v d k n m l = rw (ne_eqb v 41 m, ne_eqb v 40 n, ne_eqb v 46 l)

proper : (b : ℕ → ℕ) (k : ℕ) → offence b k ≡ clear → Proper b k
proper b k e = record {
  bracket = λ n m. by_cases (ℕ_discrete (b k) 46) (λ q. q) (λ l. absurd (one_of (NoBracket k) e (offends_other (b k) (depth b k) k n m l)));
  closing = λ q. by_cases (ℕ_discrete (depth b k) 0) (λ z. absurd (one_of (Unopened k) e (offends_unopened (b k) (depth b k) k q z))) (λ n. omega arith);
}

-- what a byte comes to, by how many a loop has counted
pub judged : (b : ℕ → ℕ) (d i : ℕ) (due : Due) → d ≡ depth b i → due ≡ offends (b i) d i → offence b i ≡ due
judged b d i due e o = ap (λ (x : ℕ). offends (b i) x i) (sym e) ∙ sym o

-- a refusal found at the first place that has one is that of the text
pub offence_found : (b : ℕ → ℕ) (k n d : ℕ) (q : Refusal) → k < n → each (offence b) k ≡ clear → d ≡ depth b k → due_of q ≡ offends (b k) d k
    → due_of q ≡ each (offence b) n
offence_found b k n d q h e o f =
    sym (each_found (offence b) k n (number q) (place q) h e (judged b _ _ _ o f))

-- nothing is found at the places below n exactly where no byte there offends
pub clean : (b : ℕ → ℕ) (n : ℕ) → each (offence b) n ≡ clear → Clean b n
clean b n e k h = proper b k (each_clear (offence b) n e k h)

-- ---- which `(` is left open

-- at place m, what is open has fallen back to what was open before i
falls : (ℕ → ℕ) → ℕ → ℕ → Bool
falls b i m = ltb i m && leb (depth b m) (depth b i)

-- where that happens within the n bytes, the `(` at i is closed
is_closed : (b : ℕ → ℕ) (n i m : ℕ) → i < m → m ≤ n → depth b m ≤ depth b i → unclosed b n i ≡ clear
unfolding unmatched falls
is_closed b n i m l h d =
    let fell = some_at (falls b i) (suc n) m (omega arith) (rw (lt-ltb i m l, le-leb (depth b m) (depth b i) d)) in
    ap (λ (x : Bool). check (eqb (b i) 40 && not x) 7 (Some i)) fell ∙ ap (λ (x : Bool). check x 7 (Some i)) (and-false (eqb (b i) 40))

-- where it never does, it is left open
is_left : (b : ℕ → ℕ) (n i : ℕ) → b i ≡ 40 → ((m : ℕ) → i < m → m ≤ n → depth b i < depth b m) → unclosed b n i ≡ refuse 7 (Some i)
unfolding unmatched falls
is_left b n i e u =
    let never = false_some (falls b i) (suc n) (λ m h. by_cases (dec_lt i m)
    (λ l. let d = u m l (omega arith) in rw (lt-ltb i m l, lt-leb (depth b m) (depth b i) d))
    (λ g. rw (le-ltb i m (omega arith)))) in
    ap (λ (x : Bool). check (eqb (b i) 40 && not x) 7 (Some i)) never ∙ rw (eq-eqb (b i) 40 e)

-- nothing is open before first, and something is before each later place below i
pub record Since (b : ℕ → ℕ) (first i : ℕ) : Type 0 where
  pub within : first ≤ i
  pub none : depth b first ≡ 0
  pub later : (m : ℕ) → first < m → m < i → 0 < depth b m

pub since_none : (b : ℕ → ℕ) → Since b 0 0
since_none b = record { within = omega arith; none = refl; later = λ m l r. absurd (omega arith) }

pub since_here : (b : ℕ → ℕ) (i : ℕ) → depth b i ≡ 0 → Since b i (i + 1)
since_here b i e = record { within = omega arith; none = e; later = λ m l r. absurd (omega arith) }

pub since_more : (b : ℕ → ℕ) (first i : ℕ) → Since b first i → depth b i ≢ 0 → Since b first (i + 1)
since_more b first i s n = record {
  within = let w = s.within in omega arith;
  none = s.none;
  later = λ m l r. by_cases (ℕ_discrete i m) (λ e. rw (← e) (omega arith)) (λ ne. s.later m l (omega arith));
}

-- every text has such a place
since : (b : ℕ → ℕ) (n : ℕ) → (first : ℕ) × Since b first n
since b zero = (0, since_none b)
since b (suc n) = by_cases (ℕ_discrete (depth b n) 0)
    (λ z. (n, rw (← add-one n) (since_here b n z)))
    (λ d. let s = since b n in (s.0, rw (← add-one n) (since_more b s.0 n s.1 d)))

-- a depth that rises from 0 does so by `(`
rises : (v : ℕ) → 0 < next v 0 → v ≡ 40
rises v h = by_cases (ℕ_discrete v 40) (λ e. e)
    (λ n. absurd (by_cases (ℕ_discrete v 41)
    (λ e. let q : next v 0 ≡ 0 = rw (ne_eqb v 40 n, eq-eqb v 41 e) in omega arith)
    (λ m. let q : next v 0 ≡ 0 = rw (ne_eqb v 40 n, ne_eqb v 41 m) in omega arith)))

-- where something is open in the end, the leftmost unmatched `(` is at the last place at which nothing was
pub leftmost : (b : ℕ → ℕ) (first n : ℕ) → Since b first n → depth b n ≢ 0 → each (unclosed b n) n ≡ refuse 7 (Some first)
leftmost b first n s d =
    let z = s.none in
    let w = s.within in
    let ne : first ≢ n = λ e. omega (arith, ap (depth b) e) in
    let up : (m : ℕ) → first < m → m ≤ n → 0 < depth b m = λ m l r.
    by_cases (ℕ_discrete n m) (λ e. rw (← e) (omega arith)) (λ nm. s.later m l (omega arith)) in
    let u = up (suc first) (omega arith) (omega arith) in
    each_found (unclosed b n) first n 7 (Some first) (omega arith)
    (clear_each (unclosed b n) first (λ j l. is_closed b n j first l w (omega arith)))
    (is_left b n first (rises (b first) (rw z at u)) (λ m l r. let x = up m l r in omega arith))

-- nothing is found exactly where nothing is open in the end
pub shut : (b : ℕ → ℕ) (n : ℕ) → each (unclosed b n) n ≡ clear → depth b n ≡ 0
shut b n c = by_cases (ℕ_discrete (depth b n) 0) (λ z. z)
    (λ d. let s = since b n in absurd (one_of (Unclosed s.0) c (leftmost b s.0 n s.1 d)))

pub shut_row : (b : ℕ → ℕ) (n : ℕ) → depth b n ≡ 0 → each (unclosed b n) n ≡ clear
shut_row b n z = clear_each (unclosed b n) n (λ k h. is_closed b n k n h (omega arith) (omega arith))
