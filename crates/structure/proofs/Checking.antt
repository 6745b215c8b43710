-- What the check of a pair table knows, step by step, and that a table is due nothing exactly where it is sound. Assumes nothing.
use mathlib.Core.Path.{◌≡◌, refl, sym, ap, subst, ◌∙◌}
use mathlib.Core.Logic.{◌≢◌, inl, inr, ⊎_elim, by_cases}
use mathlib.Core.Bool.{Bool, true, false, not, ◌||◌, true≢false, false≢true}
use mathlib.Core.List.{List}
use Prim.Native.Nat.{ℕ, suc, ◌+◌, ◌<◌, ◌≤◌}
use native.Mathlib.Omega.{arith}
use native.Mathlib.Numerals.{add-one}
use native.Mathlib.Decide.{dec_lt, ℕ_discrete}
use lib.Dec.{ltb, eqb}
use lib.ListN.{length}
use borrow.Author.Tests.{eq-eqb, ne_eqb, eqb-true, lt-ltb, le-ltb, le-leb, lt-leb, ltb-false, not-false}
use Rattle.refusals.specs.Refusals.{Due, clear, refuse, check, each, structure_limit}
use Rattle.std.proofs.Common.{Option, None, Some}
use Rattle.refusals.proofs.Laws.{check_clear, then_clear, each_clear, clear_each, each_found, some_at, some_false, false_some}
use Rattle.std.proofs.lemmas.Option.{none-some, same_Some}
use Rattle.structure.specs.Table.{unpaired, view, Fold, Sound, opens}
use Rattle.structure.specs.Soundness.{named, over, crossed, unnamed_due, crossed_due, unsound_due, table_due, write_due}
use Rattle.structure.specs.Walking.{Named, AllNamed, FirstUnnamed, Over, Crossed, crossed_by, Crossing, crossing, Shut, Escapes, escapes, Tells, hop_to}
use Rattle.structure.proofs.Folds.{empty, one, join, wrap}
use Rattle.structure.proofs.Counts.{opens_high, opens_none, opens_low, low_or_none}

-- ---- a test's answer
pub tells_true : {A B : Type 0} → A → Tells true A B
tells_true x = record { holds = λ e. x; fails = λ e. absurd (true≢false e) }

pub tells_false : {A B : Type 0} → B → Tells false A B
tells_false x = record { holds = λ e. absurd (false≢true e); fails = λ e. x }

pub tells_map : {r : Bool} {A B A' B' : Type 0} → (A → A') → (B → B') → Tells r A B → Tells r A' B'
tells_map f g t = record { holds = λ e. f (t.holds e); fails = λ e. g (t.fails e) }

module _ (p : ℕ → ℕ) (n : ℕ) where
  -- ---- the entries
  pub named_true : (k : ℕ) → named p n k ≡ true → Named p n k
  named_true k e = record {
    back = λ q. by_cases (dec_lt (p k) n)
        (λ l. by_cases (ℕ_discrete (p k) k)
        (λ s. absurd (true≢false (sym e ∙ rw (ne_eqb (p k) unpaired q, lt-ltb (p k) n l, eq-eqb (p k) k s))))
        (λ s. (l, s, eqb-true (p (p k)) k (rw (ne_eqb (p k) unpaired q, lt-ltb (p k) n l, ne_eqb (p k) k s) at e))))
        (λ l. absurd (true≢false (sym e ∙ rw (ne_eqb (p k) unpaired q, le-ltb (p k) n (omega arith)))));
  }

  pub named_is : (k : ℕ) → p k ≢ unpaired → p k < n → p k ≢ k → eqb (p (p k)) k ≡ named p n k
  named_is k q l s = rw (ne_eqb (p k) unpaired q, lt-ltb (p k) n l, ne_eqb (p k) k s)

  pub true_named : (k : ℕ) → Named p n k → named p n k ≡ true
  true_named k m = by_cases (ℕ_discrete (p k) unpaired)
      (λ q. rw (eq-eqb (p k) unpaired q))
      (λ q. let b = m.back q in sym (named_is k q b.0 b.1) ∙ eq-eqb (p (p k)) k b.2)

  named_check : ℕ → Due
  named_check k = check (not (named p n k)) 8 (Some k)

  pub all_named : {r : ℕ} → FirstUnnamed p n r → n ≤ r → AllNamed p n
  all_named f h k l = named_true k (f.before k (omega arith))

  -- 8 at the first entry that isn't named back
  pub unnamed_first : {r : ℕ} → FirstUnnamed p n r → r < n → unnamed_due p n ≡ refuse 8 (Some r)
  unfolding named_check
  unnamed_first {r} f h =
      each_found named_check r n 8 (Some r) h
      (clear_each named_check r (λ k l. rw (f.before k l)))
      (rw (f.here h))

  pub named_clear : AllNamed p n → unnamed_due p n ≡ clear
  unfolding named_check
  named_clear all = clear_each named_check n (λ k l. rw (true_named k (all k l)))

  -- ---- the walk
  module _ (small : n < unpaired) (all : AllNamed p n) where
    module _ (lo hi x : ℕ) (shut : Shut p n lo) (l : lo ≤ x) (h : x < hi) (w : hi ≤ n) (f : Fold p lo x) where
      -- a hop that stays inside extends the span that folds
      pub hop_on : (y : ℕ) → hop_to x (p x) hi ≡ Some y → (x < y) × (y ≤ hi) × Fold p lo y
      hop_on y e = by_cases (ℕ_discrete (p x) unpaired)
          (λ q. let e' : suc x ≡ y = same_Some (suc x) y (rw (eq-eqb (p x) unpaired q) at e) in
          (omega arith, omega arith, rw (← e') (join p f (one p x (omega arith) q) l (omega arith))))
          (λ q. by_cases (dec_lt (p x) x)
          (λ s. absurd (none-some y (rw (ne_eqb (p x) unpaired q, lt-ltb (p x) x s) at e)))
          (λ s. by_cases (dec_lt (p x) hi)
          (λ t. let e' : suc (p x) ≡ y = same_Some (suc (p x)) y (rw (ne_eqb (p x) unpaired q, le-ltb (p x) x (omega arith), lt-leb hi (p x) t) at e) in
          let b = (all x (omega arith)).back q in
          (omega arith, omega arith, rw (← e') (join p f (shut x l (omega arith) (omega arith)) l (omega arith))))
          (λ t. absurd (none-some y (rw (ne_eqb (p x) unpaired q, le-ltb (p x) x (omega arith), le-leb hi (p x) (omega arith)) at e)))))

      -- and one that can't leaves it
      pub hop_out : hop_to x (p x) hi ≡ None → Escapes p lo hi
      hop_out e = by_cases (ℕ_discrete (p x) unpaired)
          (λ q. absurd (none-some (suc x) (sym (rw (eq-eqb (p x) unpaired q) at e))))
          (λ q. let b = (all x (omega arith)).back q in
          let named_back = b.2 in
          by_cases (dec_lt (p x) x)
          (λ s. escapes x l h q (inl (by_cases (dec_lt (p x) lo) (λ t. t)
          (λ t. let m = f.mate (p x) (omega arith) s (omega arith) in absurd (omega arith)))))
          (λ s. by_cases (dec_lt (p x) hi)
          (λ t. absurd (none-some (suc (p x)) (sym (rw (ne_eqb (p x) unpaired q, le-ltb (p x) x (omega arith), lt-leb hi (p x) t) at e))))
          (λ t. escapes x l h q (inr (omega arith)))))

    -- ---- one level
    pub shut_closed : (i : ℕ) → i < n → opens i (p i) ≡ 0 → Shut p n (i + 1) → Shut p n i
    shut_closed i h z s x l o w = by_cases (ℕ_discrete i x)
        (λ q. absurd (let o' : i < p i = rw (← q) at o in let w' : p i < n = rw (← q) at w in
        omega (arith, opens_high i (p i) o' (omega arith))))
        (λ q. s x (omega arith) o w)

    pub opens_in : (i : ℕ) → i < n → opens i (p i) ≢ 0 → (i < p i) × (p i < n) × (p (p i) ≡ i)
    opens_in i h z =
        let q : p i ≢ unpaired = λ e. z (opens_none i (p i) e) in
        let b = (all i h).back q in
        let u : ¬ (p i ≤ i) = λ s. z (opens_low i (p i) s (omega arith)) in
        (omega arith, b.0, b.2)

    pub shut_open : (i : ℕ) → i < n → opens i (p i) ≢ 0 → Shut p n (i + 1) → Fold p (i + 1) (p i) → Shut p n i
    shut_open i h z s f x l o w =
        let b = opens_in i h z in
        by_cases (ℕ_discrete i x)
        (λ q. rw (← q) (wrap p (rw (add-one i) at f) b.0 (omega arith) refl b.2))
        (λ q. s x (omega arith) o w)

    -- nothing stands inside a pair of neighbours
    pub shut_bare : (i : ℕ) → i < n → opens (i + 1) (p i) ≡ 0 → Shut p n (i + 1) → Shut p n i
    shut_bare i h z s = by_cases (ℕ_discrete (opens i (p i)) 0)
        (λ o. shut_closed i h o s)
        (λ o. let w = opens_in i h o in
        let e : p i ≡ i + 1 = omega (arith, w.0, low_or_none (i + 1) (p i) z (λ q. omega (arith, w.1))) in
        shut_open i h o s (subst (λ x. Fold p x (p i)) e (empty p (p i) (omega arith))))

    pub crosses : (i : ℕ) → i < n → opens i (p i) ≢ 0 → Escapes p (i + 1) (p i) → Crossing p n
    crosses i h z (escapes x l r q d) =
        let b = opens_in i h z in
        let back-i = b.2 in
        let m = (all x (omega arith)).back q in
        let back-x = m.2 in
        let ne : p x ≢ i = λ e. omega (arith, ap p e) in
        let ne' : p x ≢ p i = λ e. omega (arith, ap p e) in
        ⊎_elim
        (λ s. crossing (p x) (crossed_by i (record { right = omega arith; within = omega arith; past = omega arith; pair = b.1 })))
        (λ s. crossing i (crossed_by x (record { right = rw (add-one i) at l; within = r; past = omega arith; pair = m.0 })))
        d

    pub no_escape : Escapes p 0 n → ⊥
    no_escape (escapes x l r q (inl s)) = omega arith
    no_escape (escapes x l r q (inr s)) = let m = (all x r).back q in omega arith

  -- ---- the search
  pub over_true : (a b : ℕ) → Over p n a b → over p n a b ≡ true
  over_true a b o = rw (lt-ltb a b o.right, lt-ltb b (p a) o.within, lt-ltb (p a) (p b) o.past, lt-ltb (p b) n o.pair)

  -- a pair that is not crossed by that one
  pub over_false : (a b : ℕ) → ¬ (Over p n a b) → over p n a b ≡ false
  over_false a b not-over = by_cases (dec_lt a b)
      (λ u. by_cases (dec_lt b (p a))
      (λ v. by_cases (dec_lt (p a) (p b))
      (λ w. by_cases (dec_lt (p b) n)
      (λ x. absurd (not-over (record { right = u; within = v; past = w; pair = x })))
      (λ x. rw (lt-ltb a b u, lt-ltb b (p a) v, lt-ltb (p a) (p b) w, le-ltb (p b) n (omega arith))))
      (λ w. rw (lt-ltb a b u, lt-ltb b (p a) v, le-ltb (p a) (p b) (omega arith))))
      (λ v. rw (lt-ltb a b u, le-ltb b (p a) (omega arith))))
      (λ u. rw (le-ltb a b (omega arith)))

  pub over_in : (a b : ℕ) → Over p n a b → (a < n) × (b < n)
  over_in a b o = let x = o.right in let y = o.within in let z = o.past in let w = o.pair in (omega arith, omega arith)

  crossed_check : ℕ → Due
  crossed_check k = check (crossed p n k) 8 (Some k)

  -- no pair that opens below a is crossed by one further right, so none of these is crossed at all
  none_lower : (a : ℕ) → ((j : ℕ) → j < a → ¬ (Crossed p n j)) → each crossed_check a ≡ clear
  unfolding crossed_check
  none_lower a s = clear_each crossed_check a (λ j l.
      rw (false_some (λ b. over p n j b || over p n b j) n (λ b h.
      rw (over_false j b (λ o. s j l (crossed_by b o)), over_false b j (λ o. let x = o.right in s b (omega arith) (crossed_by j o))))))

  -- 8 at the lowest opening position of a crossed pair: the other is further right
  pub crossed_first : (a : ℕ) → ((j : ℕ) → j < a → ¬ (Crossed p n j)) → Crossed p n a → crossed_due p n ≡ refuse 8 (Some a)
  unfolding crossed_check
  crossed_first a s (crossed_by b o) =
      let i = over_in a b o in
      each_found crossed_check a n 8 (Some a) i.0 (none_lower a s)
      (rw (some_at (λ b. over p n a b || over p n b a) n b i.1 (rw (over_true a b o))))

  pub not_all_clear : Crossing p n → ((j : ℕ) → j < n → ¬ (Crossed p n j)) → ⊥
  not_all_clear (crossing a (crossed_by b o)) s = s a (over_in a b o).0 (crossed_by b o)

  -- ---- the whole
  fold_clear : Fold p 0 n → (unnamed_due p n ≡ clear) × (crossed_due p n ≡ clear)
  unfolding crossed_check
  fold_clear f = (
    named_clear (λ k l. record { back = λ q. let m = f.mate k (omega arith) l q in (m.1, m.2, m.3) }),
    none_lower n (λ a l. elim [ crossed_by b o ↦ f.plain a b (omega arith) o.right o.within o.past o.pair ]),
  )

  clear_fold : n ≤ unpaired → unnamed_due p n ≡ clear → crossed_due p n ≡ clear → Fold p 0 n
  unfolding named_check crossed_check
  clear_fold h u v = record {
    fits = h;
    mate = λ k l r q.
        let named_here = not-false _ (check_clear (not (named p n k)) 8 (Some k) (each_clear named_check n u k r)) in
        let m = (named_true k named_here).back q in (omega arith, m.0, m.1, m.2);
    plain = λ a b l x y z w.
        let o : Over p n a b = record { right = x; within = y; past = z; pair = w } in
        let i = over_in a b o in
        let none = check_clear (crossed p n a) 8 (Some a) (each_clear crossed_check n v a i.0) in
        let here = some_false (λ c. over p n a c || over p n c a) n none b i.1 in
        let there : (over p n a b || over p n b a) ≡ true = rw (over_true a b o) in
        true≢false (sym there ∙ here);
  }

-- a table is due nothing where it is sound
pub sound_clear : (t : List ℕ) → Sound t → unsound_due t ≡ clear
unfolding unsound_due
sound_clear t f = let c = fold_clear (view t) (length t) f in rw c.0 c.1

-- and nowhere else
pub sound : (t : List ℕ) → length t ≤ unpaired → unsound_due t ≡ clear → Sound t
unfolding unsound_due
sound t h e =
    let c = then_clear (unnamed_due (view t) (length t)) (crossed_due (view t) (length t)) e in
    clear_fold (view t) (length t) h c.0 c.1

-- a table that is due nothing is short enough, and sound
pub table_clear : (t : List ℕ) → table_due t ≡ clear → (length t ≤ structure_limit) × Sound t
unfolding table_due
table_clear t e =
    let c = then_clear (check (ltb structure_limit (length t)) 3 None) (unsound_due t) e in
    let h = ltb-false structure_limit (length t) (check_clear (ltb structure_limit (length t)) 3 None c.0) in
    (h, sound t (omega arith) c.1)

-- a sound table that is short enough is due nothing
pub clear_table : (t : List ℕ) → length t ≤ structure_limit → Sound t → table_due t ≡ clear
unfolding table_due
clear_table t h f = rw (le-ltb structure_limit (length t) h, sound_clear t f)

-- ---- the room is looked at last
module _ (t : List ℕ) (room need : ℕ) where
  -- the edit `four_before_eight` is refused here
  pub write_refused : {num : ℕ} {at : Option ℕ} → table_due t ≡ refuse num at → write_due t room need ≡ refuse num at
  unfolding write_due
  write_refused e = rw e

  pub write_clear : table_due t ≡ clear → need ≤ room → write_due t room need ≡ clear
  unfolding write_due
  write_clear e h = rw (e, le-ltb room need h)

  pub written_clear : write_due t room need ≡ clear → table_due t ≡ clear
  unfolding write_due
  written_clear e = (then_clear (table_due t) (check (ltb room need) 4 None) e).0
