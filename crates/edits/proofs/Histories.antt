-- Every call, accepted or refused, keeps the state that of what is spelled, and so does every run; two states of one sequence tell the same.
-- This is the argument of every kind of fold. Assumes nothing.
use mathlib.Core.Path.{◌≡◌, ap, ◌∙◌, sym}
use mathlib.Core.Bool.{Bool, true, false}
use mathlib.Core.List.{List, [], ◌∷◌, map}
use Prim.Native.Nat.{ℕ, ◌+◌, ◌-◌, ◌<◌}
use native.Mathlib.Omega.{arith}
use lib.ListN.{length, get_or, length-set, length-append, length-take, length-map, get_or-append}
use lib.Seq.{get_or-set_same, get_or-set_other, get_or-append_seam, get_or-take}
use Rattle.cells.specs.Rule.{Bases}
use Rattle.cells.specs.Fill.{at}
use Rattle.cells.proofs.Places.{three}
use Rattle.edits.specs.Edits.{Edit, replace, add, erase, spell, after, spelled, size_after}
use Rattle.edits.specs.Runs.{State, Run, none, next}
use Rattle.edits.specs.Kinds.{Kind, Kept, Writes, bases_of, Good, Made, Does, Alike}
use Rattle.edits.proofs.Keeping.{letter_at, kept_replace, kept_add, kept_erase, kept_letters, one_sequence}

module _ {R G F T A : Type 0} (K : Kind R G F T A) (g : G) (q : List ℕ) where
  -- ---- one edit
  module _ (n : ℕ) (b b' : Bases) (c c' : ℕ → A) where
    kept_edit :
        (e : Edit) → Writes K g e n b b' c c' → Kept (K.rule g) K.letter q b c n → Kept (K.rule g) K.letter (spell e q) b' c' (size_after e n)
    kept_edit (replace p x) w r =
        kept_replace (K.rule g) (K.loc g) K.Ok (K.keeps g) K.letter q b b' c c' n p x w.0 w.2 w.3 r
    kept_edit (add x) w r = kept_add (K.rule g) (K.loc g) K.Ok (K.keeps g) K.letter q b b' c c' n x w.1 w.2 r
    kept_edit erase w r =
        rw (w.1, w.2) (kept_erase (K.rule g) (K.loc g) K.Ok (K.keeps g) K.letter q b c n (omega (arith, w.0)) r)

    some_edit : (e : Edit) → Writes K g e n b b' c c' → 0 < n → 0 < size_after e n
    some_edit (replace p x) w h = h
    some_edit (add x) w h = omega arith
    some_edit erase w h = omega (arith, w.0)

    each_edit :
        (e : Edit) → Writes K g e n b b' c c' → n ≡ length q → ((k : ℕ) → k < length q → K.Base (get_or q k 0)) →
        (k : ℕ) → k < length (spell e q) → K.Base (get_or (spell e q) k 0)
    each_edit (replace p x) w l f k h =
        let m : k < length q = rw length-set at h in
        three k p (λ z. rw (get_or-set_other q p k x 0 (λ y. omega arith)) (f k m))
        (λ z. rw (z, get_or-set_same q p x 0 (omega (arith, w.0))) w.1)
        (λ z. rw (get_or-set_other q p k x 0 (λ y. omega arith)) (f k m))
    each_edit (add x) w l f k h =
        let m : k < length q + 1 = simp length-append at h in
        three k (length q) (λ z. rw (get_or-append q (x ∷ []) 0 k z) (f k z))
        (λ z. rw (z, get_or-append_seam q x [] 0) w.0) (λ z. absurd (omega arith))
    each_edit erase w l f k h =
        let m : k < length q - 1 = omega (arith, length-take (length q - 1) q) in
        rw (get_or-take (length q - 1) q k 0 m) (f k (omega arith))

  -- ---- one call
  module _ (s s' : State R F T) where
    good_made : (e : Edit) → Made K e s s' → Good K g q s → Good K g (spell e q) s'
    good_made e m h =
        let n = K.size s.kept in
        let w = rw h.set at m.writes in
        let table = kept_edit n (bases_of s) (bases_of s') (K.look s.cells) (K.look s'.cells) e w h.table in
        record {
          set = m.setting ∙ h.set;
          table = rw m.size table;
          figure = m.figure;
          some = rw m.size (some_edit n (bases_of s) (bases_of s') (K.look s.cells) (K.look s'.cells) e w h.some);
          each = each_edit n (bases_of s) (bases_of s') (K.look s.cells) (K.look s'.cells) e w h.table.long h.each;
          room = m.room;
        }

    pub good_does : (e : Edit) (ok : Bool) → Does K e ok s s' → Good K g q s → Good K g (after ok e q) s'
    good_does e true m h = good_made e m h
    good_does e false m h = rw m h

    -- ---- two states of one sequence
    pub alike : Good K g q s → Good K g q s' → Alike K s s'
    alike h h' =
        let o = one_sequence (K.rule g) (K.loc g) K.Ok (K.keeps g) K.letter q (bases_of s) (bases_of s') (K.look s.cells) (K.look s'.cells)
        (K.size s.kept) (K.size s'.kept) h.table h'.table in
        let some = h'.some in
        record {
          size = o.0;
          setting = h.set ∙ sym h'.set;
          figure = h.figure ∙ ap (λ (n : ℕ). K.tells (at (K.look s.cells) 0 (n - 1))) o.0
              ∙ ap K.tells (o.2 0 (K.size s'.kept - 1) (omega arith) (omega arith)) ∙ sym h'.figure;
          bases = o.1;
          cells = o.2;
        }

  -- a sequence's state is that of its letters too
  pub good_letters : (s : State R F T) → Good K g q s → Good K g (map K.letter q) s
  good_letters s h =
      record {
        set = h.set;
        table =
            kept_letters (K.rule g) (K.loc g) K.Ok (K.keeps g) K.letter q K.letter_again (bases_of s) (K.look s.cells)
            (K.size s.kept) h.table;
        figure = h.figure;
        some = h.some;
        each = λ k l.
            let m : k < length q = rw (length-map q K.letter) at l in
            rw (letter_at K.letter q k m) (K.letter_base (get_or q k 0) (h.each k m));
        room = h.room;
      }

-- what every call keeps, every run keeps
pub runs :
    {S : Type 0} (Call : Edit → Bool → S → S → Type 0) (Keep : List ℕ → S → Type 0) →
    ((e : Edit) (ok : Bool) (s s' : S) (q : List ℕ) → Call e ok s s' → Keep q s → Keep (after ok e q) s') →
    {l : List (Edit × Bool)} {s s' : S} (q : List ℕ) → Run Call l s s' → Keep q s → Keep (spelled l q) s'
unfolding spelled
runs Call Keep step q none h = h
runs Call Keep step q (next {e = e} {ok = ok} {s = s} {s₁ = s₁} c r) h = runs Call Keep step (after ok e q) r (step e ok s s₁ q c h)

pub good_runs :
    {R G F T A : Type 0} (K : Kind R G F T A) (g : G) (Call : Edit → Bool → State R F T → State R F T → Type 0) →
    ((e : Edit) (ok : Bool) (s s' : State R F T) → Call e ok s s' → Does K e ok s s') →
    {l : List (Edit × Bool)} {s s' : State R F T} (q : List ℕ) → Run Call l s s' → Good K g q s → Good K g (spelled l q) s'
good_runs K g Call does q = runs Call (Good K g) (λ e ok s s' p c h. good_does K g p s s' e ok (does e ok s s' c) h) q
