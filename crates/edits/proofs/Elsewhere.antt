-- What edits leave alone: a call every byte but the edited one and every place that is no cell over it, a run all that is past the longest
-- sequence on the way. Assumes nothing.
use mathlib.Core.Path.{◌≡◌, refl, ap, ◌∙◌, sym}
use mathlib.Core.Bool.{Bool, true, false}
use mathlib.Core.List.{List, [], ◌∷◌}
use Prim.Native.Nat.{ℕ, ◌+◌, ◌≤◌, max}
use native.Mathlib.Omega.{arith}
use lib.ListN.{length, length-append}
use Rattle.cells.specs.Tri.{tri, place}
use Rattle.cells.proofs.Places.{tri_mono, place_below}
use Rattle.edits.specs.Edits.{Edit, replace, add, erase, after, longest, Byte, Cell}
use Rattle.edits.specs.Runs.{State, Run, none, next}
use Rattle.edits.specs.Kinds.{Kind, bases_of, Good, Does}
use Rattle.edits.proofs.Histories.{good_does}

module _ {R G F T A : Type 0} (K : Kind R G F T A) where
  -- ---- one call
  module _ (s s' : State R F T) where
    pub does_bytes : (e : Edit) (ok : Bool) → Does K e ok s s' → (k : ℕ) → (Byte e (K.size s.kept) k → ⊥) → bases_of s' k ≡ bases_of s k
    does_bytes (replace p x) true m k n = sym (m.writes.2.off k n)
    does_bytes (add x) true m k n = sym (m.writes.1.off k n)
    does_bytes erase true m k n = ap (λ (f : ℕ → ℕ). f k) m.writes.1
    does_bytes e false m k n = ap (λ (x : State R F T). bases_of x k) m

    pub does_cells :
        (e : Edit) (ok : Bool) → Does K e ok s s' → (k : ℕ) → ((i j : ℕ) → i ≤ j → Cell e (K.size s.kept) i j → k ≡ place i j → ⊥) →
        K.look s'.cells k ≡ K.look s.cells k
    does_cells (replace p x) true m k n = m.writes.3.kept k (λ i j h f l t. n i j h (t, f, l))
    does_cells (add x) true m k n = m.writes.2.kept k (λ i j h f l t. n i j h (omega arith))
    does_cells erase true m k n = ap (λ (f : ℕ → A). f k) m.writes.2
    does_cells e false m k n = ap (λ (x : State R F T). K.look x.cells k) m

  -- ---- a run
  module _ (g : G) (q : List ℕ) (s s' : State R F T) (h : Good K g q s) where
    -- past both lengths, no byte and no cell is written
    step_bytes :
        (e : Edit) (ok : Bool) → Does K e ok s s' → (k : ℕ) → length q ≤ k → length (after ok e q) ≤ k → bases_of s' k ≡ bases_of s k
    step_bytes (replace p x) true m k l u = does_bytes s s' (replace p x) true m k (λ e. omega (arith, h.table.long, m.writes.0))
    step_bytes (add x) true m k l u = does_bytes s s' (add x) true m k (λ e. omega (arith, h.table.long, length-append q (x ∷ [])))
    step_bytes erase true m k l u = does_bytes s s' erase true m k (λ e. e)
    step_bytes e false m k l u = ap (λ (x : State R F T). bases_of x k) m

    step_cells :
        (e : Edit) (ok : Bool) → Does K e ok s s' → (k : ℕ) → tri (length q) ≤ k → tri (length (after ok e q)) ≤ k →
        K.look s'.cells k ≡ K.look s.cells k
    step_cells (replace p x) true m k l u =
        does_cells s s' (replace p x) true m k (λ i j o c e. omega (arith, place_below i j (length q) o (omega (arith, h.table.long, c.2))))
    step_cells (add x) true m k l u =
        does_cells s s' (add x) true m k
        (λ i j o c e. omega (arith, place_below i j (length q + 1) o (omega (arith, h.table.long)), ap tri (length-append q (x ∷ []))))
    step_cells erase true m k l u = does_cells s s' erase true m k (λ i j o c e. c)
    step_cells e false m k l u = ap (λ (x : State R F T). K.look x.cells k) m

longest_from : (l : List (Edit × Bool)) (q : List ℕ) → length q ≤ longest l q
unfolding longest
longest_from [] q = omega arith
longest_from (x ∷ l) q = omega arith

module _
    {R G F T A : Type 0} (K : Kind R G F T A) (g : G) (Call : Edit → Bool → State R F T → State R F T → Type 0)
    (does : (e : Edit) (ok : Bool) (s s' : State R F T) → Call e ok s s' → Does K e ok s s') (k : ℕ) where
  pub run_bytes :
      {l : List (Edit × Bool)} {s s' : State R F T} (q : List ℕ) → Run Call l s s' → Good K g q s → longest l q ≤ k → bases_of s' k ≡ bases_of s k
  unfolding longest
  run_bytes q none h past = refl
  run_bytes q (next {e = e} {ok = ok} {l = l} {s = s} {s₁ = s₁} c r) h past =
      let d = does e ok s s₁ c in
      let p = after ok e q in
      run_bytes p r (good_does K g q s s₁ e ok d h) (omega arith)
      ∙ step_bytes K g q s s₁ h e ok d k (omega arith) (omega (arith, longest_from l p))

  pub run_cells :
      {l : List (Edit × Bool)} {s s' : State R F T} (q : List ℕ) → Run Call l s s' → Good K g q s → tri (longest l q) ≤ k →
      K.look s'.cells k ≡ K.look s.cells k
  unfolding longest
  run_cells q none h past = refl
  run_cells q (next {e = e} {ok = ok} {l = l} {s = s} {s₁ = s₁} c r) h past =
      let d = does e ok s s₁ c in
      let p = after ok e q in
      let all = max (length q) (longest l p) in
      run_cells p r (good_does K g q s s₁ e ok d h) (omega (arith, tri_mono (longest l p) all (omega arith)))
      ∙ step_cells K g q s s₁ h e ok d k (omega (arith, tri_mono (length q) all (omega arith)))
      (omega (arith, tri_mono (length p) all (omega (arith, longest_from l p))))
