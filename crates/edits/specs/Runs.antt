-- Runs of calls, each answered as its own contract permits.
-- For every kind of fold: R is its record, F the figure that it tells, a count or
-- an energy, T its tables. Assumes nothing: these are definitions.
use Rattle.std.specs.Prelude.{◌≡◌, Bool, true, false, List, [], ◌∷◌, ℕ}
use Rattle.edits.specs.Edits.{Edit}

-- what a caller holds between calls: the last record and figure, and the lent memory
pub record State (R F T : Type 0) : Type 0 where
  pub kept : R
  pub figure : F
  pub bases : List ℕ
  pub cells : T

-- what an answer hands back: record and figure, or of a refused edit the record alone
pub data Outcome (R F : Type 0) : Type 0 where
  done : R → F → Outcome R F
  refused : R → Outcome R F

-- whether the edit was made
abbrev pub accepted : {R F : Type 0} → Outcome R F → Bool
accepted (done r x) = true
accepted (refused r) = false

-- the caller holds what was handed back, and where no figure was the last one
abbrev pub Holds : {R F T : Type 0} → Outcome R F → State R F T → State R F T → Type 0
Holds (done r x) s s' = (s'.kept ≡ r) × (s'.figure ≡ x)
Holds (refused r) s s' = (s'.kept ≡ r) × (s'.figure ≡ s.figure)

-- from s to s', a call was answered in some way that its contract permits; `ok` says whether the edit was accepted
pub record Call
    {R F T A : Type 0} (Meets : Edit → State R F T → State R F T → A → Type 0) (outcome : A → Outcome R F)
    (e : Edit) (ok : Bool) (s s' : State R F T) : Type 0 where
  pub answer : A
  pub meets : Meets e s s' answer
  pub verdict : ok ≡ accepted (outcome answer)
  pub holds : Holds (outcome answer) s s'

-- a run: each call leads from what the caller held before it to what the caller holds after it
pub data Run {S : Type 0} (Call : Edit → Bool → S → S → Type 0) : List (Edit × Bool) → S → S → Type 0 where
  none : {s : S} → Run Call [] s s
  next : {e : Edit} {ok : Bool} {l : List (Edit × Bool)} {s s₁ s₂ : S} → Call e ok s s₁ → Run Call l s₁ s₂ → Run Call ((e, ok) ∷ l) s s₂
