-- That any run of edits equals a fresh fold, in terms of the public pair-count calls:
-- what a caller holds between calls, what a call does to it by the call's own contract, and
-- what it is to be as a fresh fold leaves it. Assumes nothing: these are definitions.
use Rattle.std.specs.Prelude.{◌≡◌, Bool, List, ℕ, ◌≤◌, ◌<◌, take, Ok, Err}
use Rattle.structure.specs.Table.{view}
use Rattle.cells.specs.Fill.{at}
use Rattle.edits.specs.Edits.{Edit, replace, add, erase}
use Rattle.edits.specs.Runs.{State as StateOf, Outcome, done, refused, Call as CallOf}
use Rattle.counting.specs.declared.Record.{Record}
use Rattle.count_edits.specs.Calls.{Edited, Replaces, Adds, Erases, Traces}

-- what a caller holds: the last record and count, the kept bases and the cells
abbrev pub State : Type 0
State = StateOf Record ℕ (List ℕ)

-- as a fold leaves it
abbrev pub state : Record → ℕ → List ℕ → List ℕ → State
state r m b t = record { kept = r; figure = m; bases = b; cells = t }

-- the contract of the call that makes an edit, from what is held before it to what is held after it
abbrev pub Meets : Edit → State → State → Edited → Type 0
Meets (replace p x) s s' a = Replaces s.kept s.bases s'.bases s.cells s'.cells p x a
Meets (add x) s s' a = Adds s.kept s.bases s'.bases s.cells s'.cells x a
Meets erase s s' a = Erases s.kept s.bases s.cells a × (s'.bases ≡ s.bases) × (s'.cells ≡ s.cells)

-- what its answer hands back
abbrev pub outcome : Edited → Outcome Record ℕ
outcome (Ok (r, m)) = done r m
outcome (Err (q, r)) = refused r

-- a call of `replace`, `add` or `erase`, accepted or refused, that is handed what the one before left
abbrev pub Call : Edit → Bool → State → State → Type 0
Call = CallOf Meets outcome

-- s is as a fold left it, with the record r, the count m, the bases b, the cells t and the pairs o
pub record AsFolded (s : State) (r : Record) (m : ℕ) (b t o : List ℕ) : Type 0 where
  -- length and gap
  pub length : s.kept.length ≡ r.length
  pub gap : s.kept.gap ≡ r.gap
  -- the count
  pub count : s.figure ≡ m
  -- every kept base and every used cell
  pub bases : (k : ℕ) → k < r.length → view s.bases k ≡ view b k
  pub cells : (i j : ℕ) → i ≤ j → j < r.length → at (view s.cells) i j ≡ at (view t) i j
  -- the structure that `traceback` gives, and its count
  pub structure :
      (u u' : List ℕ) (v : ℕ) → Traces s.kept s.bases s.cells u u' (Ok v) →
      (v ≡ m) × (take r.length u' ≡ take r.length o)
