-- What a fold that counts pairs answers and leaves in lent memory: b, t, o as they came, b', t', o' as they are left.
-- Assumes nothing: these are definitions.
use Rattle.std.specs.Prelude.{◌≡◌, List, map, ◌++◌, ℕ, ◌-◌, length, drop, Result, Ok, Err}
use Rattle.refusals.specs.Refusals.{clear, due_of}
use Rattle.refusals.specs.declared.Refusal.{Refusal}
use Rattle.bases.specs.Bases.{normal}
use Rattle.structure.specs.Table.{view}
use Rattle.cells.specs.Fill.{at}
use Rattle.count_fill.specs.Filled.{Filled}
use Rattle.count_trace.specs.Trace.{traced_of}
use Rattle.counting.specs.Checks.{fold_due}
use Rattle.counting.specs.declared.Record.{Record}

-- the count of n bases: the cell of the whole span
unfoldable pub count_of : List ℕ → ℕ → ℕ
count_of t n = at (view t) 0 (n - 1)

-- the record of a fold
abbrev pub record_of : ℕ → ℕ → Record
record_of n g = record { length = n; gap = g }

-- the letters, the cells and the traced pairs of s stand at the front of the lent memory, and the rest is as it was
pub record Made (s : List ℕ) (gap : ℕ) (b b' t t' o o' : List ℕ) : Type 0 where
  pub bases : b' ≡ map normal s ++ drop (length s) b
  pub cells : Filled gap b' t t' (length s)
  pub pairs : o' ≡ traced_of b' t' gap (length s) o

-- `nussinov` of the sequence s
abbrev pub Folds : List ℕ → ℕ → (b b' t t' o o' : List ℕ) → Result (Record × ℕ) Refusal → Type 0
Folds s gap b b' t t' o o' (Ok (r, m)) =
    (fold_due s b t o ≡ clear) × (r ≡ record_of (length s) gap) × Made s gap b b' t t' o o' × (m ≡ count_of t' (length s))
Folds s gap b b' t t' o o' (Err q) = (fold_due s b t o ≡ due_of q) × (b' ≡ b) × (t' ≡ t) × (o' ≡ o)
