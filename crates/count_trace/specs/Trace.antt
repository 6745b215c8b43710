-- What the traceback writes into a pair table o. Spans are from lo up to, but not including, hi.
-- Assumes nothing: these are definitions.
use Rattle.std.specs.Prelude.{◌≡◌, Bool, true, false, List, ℕ, zero, suc, ◌+◌, ◌-◌, ◌≤◌, ◌<◌, ltb, length}
use Rattle.cells.specs.Tri.{tri}
use Rattle.cells.specs.Rule.{Cells}
use Rattle.cells.specs.Fill.{at}
use Rattle.structure.specs.Table.{unpaired, view}
use Rattle.tables.specs.Writing.{cleared, joined}
use Rattle.count_rule.specs.Rule.{may_pair}
use Rattle.count_trace.specs.Choosing.{choice}
use Rattle.count_trace.specs.declared.choice.Choice.{Choice}
use Rattle.count_trace.specs.declared.choice.Choice.TheVariants.{FirstUnpaired, Paired, Split, LastUnpaired}

-- what a choice writes, `go` writing the shorter spans: nothing where there are fewer than two bases
abbrev pub step : (ℕ → ℕ → List ℕ → List ℕ) → Bool → Choice → ℕ → ℕ → List ℕ → List ℕ
step go true ch lo hi o = o
step go false FirstUnpaired lo hi o = go (lo + 1) hi o
step go false Paired lo hi o = go (lo + 1) (hi - 1) (joined o lo (hi - 1))
step go false (Split k) lo hi o = go (k + 1) hi (go lo (k + 1) o)
step go false LastUnpaired lo hi o = go lo (hi - 1) o

-- the traceback of a span, at most f calls deep: hi − lo are enough
unfoldable pub trace_of : ℕ → Cells ℕ → (ℕ → ℕ → Bool) → ℕ → ℕ → List ℕ → List ℕ
trace_of zero c p lo hi o = o
trace_of (suc f) c p lo hi o = step (trace_of f c p) (ltb (hi - lo) 2) (choice c p lo (hi - 1)) lo hi o

-- o' is what the traceback of the span makes of o
abbrev pub Traced : Cells ℕ → (ℕ → ℕ → Bool) → ℕ → ℕ → List ℕ → List ℕ → Type 0
Traced c p lo hi o o' = (f : ℕ) → hi - lo ≤ f → o' ≡ trace_of f c p lo hi o

-- the memory that the traceback of a span needs
pub record Room (b t o : List ℕ) (lo hi : ℕ) : Type 0 where
  pub order : lo ≤ hi
  pub short : hi < unpaired
  pub bases : hi ≤ length b
  pub cells : tri hi ≤ length t
  pub out : hi ≤ length o

-- what the traceback of n bases makes of o
unfoldable pub traced_of : List ℕ → List ℕ → ℕ → ℕ → List ℕ → List ℕ
traced_of b t gap n o = trace_of n (at (view t)) (may_pair (view b) gap) 0 n (cleared n o)
