-- What every call from a record of a pair count is due of the record and of the kept memory. Assumes nothing: these are definitions.
use Rattle.std.specs.Prelude.{Bool, not, ◌||◌, List, ℕ, ltb, eqb, None}
use Rattle.refusals.specs.Refusals.{Due, check, then, fold_limit}
use Rattle.bases.specs.Bases.{is_kept}
use Rattle.structure.specs.Table.{view}
use Rattle.cells.specs.Fill.{at}
use Rattle.cells.specs.Solve.{every}
use Rattle.count_fill.specs.Believable.{all_half}
use Rattle.counting.specs.Checks.{no_room}

-- a record of no bases, or of too many
abbrev pub bad_length : ℕ → Bool
bad_length n = eqb n 0 || ltb fold_limit n

-- each of the first n bytes is kept as it is: an upper-case letter of a base
unfoldable pub all_kept : List ℕ → ℕ → Bool
all_kept b n = every (λ k. is_kept (view b k)) n

-- a byte that isn't kept so, or a cell above half its span
abbrev pub bad_contents : List ℕ → List ℕ → ℕ → Bool
bad_contents b t n = not (all_kept b n) || not (all_half (at (view t)) n)

-- every call from a record of n bases: 11 for the length, 4 for the present length, 11 for the contents
unfoldable pub kept_due : ℕ → List ℕ → List ℕ → Due
kept_due n b t =
    then (check (bad_length n) 11 None)
    (then (check (no_room b t n) 4 None) (check (bad_contents b t n) 11 None))
