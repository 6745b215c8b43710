-- What an energy fold is due: a row of checks in the rules' order. Assumes nothing: these are definitions.
use Rattle.std.specs.Prelude.{Bool, ◌||◌, List, ℕ, ltb, eqb, ℤ, length, None}
use Rattle.refusals.specs.Refusals.{Due, check, then, fold_limit}
use Rattle.sequences.specs.Sequences.{bases_due}
use Rattle.cells.specs.Tri.{tri}

-- there is no room for the letters, the cells of the three tables and the pairs of n bases
abbrev pub no_room : List ℕ → (v w m : List ℤ) → List ℕ → ℕ → Bool
no_room b v w m o n =
    ltb (length b) n || (ltb (length v) (tri n) || (ltb (length w) (tri n) || (ltb (length m) (tri n) || ltb (length o) n)))

-- a fold of the sequence s, lent b, v, w, m and o: 3, 1, 2, 4
unfoldable pub fold_due : List ℕ → List ℕ → (v w m : List ℤ) → List ℕ → Due
fold_due s b v w m o =
    then (check (ltb fold_limit (length s)) 3 None)
    (then (check (eqb (length s) 0) 1 None)
    (then (bases_due s) (check (no_room b v w m o (length s)) 4 None)))
