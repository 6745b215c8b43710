-- What a fold that counts pairs is due: a row of checks in the rules' order. Assumes nothing: these are definitions.
use Rattle.std.specs.Prelude.{Bool, ◌||◌, List, ℕ, ltb, eqb, length, None}
use Rattle.refusals.specs.Refusals.{Due, check, then, fold_limit}
use Rattle.sequences.specs.Sequences.{bases_due}
use Rattle.cells.specs.Tri.{tri}

-- there is no room for n bases and their cells
abbrev pub no_room : List ℕ → List ℕ → ℕ → Bool
no_room b t n = ltb (length b) n || ltb (length t) (tri n)

-- a fold of the sequence s, lent b, t and o: 3, 1, 2, 4
unfoldable pub fold_due : List ℕ → List ℕ → List ℕ → List ℕ → Due
fold_due s b t o =
    then (check (ltb fold_limit (length s)) 3 None)
    (then (check (eqb (length s) 0) 1 None)
    (then (bases_due s) (check (no_room b t (length s) || ltb (length o) (length s)) 4 None)))
