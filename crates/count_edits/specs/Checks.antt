-- What each call from a record is due: rows of checks in the rules' order. Assumes nothing: these are definitions.
use Rattle.std.specs.Prelude.{List, ℕ, ◌+◌, ltb, leb, eqb, length, None, Some}
use Rattle.refusals.specs.Refusals.{Due, check, then, fold_limit}
use Rattle.bases.specs.Bases.{no_base}
use Rattle.counting.specs.Checks.{no_room}
use Rattle.count_kept.specs.Checks.{kept_due}

-- the base at p becomes that of the byte x: then 10, 2
unfoldable pub replace_due : ℕ → List ℕ → List ℕ → ℕ → ℕ → Due
replace_due n b t p x = then (kept_due n b t) (then (check (leb n p) 10 None) (check (no_base x) 2 (Some 0)))

-- the base of the byte x is added: then 2, 3, 4 for the longer sequence
unfoldable pub add_due : ℕ → List ℕ → List ℕ → ℕ → Due
add_due n b t x =
    then (kept_due n b t)
    (then (check (no_base x) 2 (Some 0)) (then (check (leb fold_limit n) 3 None) (check (no_room b t (n + 1)) 4 None)))

-- the last base is erased: then 1
unfoldable pub erase_due : ℕ → List ℕ → List ℕ → Due
erase_due n b t = then (kept_due n b t) (check (eqb n 1) 1 None)

-- the traceback into o: then 4 for the output
unfoldable pub trace_due : ℕ → List ℕ → List ℕ → List ℕ → Due
trace_due n b t o = then (kept_due n b t) (check (ltb (length o) n) 4 None)
