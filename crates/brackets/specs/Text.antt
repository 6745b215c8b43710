-- Bracket text, `(` 40, `)` 41, `.` 46, and what a text is due. Assumes nothing: these are definitions.
use Rattle.std.specs.Prelude.{Bool, cond, not, ◌&&◌, ◌||◌, List, ℕ, zero, suc, ◌-◌, ltb, leb, eqb, length, None, Some}
use Rattle.refusals.specs.Refusals.{Due, check, then, each, some, structure_limit}
use Rattle.structure.specs.Table.{view}

-- how many are open after the byte v, where d were open before it
abbrev pub next : ℕ → ℕ → ℕ
next v d = cond (eqb v 40) (suc d) (cond (eqb v 41) (d - 1) d)

-- how many are open before place k
abbrev pub depth : (ℕ → ℕ) → ℕ → ℕ
depth b zero = 0
depth b (suc k) = next (b k) (depth b k)

-- the byte v at place k, where d are open: `)` with nothing open is 5, a byte other than the three is 6
abbrev pub offends : ℕ → ℕ → ℕ → Due
offends v d k = then (check (eqb v 41 && eqb d 0) 5 (Some k)) (check (not (eqb v 40 || (eqb v 41 || eqb v 46))) 6 (Some k))

abbrev pub offence : (ℕ → ℕ) → ℕ → Due
offence b k = offends (b k) (depth b k) k

-- the `(` at place i is not closed within the n bytes: what is open never falls back to what was open before it
unfoldable pub unmatched : (ℕ → ℕ) → ℕ → ℕ → Bool
unmatched b n i = eqb (b i) 40 && not (some (λ m. ltb i m && leb (depth b m) (depth b i)) (suc n))

-- an unmatched `(` is 7
abbrev pub unclosed : (ℕ → ℕ) → ℕ → ℕ → Due
unclosed b n i = check (unmatched b n i) 7 (Some i)

-- what a text is due, with room for that many positions: 3; 5 or 6 at the first offending place; 7; 4
unfoldable pub text_due : List ℕ → ℕ → Due
text_due s room =
    then (check (ltb structure_limit (length s)) 3 None)
    (then (each (offence (view s)) (length s))
    (then (each (unclosed (view s) (length s)) (length s))
    (check (ltb room (length s)) 4 None)))
