-- What makes a pair table unsound, where, and what tables are due. Assumes nothing: these are definitions.
use Rattle.std.specs.Prelude.{Bool, not, ◌&&◌, ◌||◌, List, ℕ, ltb, eqb, length, None, Some}
use Rattle.refusals.specs.Refusals.{Due, check, then, each, some, structure_limit}
use Rattle.structure.specs.Table.{unpaired, view}

-- entry k of n is 65535, or a position other than k that names k back
abbrev pub named : (ℕ → ℕ) → ℕ → ℕ → Bool
named p n k = eqb (p k) unpaired || (ltb (p k) n && (not (eqb (p k) k) && eqb (p (p k)) k))

-- the pair that opens at a is crossed by the pair that opens at b, further right
abbrev pub over : (ℕ → ℕ) → ℕ → ℕ → ℕ → Bool
over p n a b = ltb a b && (ltb b (p a) && (ltb (p a) (p b) && ltb (p b) n))

-- the pair that opens at a is crossed by another
abbrev pub crossed : (ℕ → ℕ) → ℕ → ℕ → Bool
crossed p n a = some (λ b. over p n a b || over p n b a) n

-- 8 at the lowest entry that isn't named back
abbrev pub unnamed_due : (ℕ → ℕ) → ℕ → Due
unnamed_due p n = each (λ k. check (not (named p n k)) 8 (Some k)) n

-- 8 at the lowest opening position of a crossed pair
abbrev pub crossed_due : (ℕ → ℕ) → ℕ → Due
crossed_due p n = each (λ k. check (crossed p n k) 8 (Some k)) n

-- what an unsound table is due
unfoldable pub unsound_due : List ℕ → Due
unsound_due t = then (unnamed_due (view t) (length t)) (crossed_due (view t) (length t))

-- what a table is due: 3, 8
unfoldable pub table_due : List ℕ → Due
table_due t = then (check (ltb structure_limit (length t)) 3 None) (unsound_due t)

-- what a table is due that is written out into so much room, of which so much is needed: 3, 8, 4
unfoldable pub write_due : List ℕ → ℕ → ℕ → Due
write_due t room need = then (table_due t) (check (ltb room need) 4 None)
