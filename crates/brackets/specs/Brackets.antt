-- The bracket text of a pair table, `(` 40, `)` 41, `.` 46. Assumes nothing: these are definitions.
use Rattle.std.specs.Prelude.{cond, List, [], ◌∷◌, ℕ, suc, ltb, eqb}
use Rattle.structure.specs.Table.{unpaired}

-- the bracket of position k, whose entry is v: `.` (46), `(` (40) or `)` (41)
abbrev pub glyph : ℕ → ℕ → ℕ
glyph k v = cond (eqb v unpaired) 46 (cond (ltb k v) 40 41)

-- the brackets of the entries t, the first of which is that of position k
unfoldable pub glyphs : ℕ → List ℕ → List ℕ
glyphs k [] = []
glyphs k (v ∷ t) = glyph k v ∷ glyphs (suc k) t

-- the bracket text of a table
unfoldable pub brackets : List ℕ → List ℕ
brackets t = glyphs 0 t
