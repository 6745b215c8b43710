-- What the inner contracts of reading a text cite: texts without offence, and the turns of the writing.
-- Assumes nothing: these are definitions.
use Rattle.std.specs.Prelude.{◌≡◌, ◌≢◌, cond, List, ℕ, ◌<◌, ◌≤◌, eqb, set}
use Rattle.structure.specs.Table.{unpaired, view, Fold}
use Rattle.brackets.specs.Brackets.{glyph}
use Rattle.brackets.specs.Text.{depth}

-- the byte at place k is one of the three, and where it is `)` something is open
pub record Proper (b : ℕ → ℕ) (k : ℕ) : Type 0 where
  pub bracket : b k ≢ 40 → b k ≢ 41 → b k ≡ 46
  pub closing : b k ≡ 41 → 0 < depth b k

-- no byte before place n offends
abbrev pub Clean : (ℕ → ℕ) → ℕ → Type 0
Clean b n = (k : ℕ) → k < n → Proper b k

-- a span that folds, and whose bytes are those of its entries
pub record Part (b p : ℕ → ℕ) (lo hi : ℕ) : Type 0 where
  pub fold : Fold p lo hi
  pub spelt : (k : ℕ) → lo ≤ k → k < hi → b k ≡ glyph k (p k)

-- one turn of the writing: the byte v at place i, where the innermost open place is top, 65535 if there is none.
-- The entry of an open place holds the open place around it, so that the table itself is the stack.
abbrev pub wrote : ℕ → ℕ → ℕ → List ℕ → List ℕ
wrote v i top t = cond (eqb v 40) (set t i top) (cond (eqb v 41) (set (set t top i) i top) (set t i unpaired))

-- the innermost open place after that turn
abbrev pub new_top : ℕ → ℕ → ℕ → List ℕ → ℕ
new_top v i top t = cond (eqb v 40) i (cond (eqb v 41) (view t top) top)
