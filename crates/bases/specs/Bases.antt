-- Bases: which byte is kept as which letter, the six pairs and their order, purines. Assumes nothing: these are definitions.
use Rattle.std.specs.Prelude.{Bool, true, false, cond, not, ◌||◌, ◌&&◌, ℕ, eqb, Option, None, Some}
use Rattle.bases.specs.declared.Base.{Base}
use Rattle.bases.specs.declared.Base.TheVariants.{A, C, G, U}

-- the letter of a base
abbrev pub letter_of : Base → ℕ
letter_of A = 65
letter_of C = 67
letter_of G = 71
letter_of U = 85

-- what the rules say of a byte: the letter that is kept of it, or the number of the refusal
pub data Spelt : Type 0 where
  kept : ℕ → Spelt
  refused : ℕ → Spelt

-- an answer in those terms: no base is refusal 2
abbrev pub told : Option Base → Spelt
told (Some b) = kept (letter_of b)
told None = refused 2

-- a/A, c/C, g/G, u/U, t/T are kept as A, C, G, U, U
unfoldable pub reads : ℕ → Spelt
reads x =
    cond (eqb x 65 || eqb x 97) (kept 65)
    (cond (eqb x 67 || eqb x 99) (kept 67)
    (cond (eqb x 71 || eqb x 103) (kept 71)
    (cond (eqb x 85 || eqb x 117) (kept 85)
    (cond (eqb x 84 || eqb x 116) (kept 85) (refused 2)))))

abbrev pub is_refused : Spelt → Bool
is_refused (kept y) = false
is_refused (refused num) = true

abbrev pub letter_in : Spelt → ℕ
letter_in (kept y) = y
letter_in (refused num) = 0

-- a byte is no base
unfoldable pub no_base : ℕ → Bool
no_base x = is_refused (reads x)

-- the letter that is kept of a byte; 0 where it is no base
unfoldable pub normal : ℕ → ℕ
normal x = letter_in (reads x)

-- a byte is a base, and is kept as it is
unfoldable pub is_kept : ℕ → Bool
is_kept x = not (no_base x) && eqb (normal x) x

-- the six pairs
unfoldable pub can_pair : ℕ → ℕ → Bool
can_pair a b =
    cond (eqb a 65) (eqb b 85)
    (cond (eqb a 67) (eqb b 71)
    (cond (eqb a 71) (eqb b 67 || eqb b 85)
    (cond (eqb a 85) (eqb b 65 || eqb b 71) false)))

-- the number of a pair in the order AU UA GC CG GU UG; 6 for bytes that don't pair
unfoldable pub pair_index : ℕ → ℕ → ℕ
pair_index a b =
    cond (eqb a 65) (cond (eqb b 85) 0 6)
    (cond (eqb a 85) (cond (eqb b 65) 1 (cond (eqb b 71) 5 6))
    (cond (eqb a 71) (cond (eqb b 67) 2 (cond (eqb b 85) 4 6))
    (cond (eqb a 67) (cond (eqb b 71) 3 6) 6)))

-- A and G are purines
unfoldable pub is_purine : ℕ → Bool
is_purine x = eqb x 65 || eqb x 71
