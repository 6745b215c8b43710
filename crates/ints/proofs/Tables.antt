-- The bounds of a signed table's entries, by one test computed over the whole table. Past the end an entry is 0.
use mathlib.Core.Bool.{Bool, ◌&&◌}
use mathlib.Core.List.{List, [], ◌∷◌}
use Prim.Native.Nat.{ℕ, zero, suc}
use lib.Dec.{T}
use lib.IntN.{ℤ, pos}
use lib.ListN.{get_or}
use lib.Signed.{le_z}
use Rattle.ints.specs.Ints.{In}
use Rattle.ints.proofs.Ints.{ints}

-- every entry lies from lo to hi, and so does 0
abbrev pub all_in : ℤ → ℤ → List ℤ → Bool
all_in lo hi [] = le_z lo (pos 0) && le_z (pos 0) hi
all_in lo hi (x ∷ xs) = (le_z lo x && le_z x hi) && all_in lo hi xs

pub entry_in : (lo hi : ℤ) (xs : List ℤ) → T (all_in lo hi xs) → (k : ℕ) → In lo hi (get_or xs k (pos 0))
entry_in lo hi [] t k = grind ints
entry_in lo hi (x ∷ xs) t zero = grind ints
entry_in lo hi (x ∷ xs) t (suc k) = grind (ints, entry_in lo hi xs)
