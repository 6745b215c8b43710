-- What it is to have the least energy. Assumes nothing: these are definitions.
use Rattle.std.specs.Prelude.{◌≡◌, List, map, ℤ, pos, length, ◌≤ℤ◌, ℕ}
use Rattle.bases.specs.Bases.{normal}
use Rattle.structure.specs.Table.{view, Sound}
use Rattle.charges.specs.Loops.{Candidate, energy_of}

-- the table p is a candidate of the sequence s: no crossing, each pair one of the six and with room for a hairpin
abbrev pub Possible : List ℕ → List ℕ → Type 0
Possible s p = (length p ≡ length s) × Candidate (view (map normal s)) (view p) 0 (length s)

-- p is a candidate that costs z, by the loop rules alone, and no candidate costs less
pub record Minimal (s p : List ℕ) (z : ℤ) : Type 0 where
  pub sound : Sound p
  pub possible : Possible s p
  pub reached : energy_of (map normal s) p ≡ z
  pub least : (q : List ℕ) → Possible s q → z ≤ℤ energy_of (map normal s) q
  pub most : z ≤ℤ pos 0
