-- What it is to have the most pairs. Assumes nothing: these are definitions.
use Rattle.std.specs.Prelude.{◌≡◌, List, map, ℕ, ◌≤◌, length}
use Rattle.bases.specs.Bases.{normal}
use Rattle.structure.specs.Table.{view, Sound, pairs}
use Rattle.count_rule.specs.Allowed.{Allowed, May}

-- the table p is an allowed structure of the sequence s at that gap: no crossing, each pair one of the six and more than the gap apart
abbrev pub Permitted : List ℕ → ℕ → List ℕ → Type 0
Permitted s gap p = (length p ≡ length s) × Allowed (May (view (map normal s)) gap) (view p) 0 (length s)

-- p is an allowed structure with m pairs, and no allowed structure has more
pub record Greatest (s : List ℕ) (gap : ℕ) (p : List ℕ) (m : ℕ) : Type 0 where
  pub sound : Sound p
  pub permitted : Permitted s gap p
  pub reached : pairs p ≡ m
  pub most : (q : List ℕ) → Permitted s gap q → pairs q ≤ m
