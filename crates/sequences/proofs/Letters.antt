-- The letters of a sequence, entry by entry. Assumes nothing.
use mathlib.Core.Path.{◌≡◌, sym, ap, ◌∙◌}
use mathlib.Core.List.{List, map}
use Prim.Native.Nat.{ℕ}
use lib.ListN.{get_or, get_or-map}
use Rattle.bases.specs.Bases.{normal}
use Rattle.bases.proofs.Laws.{normal_zero}
use Rattle.structure.specs.Table.{view}

pub letter_at : (s : List ℕ) (k : ℕ) → view (map normal s) k ≡ normal (view s k)
letter_at s k = ap (get_or (map normal s) k) (sym normal_zero) ∙ get_or-map normal s k 0
