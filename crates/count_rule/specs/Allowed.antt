-- Allowed structures. Assumes nothing: these are definitions.
use Rattle.std.specs.Prelude.{◌≡◌, ◌≢◌, true, ℕ, ◌≤◌, ◌<◌}
use Rattle.cells.specs.Rule.{Bases}
use Rattle.structure.specs.Table.{unpaired, Fold}
use Rattle.count_rule.specs.Rule.{may_pair}

-- the pairs of a span don't cross, and each is one that may be
pub record Allowed (can : ℕ → ℕ → Type 0) (p : ℕ → ℕ) (lo hi : ℕ) : Type 0 where
  pub fold : Fold p lo hi
  pub each : (k : ℕ) → lo ≤ k → k < hi → k < p k → p k ≢ unpaired → can k (p k)

-- where the bases b are more than the gap apart
abbrev pub May : Bases → ℕ → ℕ → ℕ → Type 0
May b gap i j = may_pair b gap i j ≡ true
