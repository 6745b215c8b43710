-- Pair tables: a list with an entry for each position, its partner or 65535 where it is unpaired. Assumes nothing: these are definitions.
use Rattle.std.specs.Prelude.{◌≡◌, ◌≢◌, cond, List, ℕ, zero, suc, ◌+◌, ◌<◌, ◌≤◌, ltb, eqb, length, get_or}

-- the entry of an unpaired position
abbrev pub unpaired : ℕ
unpaired = 65535

-- entry k of a table, or byte k of a text
abbrev pub view : List ℕ → ℕ → ℕ
view t k = get_or t k 0

-- the positions from lo up to, but not including, hi pair only with each other, and their pairs don't cross
pub record Fold (p : ℕ → ℕ) (lo hi : ℕ) : Type 0 where
  pub fits : hi ≤ unpaired
  pub mate : (k : ℕ) → lo ≤ k → k < hi → p k ≢ unpaired → (lo ≤ p k) × (p k < hi) × (p k ≢ k) × (p (p k) ≡ k)
  pub plain : (a b : ℕ) → lo ≤ a → a < b → b < p a → p a < p b → p b < hi → ⊥

-- a sound table
abbrev pub Sound : List ℕ → Type 0
Sound t = Fold (view t) 0 (length t)

-- 1 where the entry v of position k opens a pair
abbrev pub opens : ℕ → ℕ → ℕ
opens k v = cond (eqb v unpaired) 0 (cond (ltb k v) 1 0)

-- how many positions below k open a pair
abbrev pub opened : (ℕ → ℕ) → ℕ → ℕ
opened p zero = 0
opened p (suc k) = opened p k + opens k (p k)

-- 1 where the entry v of position k closes a pair
abbrev pub closes : ℕ → ℕ → ℕ
closes k v = cond (eqb v unpaired) 0 (cond (ltb v k) 1 0)

-- how many positions below k close a pair
abbrev pub closed : (ℕ → ℕ) → ℕ → ℕ
closed p zero = 0
closed p (suc k) = closed p k + closes k (p k)

-- the number of pairs of a table
abbrev pub pairs : List ℕ → ℕ
pairs t = opened (view t) (length t)
