-- The table that a rule gives, as a function, and a test of a table that antt computes.
use Rattle.std.specs.Prelude.{Bool, true, ◌&&◌, ℕ, zero, suc, ◌-◌}
use Rattle.cells.specs.Rule.{Bases, Cells, Rule}

-- the rule, applied as often as spans shorter than s need
unfoldable pub tab : {A : Type 0} → Rule A → A → Bases → ℕ → Cells A
tab rule d b zero i j = d
tab rule d b (suc s) i j = rule b (tab rule d b s) i j

unfoldable pub solved : {A : Type 0} → Rule A → A → Bases → Cells A
solved rule d b i j = tab rule d b (suc (j - i)) i j

-- the test f passes at 0, .., n - 1
unfoldable pub every : (ℕ → Bool) → ℕ → Bool
every f zero = true
every f (suc n) = f n && every f n

-- every cell of n columns is `same` as what the rule gives
abbrev pub obeys : {A : Type 0} → (A → A → Bool) → Rule A → Bases → Cells A → ℕ → Bool
obeys same rule b c n = every (λ j. every (λ i. same (c i j) (rule b c i j)) (suc j)) n
