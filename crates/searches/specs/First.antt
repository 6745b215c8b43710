-- The first of a row of numbers that passes a test. Assumes nothing: these are definitions.
use Rattle.std.specs.Prelude.{Bool, cond, ℕ, zero, suc, ◌+◌, Option, None, Some}

-- the first of n numbers from k on that passes the test
unfoldable pub first_passing : (ℕ → Bool) → ℕ → ℕ → Option ℕ
first_passing test k zero = None
first_passing test k (suc n) = cond (test k) (Some k) (first_passing test (k + 1) n)
