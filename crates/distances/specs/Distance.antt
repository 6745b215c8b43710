-- The two distances of structures, what two tables are due, and what a call that measures answers. Assumes nothing: these are definitions.
use Rattle.std.specs.Prelude.{◌≡◌, cond, not, ◌||◌, List, ℕ, zero, suc, ◌+◌, ◌-◌, ltb, eqb, length, None, Result, Ok, Err}
use Rattle.refusals.specs.Refusals.{Due, clear, due_of, check, then, structure_limit}
use Rattle.refusals.specs.declared.Refusal.{Refusal}
use Rattle.structure.specs.Table.{view, opens, opened, closed}
use Rattle.structure.specs.Soundness.{unsound_due}

-- 1 where position k opens a pair of p that q doesn't have
abbrev pub lacks : (ℕ → ℕ) → (ℕ → ℕ) → ℕ → ℕ
lacks p q k = cond (eqb (q k) (p k)) 0 (opens k (p k))

-- the pairs that open below k in one table and are not in the other
abbrev pub apart : (ℕ → ℕ) → (ℕ → ℕ) → ℕ → ℕ
apart p q zero = 0
apart p q (suc k) = apart p q k + (lacks p q k + lacks q p k)

abbrev pub base_pair_distance : List ℕ → List ℕ → ℕ
base_pair_distance s t = apart (view s) (view t) (length s)

-- the mountain's height at position k: opened minus closed, up to and including k
abbrev pub height : (ℕ → ℕ) → ℕ → ℕ
height p k = opened p (suc k) - closed p (suc k)

-- the absolute difference: of the two differences one is 0
abbrev pub between : ℕ → ℕ → ℕ
between x y = (x - y) + (y - x)

-- the sum of the absolute differences of the heights below position k
abbrev pub climbs : (ℕ → ℕ) → (ℕ → ℕ) → ℕ → ℕ
climbs p q zero = 0
climbs p q (suc k) = climbs p q k + between (height p k) (height q k)

abbrev pub mountain_distance : List ℕ → List ℕ → ℕ
mountain_distance s t = climbs (view s) (view t) (length s)

-- what two tables are due: 3, 9, 8 (the first before the second)
unfoldable pub both_due : List ℕ → List ℕ → Due
both_due s t =
    then (check (ltb structure_limit (length s) || ltb structure_limit (length t)) 3 None)
    (then (check (not (eqb (length s) (length t))) 9 None)
    (then (unsound_due s) (unsound_due t)))

-- `base_pair_distance` and `mountain_distance`, which differ in the figure d
abbrev pub Measures : List ℕ → List ℕ → ℕ → Result ℕ Refusal → Type 0
Measures s t d (Ok m) = (both_due s t ≡ clear) × (m ≡ d)
Measures s t d (Err q) = both_due s t ≡ due_of q
