-- Tables whose cell (i, j), i ≤ j, is given by a rule from the bases i .. j and the cells of shorter spans inside i .. j.
-- A is what a cell holds: a number, or several numbers where there are several tables.
use Rattle.std.specs.Prelude.{◌≡◌, cond, ℕ, ◌+◌, ◌-◌, ◌≤◌, ◌<◌, ltb}

abbrev pub Bases : Type 0
Bases = ℕ → ℕ

abbrev pub Cells : Type 0 → Type 0
Cells A = ℕ → ℕ → A

abbrev pub Rule : Type 0 → Type 0
Rule A = Bases → Cells A → ℕ → ℕ → A

-- b and b' agree on i .. j
abbrev pub SameBases : Bases → Bases → ℕ → ℕ → Type 0
SameBases b b' i j = (k : ℕ) → i ≤ k → k ≤ j → b k ≡ b' k

-- c and c' agree on the spans inside i .. j that are shorter than it (l - k < j - i, with no difference)
abbrev pub SameInside : {A : Type 0} → Cells A → Cells A → ℕ → ℕ → Type 0
SameInside c c' i j = (k l : ℕ) → i ≤ k → k ≤ l → l ≤ j → l + i < j + k → c k l ≡ c' k l

-- the rule looks at nothing else
abbrev pub Local : {A : Type 0} → Rule A → Type 0
Local {A} rule =
    (b b' : Bases) (c c' : Cells A) (i j : ℕ) → i ≤ j → SameBases b b' i j → SameInside c c' i j → rule b c i j ≡ rule b' c' i j

-- every cell of the first n columns is what the rule gives
abbrev pub Right : {A : Type 0} → Rule A → Bases → Cells A → ℕ → Type 0
Right rule b c n = (i j : ℕ) → i ≤ j → j < n → c i j ≡ rule b c i j

-- what a span holds, from lo up to, but not including, hi: 0 where it is empty
unfoldable pub span : Cells ℕ → ℕ → ℕ → ℕ
span c lo hi = cond (ltb lo hi) (c lo (hi - 1)) 0
