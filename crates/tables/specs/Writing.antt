-- What is written into a pair table o. Assumes nothing: these are definitions.
use Rattle.std.specs.Prelude.{◌≡◌, List, ◌++◌, ℕ, ◌≤◌, ◌<◌, set, drop, replicate}
use Rattle.structure.specs.Table.{unpaired, view}

-- o with its first n positions unpaired
abbrev pub cleared : ℕ → List ℕ → List ℕ
cleared n o = replicate n unpaired ++ drop n o

-- o with i and j paired
abbrev pub joined : List ℕ → ℕ → ℕ → List ℕ
joined o i j = set (set o i j) j i

-- every position from lo up to, but not including, hi is unpaired
abbrev pub Blank : List ℕ → ℕ → ℕ → Type 0
Blank t lo hi = (k : ℕ) → lo ≤ k → k < hi → view t k ≡ unpaired
