-- What a sequence to fold is due of its bytes. Assumes nothing: these are definitions.
use Rattle.std.specs.Prelude.{List, ℕ, length, Some}
use Rattle.refusals.specs.Refusals.{Due, check, each}
use Rattle.bases.specs.Bases.{no_base}
use Rattle.structure.specs.Table.{view}

-- the byte at place k is no base: 2
abbrev pub base_due : (ℕ → ℕ) → ℕ → Due
base_due s k = check (no_base (s k)) 2 (Some k)

-- 2 at the first byte that is no base
unfoldable pub bases_due : List ℕ → Due
bases_due s = each (base_due (view s)) (length s)
