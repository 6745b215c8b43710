-- What each public call answers and leaves in lent memory: o as it came, o' as it is left. Assumes nothing: these are definitions.
use Rattle.std.specs.Prelude.{◌≡◌, Bool, true, false, cond, not, ◌&&◌, List, [], ◌∷◌, ◌++◌, ℕ}
use Rattle.std.specs.Prelude.{zero, suc, ◌*◌, ltb, eqb, length, drop, Option, None, Some, Result, Ok, Err}
use Rattle.refusals.specs.Refusals.{clear, due_of}
use Rattle.refusals.specs.declared.Refusal.{Refusal}
use Rattle.structure.specs.Table.{unpaired, view, opens, pairs}
use Rattle.structure.specs.Soundness.{table_due, write_due}

-- what the entry v of position k adds to a list of the pairs
abbrev pub listed_at : ℕ → ℕ → List ℕ
listed_at k v = cond (eqb (opens k v) 1) (k ∷ v ∷ []) []

-- the pairs that open below k, as i, j, i, j, .., by rising i
abbrev pub listed : (ℕ → ℕ) → ℕ → List ℕ
listed p zero = []
listed p (suc k) = listed p k ++ listed_at k (p k)

-- `base_pairs` of the table t
abbrev pub Lists : List ℕ → List ℕ → List ℕ → Result ℕ Refusal → Type 0
Lists t o o' (Ok m) =
    (write_due t (length o) (2 * pairs t) ≡ clear) × (m ≡ pairs t) × (o' ≡ listed (view t) (length t) ++ drop (2 * pairs t) o)
Lists t o o' (Err q) = (write_due t (length o) (2 * pairs t) ≡ due_of q) × (o' ≡ o)

-- position i is inside the table and has a partner
abbrev pub is_paired : List ℕ → ℕ → Bool
is_paired t i = ltb i (length t) && not (eqb (view t i) unpaired)

-- `is_paired`
abbrev pub Pairs : List ℕ → ℕ → Result Bool Refusal → Type 0
Pairs t i (Ok v) = (table_due t ≡ clear) × (v ≡ is_paired t i)
Pairs t i (Err q) = table_due t ≡ due_of q

-- `partner`
abbrev pub Partners : List ℕ → ℕ → Result (Option ℕ) Refusal → Type 0
Partners t i (Ok (Some j)) = (table_due t ≡ clear) × (is_paired t i ≡ true) × (j ≡ view t i)
Partners t i (Ok None) = (table_due t ≡ clear) × (is_paired t i ≡ false)
Partners t i (Err q) = table_due t ≡ due_of q

-- `num_pairs`
abbrev pub Counts : List ℕ → Result ℕ Refusal → Type 0
Counts t (Ok m) = (table_due t ≡ clear) × (m ≡ pairs t)
Counts t (Err q) = table_due t ≡ due_of q
