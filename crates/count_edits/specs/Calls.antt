-- What each call from a record answers and leaves in lent memory: b, t, o as they came, b', t', o' as they are left.
-- Assumes nothing: these are definitions.
use Rattle.std.specs.Prelude.{◌≡◌, List, ℕ, ◌+◌, ◌-◌, length, set, Result, Ok, Err}
use Rattle.refusals.specs.Refusals.{clear, due_of}
use Rattle.refusals.specs.declared.Refusal.{Refusal}
use Rattle.bases.specs.Bases.{normal}
use Rattle.structure.specs.Table.{view}
use Rattle.cells.specs.Fill.{Columns}
use Rattle.count_rule.specs.Rule.{nussinov, Half}
use Rattle.count_trace.specs.Trace.{traced_of}
use Rattle.counting.specs.declared.Record.{Record}
use Rattle.counting.specs.Calls.{count_of, record_of}
use Rattle.count_edits.specs.Checks.{replace_due, add_due, erase_due, trace_due}

-- what an edit answers: the record and the count after it, or the refusal with a record
abbrev pub Edited : Type 0
Edited = Result (Record × ℕ) (Refusal × Record)

-- a refusal with the record r beside it
abbrev pub with_record : Record → Result (Record × ℕ) Refusal → Edited
with_record r (Ok a) = Ok a
with_record r (Err q) = Err (q, r)

-- the record of a base more, and of one less
abbrev pub longer : Record → Record
longer r = record_of (r.length + 1) r.gap

abbrev pub shorter : Record → Record
shorter r = record_of (r.length - 1) r.gap

-- the byte at p became the letter x, and of n bases the cells over p were rewritten by the rule; nothing else was written
pub record Wrote (gap : ℕ) (b b' t t' : List ℕ) (p x n : ℕ) : Type 0 where
  pub byte : b' ≡ set b p x
  pub long : length t' ≡ length t
  pub cells : Columns (nussinov gap) Half (view b') (view t) (view t') p p n

-- `replace` of the base at p by that of the byte x
abbrev pub Replaces : Record → (b b' t t' : List ℕ) → ℕ → ℕ → Edited → Type 0
Replaces r b b' t t' p x (Ok (k, m)) =
    (replace_due r.length b t p x ≡ clear) × (k ≡ r) × Wrote r.gap b b' t t' p (normal x) r.length × (m ≡ count_of t' r.length)
Replaces r b b' t t' p x (Err (q, k)) = (replace_due r.length b t p x ≡ due_of q) × (k ≡ r) × (b' ≡ b) × (t' ≡ t)

-- `add` of the base of the byte x: a replace at the end of one base more
abbrev pub Adds : Record → (b b' t t' : List ℕ) → ℕ → Edited → Type 0
Adds r b b' t t' x (Ok (k, m)) =
    (add_due r.length b t x ≡ clear) × (k ≡ longer r) × Wrote r.gap b b' t t' r.length (normal x) (r.length + 1)
    × (m ≡ count_of t' (r.length + 1))
Adds r b b' t t' x (Err (q, k)) = (add_due r.length b t x ≡ due_of q) × (k ≡ r) × (b' ≡ b) × (t' ≡ t)

-- `erase`, which is lent nothing that it could write
abbrev pub Erases : Record → (b t : List ℕ) → Edited → Type 0
Erases r b t (Ok (k, m)) = (erase_due r.length b t ≡ clear) × (k ≡ shorter r) × (m ≡ count_of t (r.length - 1))
Erases r b t (Err (q, k)) = (erase_due r.length b t ≡ due_of q) × (k ≡ r)

-- `traceback` from a record
abbrev pub Traces : Record → (b t o o' : List ℕ) → Result ℕ Refusal → Type 0
Traces r b t o o' (Ok m) = (trace_due r.length b t o ≡ clear) × (o' ≡ traced_of b t r.gap r.length o) × (m ≡ count_of t r.length)
Traces r b t o o' (Err q) = (trace_due r.length b t o ≡ due_of q) × (o' ≡ o)
