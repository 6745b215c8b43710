-- Each call has one permitted answer for its input, and one permitted content of lent memory:
-- an edit rewrites its columns in one way, and all that isn't a used cell is as it came. Assumes nothing.
use mathlib.Core.Path.{◌≡◌, sym, ap, subst, ◌∙◌}
use mathlib.Core.List.{List}
use Prim.Native.Nat.{ℕ, ◌+◌}
use lib.Seq.{ext_get_or}
use Rattle.std.proofs.Common.{Err, Ok, Result}
use Rattle.refusals.specs.declared.Refusal.{Refusal}
use Rattle.refusals.proofs.Laws.{one_of, one_refusal}
use Rattle.bases.specs.Bases.{normal}
use Rattle.structure.specs.Table.{view}
use Rattle.cells.specs.Fill.{Columns}
use Rattle.cells.proofs.Fills.{columns_one}
use Rattle.count_rule.specs.Rule.{nussinov, Half}
use Rattle.count_rule.proofs.Laws.{nussinov_local, nussinov_keeps}
use Rattle.counting.specs.declared.Record.{Record}
use Rattle.counting.specs.Calls.{count_of}
use Rattle.count_edits.specs.Calls.{Edited, Wrote, Replaces, Adds, Erases, Traces}

one_writing :
    (gap : ℕ) (b b' b'' t t' t'' : List ℕ) (p x n : ℕ) → Wrote gap b b' t t' p x n → Wrote gap b b'' t t'' p x n → (b' ≡ b'') × (t' ≡ t'')
one_writing gap b b' b'' t t' t'' p x n f g =
    let e : b' ≡ b'' = f.byte ∙ sym g.byte in
    let columns = subst (λ (l : List ℕ). Columns (nussinov gap) Half (view l) (view t) (view t'') p p n) (sym e) g.cells in
    let one = columns_one (nussinov gap) (nussinov_local gap) Half (nussinov_keeps gap) (view b') (view t) (view t') (view t'') p p n f.cells columns in
    (e, ext_get_or 0 t' t'' (f.long ∙ sym g.long) (λ k h. one k))

same_done : {r r' : Record} {m m' : ℕ} → r ≡ r' → m ≡ m' → ◌≡◌ {A = Edited} (Ok (r, m)) (Ok (r', m'))
same_done e f = λ i. Ok (e i, f i)

same_refused : {q q' : Refusal} {r r' : Record} → q ≡ q' → r ≡ r' → ◌≡◌ {A = Edited} (Err (q, r)) (Err (q', r'))
same_refused e f = λ i. Err (e i, f i)

pub one_replace :
    (r : Record) (b b' b'' t t' t'' : List ℕ) (p x : ℕ) (a a' : Edited) → Replaces r b b' t t' p x a → Replaces r b b'' t t'' p x a' →
    (a ≡ a') × (b' ≡ b'') × (t' ≡ t'')
one_replace r b b' b'' t t' t'' p x (Ok (k, m)) (Ok (k', m')) f g =
    let e = one_writing r.gap b b' b'' t t' t'' p (normal x) r.length f.2 g.2 in
    let same : m ≡ m' = f.3 ∙ ap (λ (l : List ℕ). count_of l r.length) e.1 ∙ sym g.3 in
    (same_done (f.1 ∙ sym g.1) same, e.0, e.1)
one_replace r b b' b'' t t' t'' p x (Ok (k, m)) (Err (q, k')) f g = absurd (one_of q f.0 g.0)
one_replace r b b' b'' t t' t'' p x (Err (q, k)) (Ok (k', m)) f g = absurd (one_of q g.0 f.0)
one_replace r b b' b'' t t' t'' p x (Err (q, k)) (Err (q', k')) f g =
    (same_refused (one_refusal q q' f.0 g.0) (f.1 ∙ sym g.1), f.2 ∙ sym g.2, f.3 ∙ sym g.3)

pub one_add :
    (r : Record) (b b' b'' t t' t'' : List ℕ) (x : ℕ) (a a' : Edited) → Adds r b b' t t' x a → Adds r b b'' t t'' x a' →
    (a ≡ a') × (b' ≡ b'') × (t' ≡ t'')
one_add r b b' b'' t t' t'' x (Ok (k, m)) (Ok (k', m')) f g =
    let e = one_writing r.gap b b' b'' t t' t'' r.length (normal x) (r.length + 1) f.2 g.2 in
    let same : m ≡ m' = f.3 ∙ ap (λ (l : List ℕ). count_of l (r.length + 1)) e.1 ∙ sym g.3 in
    (same_done (f.1 ∙ sym g.1) same, e.0, e.1)
one_add r b b' b'' t t' t'' x (Ok (k, m)) (Err (q, k')) f g = absurd (one_of q f.0 g.0)
one_add r b b' b'' t t' t'' x (Err (q, k)) (Ok (k', m)) f g = absurd (one_of q g.0 f.0)
one_add r b b' b'' t t' t'' x (Err (q, k)) (Err (q', k')) f g =
    (same_refused (one_refusal q q' f.0 g.0) (f.1 ∙ sym g.1), f.2 ∙ sym g.2, f.3 ∙ sym g.3)

-- what `erase` is lent it can't write
pub one_erase : (r : Record) (b t : List ℕ) (a a' : Edited) → Erases r b t a → Erases r b t a' → a ≡ a'
one_erase r b t (Ok (k, m)) (Ok (k', m')) f g = same_done (f.1 ∙ sym g.1) (f.2 ∙ sym g.2)
one_erase r b t (Ok (k, m)) (Err (q, k')) f g = absurd (one_of q f.0 g.0)
one_erase r b t (Err (q, k)) (Ok (k', m)) f g = absurd (one_of q g.0 f.0)
one_erase r b t (Err (q, k)) (Err (q', k')) f g = same_refused (one_refusal q q' f.0 g.0) (f.1 ∙ sym g.1)

-- ---- the traceback

pub one_trace : (r : Record) (b t o o' o'' : List ℕ) (a a' : Result ℕ Refusal) → Traces r b t o o' a → Traces r b t o o'' a' → (a ≡ a') × (o' ≡ o'')
one_trace r b t o o' o'' (Ok m) (Ok m') f g = (ap Ok (f.2 ∙ sym g.2), f.1 ∙ sym g.1)
one_trace r b t o o' o'' (Ok m) (Err q) f g = absurd (one_of q f.0 g.0)
one_trace r b t o o' o'' (Err q) (Ok m) f g = absurd (one_of q g.0 f.0)
one_trace r b t o o' o'' (Err q) (Err q') f g = (ap Err (one_refusal q q' f.0 g.0), f.1 ∙ sym g.1)
