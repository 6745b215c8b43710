-- A fold has one permitted answer for its input, and one permitted content of lent memory: a right table is the only one of its bases,
-- and all that isn't a used cell is as it came. Assumes nothing.
use mathlib.Core.Path.{◌≡◌, sym, ap, subst, ◌∙◌}
use mathlib.Core.List.{List}
use Prim.Native.Nat.{ℕ}
use lib.ListN.{length}
use lib.Seq.{ext_get_or}
use Rattle.refusals.proofs.Laws.{one_of, one_refusal}
use Rattle.structure.specs.Table.{view}
use Rattle.cells.proofs.Fills.{right_one}
use Rattle.count_rule.specs.Rule.{nussinov}
use Rattle.count_rule.proofs.Laws.{nussinov_local}
use Rattle.count_fill.specs.Filled.{Filled}
use Rattle.count_trace.specs.Trace.{traced_of}
use Rattle.counting.specs.declared.Record.{Record}
use Rattle.refusals.specs.declared.Refusal.{Refusal}
use Rattle.std.proofs.Common.{Result, Ok, Err}
use Rattle.counting.specs.Calls.{count_of, Made, Folds}

one_filling : (gap : ℕ) (b t t' t'' : List ℕ) (n : ℕ) → Filled gap b t t' n → Filled gap b t t'' n → t' ≡ t''
one_filling gap b t t' t'' n f g =
    ext_get_or 0 t' t'' (f.long ∙ sym g.long)
    (λ k h. right_one (nussinov gap) (nussinov_local gap) (view b) (view t') (view t'') n f.right g.right (λ x l. f.spare x l ∙ sym (g.spare x l)) k)

one_making :
    (s : List ℕ) (gap : ℕ) (b b' b'' t t' t'' o o' o'' : List ℕ) → Made s gap b b' t t' o o' → Made s gap b b'' t t'' o o'' →
    (b' ≡ b'') × (t' ≡ t'') × (o' ≡ o'')
one_making s gap b b' b'' t t' t'' o o' o'' f g =
    let e : b' ≡ b'' = f.bases ∙ sym g.bases in
    let c : t' ≡ t'' = one_filling gap b' t t' t'' (length s) f.cells (subst (λ (x : List ℕ). Filled gap x t t'' (length s)) (sym e) g.cells) in
    (e, c, f.pairs ∙ (λ i. traced_of (e i) (c i) gap (length s) o) ∙ sym g.pairs)

pub one_fold :
    (s : List ℕ) (gap : ℕ) (b b' b'' t t' t'' o o' o'' : List ℕ) (a a' : Result (Record × ℕ) Refusal) → Folds s gap b b' t t' o o' a → Folds s gap b b'' t t'' o o'' a' →
    (a ≡ a') × (b' ≡ b'') × (t' ≡ t'') × (o' ≡ o'')
one_fold s gap b b' b'' t t' t'' o o' o'' (Ok (r, m)) (Ok (r', m')) f g =
    let e = one_making s gap b b' b'' t t' t'' o o' o'' f.2 g.2 in
    let same : m ≡ m' = f.3 ∙ ap (λ (x : List ℕ). count_of x (length s)) e.1 ∙ sym g.3 in
    (λ i. Ok ((f.1 ∙ sym g.1) i, same i), e.0, e.1, e.2)
one_fold s gap b b' b'' t t' t'' o o' o'' (Ok (r, m)) (Err q) f g = absurd (one_of q f.0 g.0)
one_fold s gap b b' b'' t t' t'' o o' o'' (Err q) (Ok (r, m)) f g = absurd (one_of q g.0 f.0)
one_fold s gap b b' b'' t t' t'' o o' o'' (Err q) (Err q') f g =
    (ap Err (one_refusal q q' f.0 g.0), f.1 ∙ sym g.1, f.2 ∙ sym g.2, f.3 ∙ sym g.3)
