-- A line on a count: a table that obeys the rule by a computed test is the one that every fold of the sequence leaves, so its traceback and its
-- last cell are the answer's. Assumes nothing.
use mathlib.Core.Path.{◌≡◌, sym, ap, ◌∙◌}
use mathlib.Core.List.{List, map}
use Prim.Native.Nat.{ℕ, ◌-◌, ◌≤◌, ◌<◌}
use native.Mathlib.Omega.{arith}
use Rattle.std.proofs.Common.{Ok, Err}
use lib.Dec.{T, eqb, eqb→eq}
use lib.ListN.{length, take}
use lib.Seq.{ext_get_or, get_or-take, length-take-le}
use Rattle.refusals.specs.Refusals.{clear, fold_limit}
use Rattle.refusals.proofs.Laws.{one_of}
use Rattle.bases.specs.Bases.{normal}
use Rattle.structure.specs.Table.{view}
use Rattle.brackets.specs.Brackets.{brackets}
use Rattle.sequences.specs.Sequences.{bases_due}
use Rattle.cells.specs.Fill.{at}
use Rattle.cells.specs.Solve.{obeys}
use Rattle.cells.proofs.Rules.{unique}
use Rattle.cells.proofs.Solves.{obeys_right}
use Rattle.count_rule.specs.Rule.{nussinov}
use Rattle.count_rule.proofs.Laws.{nussinov_local}
use Rattle.count_trace.specs.Trace.{traced_of}
use Rattle.count_trace.proofs.Reached.{traced_long}
use Rattle.count_trace.proofs.Same.{traced_same}
use Rattle.counting.specs.Calls.{count_of}
use Rattle.counting.proofs.Accepted.{accepted}
use Rattle.counting.proofs.MostPairs.{fold_letters}
use Rattle.sheet.specs.Lines.{Says, count}

-- tables with the same cells have the same count
same_top : (t t' : List ℕ) (n : ℕ) → 0 < n → ((i j : ℕ) → i ≤ j → j < n → at (view t) i j ≡ at (view t') i j) → count_of t n ≡ count_of t' n
unfolding count_of
same_top t t' n h cells = cells 0 (n - 1) (omega arith) (omega arith)

-- lent memory of which each entry up to n is the table's starts with the table
pub starts : (o p : List ℕ) (n : ℕ) → n ≤ length o → length p ≡ n → ((k : ℕ) → k < n → view o k ≡ view p k) → take n o ≡ p
starts o p n room long same =
    let front = length-take-le n o room in
    ext_get_or 0 (take n o) p (front ∙ sym long) (λ k h. let l : k < n = omega (arith, front) in get_or-take n o k 0 l ∙ same k l)

-- t is the certificate, p the pair table that its traceback writes
pub counted :
    (s t p : List ℕ) (gap m : ℕ) (text : List ℕ) → 0 < length s → length s ≤ fold_limit → bases_due s ≡ clear → map normal s ≡ s →
    T (obeys eqb (nussinov gap) (view s) (at (view t)) (length s)) → count_of t (length s) ≡ m → length p ≡ length s →
    traced_of s t gap (length s) p ≡ p → brackets p ≡ text → Says (count s gap m text)
counted s t p gap m text some short each own good reached long traced spelt b b' u u' o o' (Err q) hb ht ho f =
    absurd (one_of q (accepted s b u o (record { short = short; some = some; each = each; bases = hb; cells = ht; pairs = ho })) f.0)
counted s t p gap m text some short each own good reached long traced spelt b b' u u' o o' (Ok (r, v)) hb ht ho f =
    let n = length s in
    let bases : (k : ℕ) → k < n → view b' k ≡ view s k = λ k h. fold_letters s gap b b' u u' o o' r v f k h ∙ ap (λ (x : List ℕ). view x k) own in
    let cells = unique (nussinov gap) (nussinov_local gap) (view b') (view s) (at (view u')) (at (view t)) n bases f.2.cells.right
    (obeys_right eqb eqb→eq (nussinov gap) (view s) (at (view t)) n good) in
    let size = ap length f.2.pairs ∙ traced_long b' u' gap n o ho in
    let table = starts o' p n (omega arith) long (λ k l. ap (λ (x : List ℕ). view x k) f.2.pairs
    ∙ traced_same b' s u' t gap n o p ho (omega arith) bases cells k l ∙ ap (λ (x : List ℕ). view x k) traced) in
    let figure : v ≡ m = f.3 ∙ same_top u' t n some cells ∙ reached in
    (λ i. Ok (f.1 i, figure i), ap brackets table ∙ spelt)
