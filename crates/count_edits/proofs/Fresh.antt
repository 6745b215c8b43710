-- After any run of edits from an accepted fold, length and gap, count, bases, cells and structure are those of every accepted fresh
-- fold, at the same gap, of the sequence that the accepted edits spell; and the structure has the most pairs. Assumes nothing.
use mathlib.Core.Path.{◌≡◌, refl, ap, ◌∙◌, sym}
use mathlib.Core.Bool.{Bool}
use mathlib.Core.List.{List, map, ◌++◌}
use Prim.Native.Nat.{ℕ, ◌≤◌, ◌<◌}
use native.Mathlib.Omega.{arith}
use lib.ListN.{length, take, drop, length-map, take-append-drop}
use lib.Seq.{ext_get_or, get_or-take, length-take-le}
use Rattle.std.proofs.Common.{Ok}
use Rattle.refusals.specs.Refusals.{clear}
use Rattle.bases.specs.Bases.{normal}
use Rattle.structure.specs.Table.{view}
use Rattle.structure.specs.Soundness.{table_due}
use Rattle.sequences.proofs.Letters.{letter_at}
use Rattle.cells.specs.Tri.{tri}
use Rattle.edits.specs.Edits.{Edit, spelled}
use Rattle.edits.specs.Runs.{Run}
use Rattle.edits.specs.Kinds.{Good, Alike}
use Rattle.edits.proofs.Histories.{alike}
use Rattle.count_trace.specs.Trace.{traced_of}
use Rattle.count_trace.proofs.Same.{traced_same}
use Rattle.count_trace.proofs.Reached.{traced_long}
use Rattle.counting.specs.declared.Record.{Record}
use Rattle.counting.specs.Calls.{count_of, record_of, Folds}
use Rattle.counting.specs.Greatest.{Greatest}
use Rattle.counting.proofs.Accepted.{foldable}
use Rattle.counting.proofs.MostPairs.{most_pairs, fold_taken}
use Rattle.count_edits.specs.Calls.{Traces}
use Rattle.count_edits.specs.Histories.{State, state, Call, AsFolded}
use Rattle.count_edits.proofs.Accepted.{trace_clear}
use Rattle.count_edits.proofs.Good.{counts, good_fold, good_accepted, good_run}

-- two lists agree on the first n entries
take_same : (n : ℕ) (a b : List ℕ) → n ≤ length a → n ≤ length b → ((k : ℕ) → k < n → view a k ≡ view b k) → take n a ≡ take n b
take_same n a b h l e =
    ext_get_or 0 (take n a) (take n b) (length-take-le n a h ∙ sym (length-take-le n b l))
    (λ k u. let w : k < n = omega (arith, length-take-le n a h) in get_or-take n a k 0 w ∙ e k w ∙ sym (get_or-take n b k 0 w))

-- a good state is as any fold of its sequence left it
module _
    (q : List ℕ) (gap : ℕ) (s : State) (g : Good counts gap q s)
    (b b' t t' o o' : List ℕ) (r : Record) (m : ℕ) (f : Folds q gap b b' t t' o o' (Ok (r, m))) where
  same : Alike counts s (state r m b' t')
  same = alike counts gap q s (state r m b' t') g (good_fold q gap b b' t t' o o' r m f)

  long : r.length ≡ length q
  long = ap (λ (x : Record). x.length) f.1

  same_structure :
      (u u' : List ℕ) (v : ℕ) → Traces s.kept s.bases s.cells u u' (Ok v) →
      (v ≡ m) × (take r.length u' ≡ take r.length o')
  unfolding count_of
  same_structure u u' v d =
      let n = length q in
      let size : s.kept.length ≡ n = g.table.long in
      let lent : n ≤ length u = omega (arith, (trace_clear s.kept.length s.bases s.cells u d.0).1) in
      let room : n ≤ length o = (foldable q b t o f.0).pairs in
      let a = traced_of s.bases s.cells gap n u in
      let c = traced_of b' t' gap n o in (
        d.2 ∙ sym g.figure ∙ same.figure,
        rw (long, d.1, f.2.pairs, g.set, size)
            (take_same n a c (omega (arith, traced_long s.bases s.cells gap n u lent)) (omega (arith, traced_long b' t' gap n o room))
            (traced_same s.bases b' s.cells t' gap n u o lent room (λ k h. same.bases k (omega (arith, long)))
            (λ i j h l. same.cells i j h (omega (arith, long))))),
      )

  as_folded : AsFolded s r m b' t' o'
  as_folded = record {
    length = same.size;
    gap = same.setting;
    count = same.figure;
    bases = same.bases;
    cells = same.cells;
    structure = same_structure;
  }

-- a good state, with what the traceback gives, is what a fold of its sequence into that very memory leaves
refolds :
    (q : List ℕ) (gap : ℕ) (s : State) → Good counts gap q s → (u u' : List ℕ) (v : ℕ) → Traces s.kept s.bases s.cells u u' (Ok v) →
    Folds q gap s.bases s.bases s.cells s.cells u u' (Ok (record_of (length q) gap, v))
refolds q gap s g u u' v d =
    let n = length q in
    let b = s.bases in
    let t = s.cells in
    let size : s.kept.length ≡ n = g.table.long in
    let c = trace_clear s.kept.length b t u d.0 in
    let room : n ≤ length b = omega (arith, c.0.bases) in
    let front : take n b ≡ map normal q =
    ext_get_or 0 (take n b) (map normal q) (length-take-le n b room ∙ sym (length-map q normal))
    (λ k h.
    let l : k < n = omega (arith, length-take-le n b room) in
    get_or-take n b k 0 l ∙ g.table.spelt k (omega arith) ∙ sym (letter_at q k)) in (
      good_accepted gap q s g b t u room (omega (arith, c.0.cells, ap tri size)) (omega (arith, c.1)),
      refl,
      record {
        bases = sym (ap (λ (x : List ℕ). x ++ drop n b) (sym front) ∙ take-append-drop n b);
        cells = record { right = rw size at g.table.right; fine = rw size at c.0.fine; spare = λ k h. refl; long = refl };
        pairs = rw (g.set, size) at d.1;
      },
      rw size at d.2,
    )

-- ---- the theorems

pub after_any_run :
    -- an accepted fold of a sequence q
    (q : List ℕ) (gap : ℕ) (b₀ b t₀ t o₀ o : List ℕ) (r : Record) (m : ℕ) → Folds q gap b₀ b t₀ t o₀ o (Ok (r, m)) →
    -- any run of edits from it, each accepted or refused, each as its own contract permits
    (l : List (Edit × Bool)) (s : State) → Run Call l (state r m b t) s →
    -- any accepted fold, at the same gap, of the letters that the accepted edits spell
    (b₁ b' t₁ t' o₁ o' : List ℕ) (r' : Record) (m' : ℕ) → Folds (map normal (spelled l q)) gap b₁ b' t₁ t' o₁ o' (Ok (r', m')) →
    -- what the run left is as that fold left it
    AsFolded s r' m' b' t' o'
after_any_run q gap b₀ b t₀ t o₀ o r m f l s run b₁ b' t₁ t' o₁ o' r' m' fresh =
    as_folded (map normal (spelled l q)) gap s (good_run q gap b₀ b t₀ t o₀ o r m f l s run) b₁ b' t₁ t' o₁ o' r' m' fresh

module _
    -- an accepted fold of a sequence q
    (q : List ℕ) (gap : ℕ) (b₀ b t₀ t o₀ o : List ℕ) (r : Record) (m : ℕ) (f : Folds q gap b₀ b t₀ t o₀ o (Ok (r, m)))
    -- any run of edits from it, each accepted or refused, each as its own contract permits
    (l : List (Edit × Bool)) (s : State) (run : Run Call l (state r m b t) s)
    -- an accepted traceback from what the run left
    (u u' : List ℕ) (v : ℕ) (d : Traces s.kept s.bases s.cells u u' (Ok v)) where
  -- its structure is allowed, has so many pairs, and no allowed structure of what was spelled has more
  pub after_any_run_most : Greatest (map normal (spelled l q)) gap (take s.kept.length u') v
  after_any_run_most =
      let p = map normal (spelled l q) in
      let g = good_run q gap b₀ b t₀ t o₀ o r m f l s run in
      let size : s.kept.length ≡ length p = g.table.long in
      rw size (most_pairs p gap s.bases s.bases s.cells s.cells u u' (record_of (length p) gap) v (refolds p gap s g u u' v d))

  -- so the calls on structures take it
  pub after_any_run_taken : table_due (take s.kept.length u') ≡ clear
  after_any_run_taken =
      let p = map normal (spelled l q) in
      let g = good_run q gap b₀ b t₀ t o₀ o r m f l s run in
      let size : s.kept.length ≡ length p = g.table.long in
      rw size (fold_taken p gap s.bases s.bases s.cells s.cells u u' (record_of (length p) gap) v (refolds p gap s g u u' v d))
