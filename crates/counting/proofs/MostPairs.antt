-- The count of an accepted fold is the greatest, and its structure reaches it: the traceback's table is allowed and has so many pairs,
-- and the last cell of a right table bounds every allowed structure. Assumes nothing.
use mathlib.Core.Path.{◌≡◌, refl, sym, ap, ◌∙◌}
use mathlib.Core.List.{List, map}
use Prim.Native.Nat.{ℕ, ◌≤◌, ◌<◌}
use native.Mathlib.Omega.{arith}
use lib.ListN.{length, take}
use lib.Seq.{get_or-take, length-take-le}
use Rattle.refusals.specs.Refusals.{clear}
use Rattle.bases.specs.Bases.{normal}
use Rattle.sequences.proofs.Spared.{letters_front}
use Rattle.structure.specs.Table.{view}
use Rattle.structure.specs.Soundness.{table_due}
use Rattle.structure.proofs.Folds.{moved}
use Rattle.structure.proofs.Counts.{opened_moved}
use Rattle.structure.proofs.Checking.{clear_table}
use Rattle.cells.specs.Fill.{at}
use Rattle.count_rule.specs.Rule.{may_pair}
use Rattle.count_rule.specs.Allowed.{Allowed, May}
use Rattle.count_rule.proofs.Optimal.{greatest}
use Rattle.count_trace.specs.Trace.{traced_of}
use Rattle.count_trace.proofs.Reached.{traced_long, traced_allowed, traced_count}
use Rattle.counting.specs.declared.Record.{Record}
use Rattle.std.proofs.Common.{Ok}
use Rattle.counting.specs.Calls.{count_of, Folds}
use Rattle.counting.specs.Greatest.{Greatest}
use Rattle.counting.proofs.Accepted.{foldable}

-- an allowed structure depends on its own entries, and on what may pair inside the span
allowed_same :
    {can can' : ℕ → ℕ → Type 0} {p q : ℕ → ℕ} {lo hi : ℕ} → ((k : ℕ) → lo ≤ k → k < hi → q k ≡ p k) →
    ((i j : ℕ) → i < hi → j < hi → can i j → can' i j) → Allowed can p lo hi → Allowed can' q lo hi
allowed_same {p = p} {q = q} s c a = record {
  fold = moved s a.fold;
  each = λ k l h o n.
      let e = s k l h in
      let m = a.fold.mate k l h (omega arith) in
      rw e (c k (p k) h m.1 (a.each k l h (omega arith) (omega arith)));
}

-- bases that are the same may pair alike
may_same : (b b' : ℕ → ℕ) (gap n : ℕ) → ((k : ℕ) → k < n → b k ≡ b' k) → (i j : ℕ) → i < n → j < n → May b gap i j → May b' gap i j
unfolding may_pair
may_same b b' gap n e i j h l y = rw (← e i h, ← e j l) y

module _ (s : List ℕ) (gap : ℕ) (b b' t t' o o' : List ℕ) (r : Record) (m : ℕ) (f : Folds s gap b b' t t' o o' (Ok (r, m))) where
  -- the first bases are the letters of the sequence
  pub fold_letters : (k : ℕ) → k < length s → view b' k ≡ view (map normal s) k
  fold_letters k h = ap (λ (l : List ℕ). view l k) f.2.bases ∙ letters_front s b k h

  -- the pair table is an allowed structure with as many pairs as the count, and no allowed structure has more
  pub most_pairs : Greatest s gap (take (length s) o') m
  unfolding count_of
  most_pairs =
      let n = length s in
      let u = foldable s b t o f.0 in
      let right = f.2.cells.right in
      let traced = traced_of b' t' gap n o in
      let long = ap length f.2.pairs ∙ traced_long b' t' gap n o u.pairs in
      let all = length-take-le n o' (omega (arith, u.pairs)) in
      let entry : (k : ℕ) → 0 ≤ k → k < n → view (take n o') k ≡ view traced k = λ k l h. get_or-take n o' k 0 h ∙ ap (λ (x : List ℕ). view x k) f.2.pairs in
      let allowed = allowed_same entry (may_same (view b') (view (map normal s)) gap n fold_letters)
      (traced_allowed b' t' gap n o u.some (omega (arith, u.short)) u.pairs right) in
      record {
        sound = rw all allowed.fold;
        permitted = (all, allowed);
        reached = rw all (omega (
          arith,
          opened_moved (view traced) (view (take n o')) 0 n (omega arith) entry,
          traced_count b' t' gap n o u.some (omega (arith, u.short)) u.pairs right,
          f.3,
        ));
        most = λ q p.
            let a = allowed_same (λ k l h. refl) (may_same (view (map normal s)) (view b') gap n (λ k h. sym (fold_letters k h))) p.1 in
            omega (arith, greatest gap n (view b') (at (view t')) u.some (omega (arith, u.short)) right q p.0 a, f.3);
      }

  -- so the calls on structures take it
  pub fold_taken : table_due (take (length s) o') ≡ clear
  fold_taken =
      let g = most_pairs in
      let u = foldable s b t o f.0 in
      clear_table (take (length s) o') (omega (arith, g.permitted.0, u.short)) g.sound
