-- The theorems on runs of edits speak of something. After any run of edits from an accepted fold, a further call is refused only for
-- its own argument or for want of room; and with room a traceback, and a fresh fold of what was spelled, are accepted. Assumes nothing.
use mathlib.Core.Path.{◌≡◌, ap, ◌∙◌}
use mathlib.Core.Bool.{Bool}
use mathlib.Core.List.{List, map}
use Prim.Native.Nat.{ℕ, ◌≤◌}
use native.Mathlib.Omega.{arith}
use borrow.Author.Tests.{le-ltb}
use lib.ListN.{length, length-map}
use Rattle.std.proofs.Common.{Ok}
use Rattle.refusals.specs.Refusals.{clear}
use Rattle.bases.specs.Bases.{normal, is_kept}
use Rattle.bases.proofs.Laws.{normal_kept}
use Rattle.structure.specs.Table.{view}
use Rattle.cells.specs.Tri.{tri}
use Rattle.cells.specs.Fill.{at}
use Rattle.cells.proofs.Solves.{true_every}
use Rattle.cells.proofs.Fills.{right_fine}
use Rattle.edits.specs.Edits.{Edit, spelled}
use Rattle.edits.specs.Runs.{Run}
use Rattle.edits.specs.Kinds.{Good}
use Rattle.count_rule.specs.Rule.{nussinov, Half}
use Rattle.count_rule.proofs.Laws.{nussinov_keeps}
use Rattle.counting.specs.declared.Record.{Record}
use Rattle.counting.specs.Checks.{fold_due}
use Rattle.counting.specs.Calls.{Folds}
use Rattle.count_kept.specs.Checks.{all_kept, kept_due}
use Rattle.count_kept.proofs.Believable.{believed}
use Rattle.count_edits.specs.Checks.{trace_due}
use Rattle.count_edits.specs.Histories.{State, state, Call}
use Rattle.count_edits.proofs.Good.{counts, good_accepted, good_run}

-- nothing is due of a good state
good_clear : (gap : ℕ) (q : List ℕ) (s : State) → Good counts gap q s → kept_due s.kept.length s.bases s.cells ≡ clear
unfolding all_kept
good_clear gap q s g =
    let size : s.kept.length ≡ length q = g.table.long in
    believed s.kept.length s.bases s.cells
    (record {
      some = g.some;
      short = g.room.short;
      bases = g.room.bases;
      cells = g.room.cells;
      kept = true_every (λ k. is_kept (view s.bases k)) s.kept.length
          (λ k h. ap is_kept (g.table.spelt k h) ∙ normal_kept (view q k) (g.each k (omega arith)));
      fine = right_fine (nussinov gap) Half (nussinov_keeps gap) (view s.bases) (at (view s.cells)) s.kept.length g.table.right;
    })

module _
    -- an accepted fold of a sequence q
    (q : List ℕ) (gap : ℕ) (b₀ b t₀ t o₀ o : List ℕ) (r : Record) (m : ℕ) (f : Folds q gap b₀ b t₀ t o₀ o (Ok (r, m)))
    -- any run of edits from it
    (l : List (Edit × Bool)) (s : State) (run : Run Call l (state r m b t) s) where
  -- no later call is refused for its record, its room at the present length, or its contents
  pub never_stuck : kept_due s.kept.length s.bases s.cells ≡ clear
  never_stuck = good_clear gap (map normal (spelled l q)) s (good_run q gap b₀ b t₀ t o₀ o r m f l s run)

  -- a traceback is accepted, wherever there is room for the structure
  pub trace_accepted : (u : List ℕ) → s.kept.length ≤ length u → trace_due s.kept.length s.bases s.cells u ≡ clear
  unfolding trace_due
  trace_accepted u h = rw (never_stuck, le-ltb (length u) s.kept.length h)

  -- and so is a fold of what was spelled, wherever there is room for it
  pub fresh_accepted :
      (b₁ t₁ o₁ : List ℕ) → length (spelled l q) ≤ length b₁ → tri (length (spelled l q)) ≤ length t₁ →
      length (spelled l q) ≤ length o₁ →
      fold_due (map normal (spelled l q)) b₁ t₁ o₁ ≡ clear
  fresh_accepted b₁ t₁ o₁ hb ht ho =
      let p = map normal (spelled l q) in
      let size = length-map (spelled l q) normal in
      good_accepted gap p s (good_run q gap b₀ b t₀ t o₀ o r m f l s run) b₁ t₁ o₁ (rw size hb) (rw size ht) (rw size ho)
