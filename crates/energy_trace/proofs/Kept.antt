-- A traceback of n bases keeps the table's length and what stands from n on, on any tables, right or wrong. Assumes nothing.
use mathlib.Core.Path.{◌≡◌, refl, ◌∙◌}
use mathlib.Core.List.{List}
use Prim.Native.Nat.{ℕ, zero, suc, ◌≤◌, ◌<◌}
use native.Mathlib.Omega.{arith}
use lib.IntN.{ℤ}
use lib.ListN.{length}
use Rattle.cells.specs.Rule.{Bases}
use Rattle.structure.specs.Table.{view}
use Rattle.tables.specs.Writing.{cleared, joined}
use Rattle.tables.proofs.Written.{cleared_long, cleared_above, joined_long, joined_other}
use Rattle.energy_rule.specs.Rule.{Table}
use Rattle.energy_rule.specs.Memory.{table}
use Rattle.energy_trace.specs.Choosing.{move_of}
use Rattle.energy_trace.specs.Trace.{act, trace_of, traced_of, Spot}
use Rattle.energy_trace.specs.declared.choice.Job.{Job}
use Rattle.energy_trace.specs.declared.choice.Job.TheVariants.{Any, Closed}
use Rattle.energy_trace.specs.declared.choice.Move.{Move}
use Rattle.energy_trace.specs.declared.choice.Move.TheVariants.{Stop, Go, Close, Twice}
use Rattle.energy_trace.proofs.Moving.{Falls, stops, goes, closes, parts, move_falls}

record Kept (n : ℕ) (o o' : List ℕ) : Type 0 where
  pub long : length o' ≡ length o
  pub rest : (k : ℕ) → n ≤ k → view o' k ≡ view o k

module _ (n : ℕ) where
  -- a move keeps what its calls keep
  act_kept : (go : Job → ℕ → ℕ → List ℕ → List ℕ) → ((job : Job) (lo hi : ℕ) → Spot job lo hi n → (o : List ℕ) → Kept n o (go job lo hi o))
      → (lo hi : ℕ) (move : Move) → Falls n lo hi move → (o : List ℕ) → Kept n o (act go move o)
  act_kept go ih lo hi Stop stops o = record { long = refl; rest = λ k h. refl }
  act_kept go ih lo hi (Go job from to) (goes s h) o = ih job from to s o
  act_kept go ih lo hi (Close i j) (closes h l s) o =
      let r = ih Closed i j (h, l) (joined o i j) in
      record { long = r.long ∙ joined_long o i j; rest = λ k u. r.rest k u ∙ joined_other o i j k (omega arith) (omega arith) }
  act_kept go ih lo hi (Twice job from k to) (parts s u h l) o =
      let x = ih job from k s o in
      let y = ih job k to u (go job from k o) in
      record { long = y.long ∙ x.long; rest = λ k h. y.rest k h ∙ x.rest k h }

  trace_kept : (b : Bases) (v w m : Table) (f : ℕ) (job : Job) (lo hi : ℕ) → Spot job lo hi n → (o : List ℕ)
      → Kept n o (trace_of f (move_of b v w m) job lo hi o)
  unfolding trace_of
  trace_kept b v w m zero job lo hi s o = record { long = refl; rest = λ k h. refl }
  trace_kept b v w m (suc f) job lo hi s o =
      act_kept (trace_of f (move_of b v w m)) (trace_kept b v w m f) lo hi (move_of b v w m job lo hi) (move_falls b v w m n lo hi job s) o

module _ (b : List ℕ) (v w m : List ℤ) (n : ℕ) (o : List ℕ) (some : 0 < n) where
  pub traced_long : n ≤ length o → length (traced_of b v w m n o) ≡ length o
  unfolding traced_of
  traced_long h = (trace_kept n (view b) (table v) (table w) (table m) (suc n) Any 0 n (some, omega arith) (cleared n o)).long ∙ cleared_long n o h

  pub traced_outside : (k : ℕ) → n ≤ k → view (traced_of b v w m n o) k ≡ view o k
  unfolding traced_of
  traced_outside k h = (trace_kept n (view b) (table v) (table w) (table m) (suc n) Any 0 n (some, omega arith) (cleared n o)).rest k h ∙ cleared_above n o k h
