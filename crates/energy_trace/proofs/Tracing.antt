-- The tracebacks' steps as their calls make them: what a move writes, from what its shorter spans write. Assumes nothing.
use mathlib.Core.Path.{◌≡◌, refl, ◌∙◌}
use mathlib.Core.List.{List}
use Prim.Native.Nat.{ℕ, zero, suc, ◌-◌, ◌<◌}
use native.Mathlib.Omega.{arith}
use Rattle.tables.specs.Writing.{joined}
use Rattle.energy_trace.specs.Trace.{trace_of, Traced}
use Rattle.energy_trace.specs.declared.choice.Job.{Job}
use Rattle.energy_trace.specs.declared.choice.Job.TheVariants.{Closed}
use Rattle.energy_trace.specs.declared.choice.Move.{Move}
use Rattle.energy_trace.specs.declared.choice.Move.TheVariants.{Stop, Go, Close, Twice}

module _ (move : Job → ℕ → ℕ → Move) (job : Job) (lo hi : ℕ) (o : List ℕ) (r : Move) (e : r ≡ move job lo hi) where
  pub traced_stop : r ≡ Stop → Traced move job lo hi o o
  unfolding trace_of
  traced_stop q zero l = refl
  traced_stop q (suc f) l = simp (← e, q)

  pub traced_go : (o' : List ℕ) (next : Job) (from to : ℕ) → r ≡ Go next from to → to - from < hi - lo → Traced move next from to o o' → Traced move job lo hi o o'
  unfolding trace_of
  traced_go o' next from to q h s zero l = absurd (omega arith)
  traced_go o' next from to q h s (suc f) l = s f (omega arith) ∙ simp (← e, q)

  pub traced_close :
      (o₁ o' : List ℕ) (i j : ℕ) → r ≡ Close i j → j - i < hi - lo → o₁ ≡ joined o i j → Traced move Closed i j o₁ o' → Traced move job lo hi o o'
  unfolding trace_of
  traced_close o₁ o' i j q h w s zero l = absurd (omega arith)
  traced_close o₁ o' i j q h w s (suc f) l = s f (omega arith) ∙ simp (← e, q, w)

  pub traced_twice :
      (o₁ o' : List ℕ) (next : Job) (from k to : ℕ) → r ≡ Twice next from k to → k - from < hi - lo → to - k < hi - lo →
      Traced move next from k o o₁ → Traced move next k to o₁ o' → Traced move job lo hi o o'
  unfolding trace_of
  traced_twice o₁ o' next from k to q h d s u zero l = absurd (omega arith)
  traced_twice o₁ o' next from k to q h d s u (suc f) l = u f (omega arith) ∙ simp (← e, q, ← s f (omega arith))
