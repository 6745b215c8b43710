-- The traceback depends on the bases and the cells of its span alone. Assumes nothing.
use mathlib.Core.Path.{◌≡◌, refl, ap₂, subst, ◌∙◌, sym}
use mathlib.Core.Bool.{Bool, true, false, cond, ◌&&◌}
use mathlib.Core.List.{List}
use mathlib.Core.Logic.{by_cases}
use Prim.Native.Nat.{ℕ, zero, suc, ◌+◌, ◌-◌, ◌≤◌, ◌<◌}
use native.Mathlib.Decide.{dec_lt}
use native.Mathlib.Omega.{arith}
use borrow.Author.Tests.{lt-ltb}
use lib.Dec.{eqb, ltb}
use lib.ListN.{length}
use Rattle.bases.specs.Bases.{can_pair}
use Rattle.structure.specs.Table.{view}
use Rattle.tables.specs.Writing.{cleared}
use Rattle.tables.proofs.Agreeing.{Agree, agree_joined, agree_cleared}
use Rattle.searches.proofs.First.{first_same}
use Rattle.cells.specs.Rule.{Cells, span}
use Rattle.cells.specs.Fill.{at}
use Rattle.cells.proofs.Spans.{span_some, span_none}
use Rattle.count_rule.specs.Rule.{may_pair}
use Rattle.count_trace.specs.Choosing.{closes_of, split_at, split_of, or_last, choice}
use Rattle.count_trace.specs.Trace.{step, trace_of, traced_of}
use Rattle.count_trace.specs.declared.choice.Choice.{Choice}
use Rattle.count_trace.specs.declared.choice.Choice.TheVariants.{FirstUnpaired, Paired, Split, LastUnpaired}
use Rattle.count_trace.proofs.Choosing.{split_inside}

-- one step, with the same choice
step_same :
    (n : ℕ) (go go' : ℕ → ℕ → List ℕ → List ℕ) →
    ((lo hi : ℕ) (o o' : List ℕ) → hi ≤ n → Agree n o o' → Agree n (go lo hi o) (go' lo hi o')) →
    (b : Bool) (ch : Choice) (lo hi : ℕ) (o o' : List ℕ) → hi ≤ n → ((k : ℕ) → ch ≡ Split k → k + 1 ≤ n) → Agree n o o' →
    Agree n (step go b ch lo hi o) (step go' b ch lo hi o')
step_same n go go' ih true ch lo hi o o' h s a = a
step_same n go go' ih false FirstUnpaired lo hi o o' h s a = ih (lo + 1) hi o o' h a
step_same n go go' ih false Paired lo hi o o' h s a =
    ih (lo + 1) (hi - 1) _ _ (omega arith) (agree_joined n o o' lo (hi - 1) a)
step_same n go go' ih false (Split k) lo hi o o' h s a = ih (k + 1) hi _ _ h (ih lo (k + 1) o o' (s k refl) a)
step_same n go go' ih false LastUnpaired lo hi o o' h s a = ih lo (hi - 1) o o' (omega arith) a

module _ (c c' : Cells ℕ) (p p' : ℕ → ℕ → Bool) (n : ℕ)
    (ec : (i j : ℕ) → i ≤ j → j < n → c i j ≡ c' i j) (ep : (i j : ℕ) → i < j → j < n → p i j ≡ p' i j) where
  span_same : (lo hi : ℕ) → hi ≤ n → span c lo hi ≡ span c' lo hi
  span_same lo hi h = by_cases (dec_lt lo hi)
      (λ s. span_some c lo hi s ∙ ec lo (hi - 1) (omega arith) (omega arith) ∙ sym (span_some c' lo hi s))
      (λ s. span_none c lo hi (omega arith) ∙ sym (span_none c' lo hi (omega arith)))

  closes_same : (i j : ℕ) → i < j → j < n → closes_of c p i j (c i j) ≡ closes_of c' p' i j (c' i j)
  unfolding closes_of
  closes_same i j h l = λ x. ep i j h l x && eqb (span_same (i + 1) j (omega arith) x + 1) (ec i j (omega arith) l x)

  split_same : (i j : ℕ) → i < j → j < n → split_of c i j (c i j) ≡ split_of c' i j (c' i j)
  unfolding split_of split_at
  split_same i j h l =
      first_same _ _ _ _
      (λ k q r. ap₂ eqb (ap₂ ◌+◌ (ec i k (omega arith) (omega arith)) (ec (k + 1) j (omega arith) l)) (ec i j (omega arith) l))

  choice_same : (i j : ℕ) → i < j → j < n → choice c p i j ≡ choice c' p' i j
  unfolding choice
  choice_same i j h l =
      λ x.
      cond (eqb (ec (i + 1) j (omega arith) l x) (ec i j (omega arith) l x)) FirstUnpaired
      (cond (closes_same i j h l x) Paired (or_last (split_same i j h l x)))

  trace_same : (f lo hi : ℕ) (o o' : List ℕ) → hi ≤ n → Agree n o o' → Agree n (trace_of f c p lo hi o) (trace_of f c' p' lo hi o')
  unfolding trace_of
  trace_same zero lo hi o o' h a = a
  trace_same (suc f) lo hi o o' h a = by_cases (dec_lt (hi - lo) 2)
      (λ s. rw (lt-ltb (hi - lo) 2 s) a)
      (λ s.
      let w : lo < hi - 1 = omega arith in
      let short = ltb (hi - lo) 2 in
      let ch = choice c p lo (hi - 1) in
      subst (λ (x : Choice). Agree n (step (trace_of f c p) short ch lo hi o) (step (trace_of f c' p') short x lo hi o'))
      (choice_same lo (hi - 1) w (omega arith))
      (step_same n (trace_of f c p) (trace_of f c' p') (trace_same f) short ch lo hi o o' h
      (λ k q. let b = split_inside c p lo (hi - 1) refl q in omega (arith, b.1)) a))

-- two tracebacks agree on the first n positions where their first n bases do, and the cells of these
pub traced_same :
    (b b' t t' : List ℕ) (gap n : ℕ) (o o' : List ℕ) → n ≤ length o → n ≤ length o' → ((k : ℕ) → k < n → view b k ≡ view b' k) →
    ((i j : ℕ) → i ≤ j → j < n → at (view t) i j ≡ at (view t') i j) →
    (k : ℕ) → k < n → view (traced_of b t gap n o) k ≡ view (traced_of b' t' gap n o') k
unfolding traced_of may_pair
traced_same b b' t t' gap n o o' h h' eb et =
    (trace_same (at (view t)) (at (view t')) (may_pair (view b) gap) (may_pair (view b') gap) n et
    (λ i j p q x. can_pair (eb i (omega arith) x) (eb j q x) && ltb gap (j - i)) n 0 n (cleared n o) (cleared n o') (omega arith)
    (agree_cleared n o o' h h')).same
