-- What the traceback leaves alone on any table; and on a right one, that its structure is allowed, has as many pairs as the last cell says,
-- and takes j unpaired nowhere. Assumes nothing.
use mathlib.Core.Path.{◌≡◌, refl, sym, ap, subst, ◌∙◌}
use mathlib.Core.Logic.{◌≢◌, by_cases}
use mathlib.Core.Bool.{Bool, true, false}
use mathlib.Core.List.{List}
use Prim.Native.Nat.{ℕ, zero, suc, ◌+◌, ◌-◌, ◌<◌, ◌≤◌}
use native.Mathlib.Decide.{ℕ_discrete}
use native.Mathlib.Omega.{arith}
use borrow.Author.Tests.{ltb-true, ltb-false}
use lib.Dec.{ltb}
use lib.ListN.{length}
use Rattle.cells.specs.Rule.{Bases, Cells, Right}
use Rattle.cells.specs.Fill.{at}
use Rattle.structure.specs.Table.{unpaired, view, opened}
use Rattle.tables.specs.Writing.{cleared, joined, Blank}
use Rattle.tables.proofs.Written.{cleared_long, cleared_below, cleared_above, joined_long, joined_other, joined_first, joined_last}
use Rattle.count_rule.specs.Rule.{may_pair, nussinov}
use Rattle.count_rule.specs.Allowed.{Allowed, May}
use Rattle.count_rule.specs.Counts.{Step, Ruled, Filled}
use Rattle.cells.proofs.Spans.{span_some}
use Rattle.count_rule.proofs.Ruling.{right_ruled}
use Rattle.count_rule.proofs.Filling.{filled_none, filled_one, filled_first, filled_both, filled_split, filled_moved}
use Rattle.count_trace.specs.Choosing.{choice}
use Rattle.count_trace.specs.Trace.{step, trace_of, traced_of}
use Rattle.count_trace.specs.declared.choice.Choice.{Choice}
use Rattle.count_trace.specs.declared.choice.Choice.TheVariants.{FirstUnpaired, Paired, Split, LastUnpaired}
use Rattle.count_trace.proofs.Choosing.{Why, why}

-- ---- on any table

-- o' is as long as o, and is o outside the span
record Kept (o o' : List ℕ) (lo hi : ℕ) : Type 0 where
  pub long : length o' ≡ length o
  pub below : (k : ℕ) → k < lo → view o' k ≡ view o k
  pub above : (k : ℕ) → hi ≤ k → view o' k ≡ view o k

module _ (c : Cells ℕ) (p : ℕ → ℕ → Bool) where
  -- a step keeps what its calls keep
  kept_step :
      (go : ℕ → ℕ → List ℕ → List ℕ) → ((lo hi : ℕ) (o : List ℕ) → Kept o (go lo hi o) lo hi) →
      (lo hi : ℕ) (o : List ℕ) (b : Bool) → ltb (hi - lo) 2 ≡ b → (ch : Choice) → Why c p lo (hi - 1) ch → Kept o (step go b ch lo hi o) lo hi
  kept_step go ih lo hi o true q ch w = record { long = refl; below = λ k h. refl; above = λ k h. refl }
  kept_step go ih lo hi o false q FirstUnpaired w =
      let r = ih (lo + 1) hi o in
      record { long = r.long; below = λ k h. r.below k (omega arith); above = r.above }
  kept_step go ih lo hi o false q Paired w =
      let l : 2 ≤ hi - lo = ltb-false _ _ q in
      let r = ih (lo + 1) (hi - 1) (joined o lo (hi - 1)) in
      record {
        long = r.long ∙ joined_long o lo (hi - 1);
        below = λ k h. r.below k (omega arith) ∙ joined_other o lo (hi - 1) k (omega arith) (omega arith);
        above = λ k h. r.above k (omega arith) ∙ joined_other o lo (hi - 1) k (omega arith) (omega arith);
      }
  kept_step go ih lo hi o false q (Split k) (Why.split _ h l e) =
      let r = ih lo (k + 1) o in
      let s = ih (k + 1) hi (go lo (k + 1) o) in
      record {
        long = s.long ∙ r.long;
        below = λ x u. s.below x (omega arith) ∙ r.below x u;
        above = λ x u. s.above x u ∙ r.above x (omega arith);
      }
  kept_step go ih lo hi o false q LastUnpaired w =
      let r = ih lo (hi - 1) o in
      record { long = r.long; below = r.below; above = λ k h. r.above k (omega arith) }

  trace_kept : (f lo hi : ℕ) (o : List ℕ) → Kept o (trace_of f c p lo hi o) lo hi
  unfolding trace_of
  trace_kept zero lo hi o = record { long = refl; below = λ k h. refl; above = λ k h. refl }
  trace_kept (suc f) lo hi o =
      kept_step (trace_of f c p) (trace_kept f) lo hi o (ltb (hi - lo) 2) refl (choice c p lo (hi - 1)) (why c p lo (hi - 1))

module _ (b t : List ℕ) (gap n : ℕ) (o : List ℕ) where
  pub traced_long : n ≤ length o → length (traced_of b t gap n o) ≡ length o
  unfolding traced_of
  traced_long h = (trace_kept (at (view t)) (may_pair (view b) gap) n 0 n (cleared n o)).long ∙ cleared_long n o h

  pub traced_outside : (k : ℕ) → n ≤ k → view (traced_of b t gap n o) k ≡ view o k
  unfolding traced_of
  traced_outside k h = (trace_kept (at (view t)) (may_pair (view b) gap) n 0 n (cleared n o)).above k h ∙ cleared_above n o k h

-- ---- on a right one
module _ (p : ℕ → ℕ → Bool) (n : ℕ) (c : Cells ℕ) (w : Ruled (λ i j. p i j ≡ true) n c) where
  -- j unpaired reaches the cell only where i unpaired, or the split before j, does
  last_never : (i j : ℕ) → i < j → j < n → Why c p i j LastUnpaired → ⊥
  last_never i j h l (Why.last a b s) = elim (w.reached i j h l) [
    | Step.first v ↦ a v
    | Step.both y v ↦ b y v
    | Step.split k x y v ↦ s k x y v
    | Step.last v ↦ by_cases (ℕ_discrete (j - 1) i)
        (λ q.
        let z : i + 1 ≡ j = omega arith in
        a (omega (arith, ap (c i) q, w.alone i (omega arith), w.alone j l, ap (λ (x : ℕ). c x j) z)))
        (λ m.
        let z : j - 1 + 1 ≡ j = omega arith in
        s (j - 1) (omega arith) (omega arith) (omega (arith, w.alone j l, ap (λ (x : ℕ). c x j) z)))
  ]

  -- the traceback's structure on a span that was blank
  abbrev Fills : ℕ → (ℕ → ℕ → List ℕ → List ℕ) → Type 0
  Fills f go =
      (lo hi : ℕ) (o : List ℕ) → hi ≤ lo + f → lo ≤ hi → hi ≤ n → hi ≤ length o → Blank o lo hi →
      Filled (λ i j. p i j ≡ true) c (view (go lo hi o)) lo hi

  module _ (short : n < unpaired) where
    -- fewer than two bases have no pair
    fills_short : (o : List ℕ) (lo hi : ℕ) → lo ≤ hi → hi ≤ n → hi - lo < 2 → Blank o lo hi → Filled (λ i j. p i j ≡ true) c (view o) lo hi
    fills_short o lo hi h l s blank = by_cases (ℕ_discrete lo hi)
        (λ e. rw (← e) (filled_none _ c (view o) lo (omega arith)))
        (λ ne.
        let z : hi ≡ lo + 1 = omega arith in
        let y : lo + 1 - 1 ≡ lo = omega arith in
        rw z
        (filled_one _ c (view o) lo (omega arith) (blank lo (omega arith) (omega arith))
        (span_some c lo (lo + 1) (omega arith) ∙ ap (c lo) y ∙ w.alone lo (omega arith))))

    fills_step :
        (f : ℕ) (go : ℕ → ℕ → List ℕ → List ℕ) → ((lo hi : ℕ) (o : List ℕ) → Kept o (go lo hi o) lo hi) → Fills f go →
        (b : Bool) (ch : Choice) (lo hi : ℕ) (o : List ℕ) → hi ≤ lo + suc f → lo ≤ hi → hi ≤ n → hi ≤ length o → Blank o lo hi →
        ltb (hi - lo) 2 ≡ b → Why c p lo (hi - 1) ch → Filled (λ i j. p i j ≡ true) c (view (step go b ch lo hi o)) lo hi
    fills_step f go kept ih true ch lo hi o m h l r blank q y = fills_short o lo hi h l (ltb-true _ _ q) blank
    fills_step f go kept ih false FirstUnpaired lo hi o m h l r blank q (Why.first v) =
        let s : 2 ≤ hi - lo = ltb-false _ _ q in
        filled_first _ c (view (go (lo + 1) hi o)) lo hi (omega arith)
        ((kept (lo + 1) hi o).below lo (omega arith) ∙ blank lo (omega arith) (omega arith))
        (span_some c lo hi (omega arith) ∙ v ∙ sym (span_some c (lo + 1) hi (omega arith)))
        (ih (lo + 1) hi o (omega arith) (omega arith) l r (λ k a b. blank k (omega arith) b))
    fills_step f go kept ih false Paired lo hi o m h l r blank q (Why.both y v) =
        let s : 2 ≤ hi - lo = ltb-false _ _ q in
        let z : hi - 1 + 1 ≡ hi = omega arith in
        let u : List ℕ = joined o lo (hi - 1) in
        let e = joined_long o lo (hi - 1) in
        let x = kept (lo + 1) (hi - 1) u in
        let inner = ih (lo + 1) (hi - 1) u (omega arith) (omega arith) (omega arith) (omega arith)
        (λ k a b. joined_other o lo (hi - 1) k (omega arith) (omega arith) ∙ blank k (omega arith) (omega arith)) in
        rw z at
        (filled_both _ c (view (go (lo + 1) (hi - 1) u)) lo (hi - 1) (omega arith) (omega arith)
        (x.below lo (omega arith) ∙ joined_first o lo (hi - 1) (omega arith) (omega arith))
        (x.above (hi - 1) (omega arith) ∙ joined_last o lo (hi - 1) (omega arith)) y
        (rw z (span_some c lo hi (omega arith) ∙ v)) inner)
    fills_step f go kept ih false (Split k) lo hi o m h l r blank q (Why.split _ a b v) =
        let z : k + 1 - 1 ≡ k = omega arith in
        let left = kept lo (k + 1) o in
        let right = kept (k + 1) hi (go lo (k + 1) o) in
        let e = left.long in
        filled_split _ c (view (go (k + 1) hi (go lo (k + 1) o))) lo (k + 1) hi (omega arith) (omega arith)
        (omega (arith, v, span_some c lo hi (omega arith), span_some c lo (k + 1) (omega arith), span_some c (k + 1) hi (omega arith), ap (c lo) z))
        (filled_moved _ c (view (go lo (k + 1) o)) _ lo (k + 1) (omega arith) (λ x u s. right.below x s)
        (ih lo (k + 1) o (omega arith) (omega arith) (omega arith) (omega arith) (λ x u s. blank x u (omega arith))))
        (ih (k + 1) hi (go lo (k + 1) o) (omega arith) (omega arith) l (omega arith) (λ x u s. left.above x u ∙ blank x (omega arith) s))
    fills_step f go kept ih false LastUnpaired lo hi o m h l r blank q y =
        let s : 2 ≤ hi - lo = ltb-false _ _ q in
        absurd (last_never lo (hi - 1) (omega arith) (omega arith) y)

    fills : (f : ℕ) → Fills f (trace_of f c p)
    unfolding trace_of
    fills zero lo hi o m h l r blank = fills_short o lo hi h l (omega arith) blank
    fills (suc f) lo hi o m h l r blank =
        fills_step f (trace_of f c p) (trace_kept c p f) (fills f) (ltb (hi - lo) 2) (choice c p lo (hi - 1)) lo hi o m h l r blank refl
        (why c p lo (hi - 1))

-- j unpaired is never taken
pub never_last :
    (gap n : ℕ) (b : Bases) (c : Cells ℕ) → Right (nussinov gap) b c n → (i j : ℕ) → i < j → j < n →
    choice c (may_pair b gap) i j ≢ LastUnpaired
never_last gap n b c r i j h l e =
    last_never (may_pair b gap) n c (right_ruled gap n b c r) i j h l
    (subst (λ (x : Choice). Why c (may_pair b gap) i j x) e (why c (may_pair b gap) i j))

module _ (b t : List ℕ) (gap n : ℕ) (o : List ℕ) (h : 0 < n) (l : n < 65535) (room : n ≤ length o)
    (r : Right (nussinov gap) (view b) (at (view t)) n) where
  traced_filled : Filled (May (view b) gap) (at (view t)) (view (traced_of b t gap n o)) 0 n
  unfolding traced_of
  traced_filled =
      let e = cleared_long n o room in
      fills (may_pair (view b) gap) n (at (view t)) (right_ruled gap n (view b) (at (view t)) r) l n 0 n (cleared n o) (omega arith) (omega arith)
      (omega arith) (omega arith) (λ k h. cleared_below n o k)

  -- the structure is allowed
  pub traced_allowed : Allowed (May (view b) gap) (view (traced_of b t gap n o)) 0 n
  traced_allowed = traced_filled.allowed

  -- and has as many pairs as the last cell says
  pub traced_count : opened (view (traced_of b t gap n o)) n ≡ at (view t) 0 (n - 1)
  traced_count = traced_filled.count ∙ omega (arith, span_some (at (view t)) 0 n h)
