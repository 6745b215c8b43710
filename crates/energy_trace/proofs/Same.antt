-- The traceback depends on the first n bases and the cells of these alone. Assumes nothing.
use mathlib.Core.Path.{◌≡◌, refl, ap, ap₂, subst, ◌∙◌}
use mathlib.Core.Logic.{by_cases}
use mathlib.Core.Bool.{cond}
use mathlib.Core.List.{List}
use Prim.Native.Nat.{ℕ, zero, suc, ◌+◌, ◌-◌, ◌≤◌, ◌<◌, min}
use native.Mathlib.Decide.{dec_lt}
use native.Mathlib.Omega.{arith}
use borrow.Author.Tests.{lt-ltb, le-ltb}
use lib.IntN.{ℤ, pos}
use lib.ListN.{length}
use lib.Signed.{lt_z}
use Rattle.structure.specs.Table.{view}
use Rattle.tables.specs.Writing.{cleared}
use Rattle.tables.proofs.Agreeing.{Agree, agree_joined, agree_cleared}
use Rattle.std.proofs.Common.{Option, None, Some}
use Rattle.searches.proofs.First.{first_same}
use Rattle.cells.specs.Rule.{Bases, SameBases}
use Rattle.cells.specs.Fill.{at}
use Rattle.ints.specs.Ints.{mark, add_e}
use Rattle.ints.proofs.Ints.{either}
use Rattle.figures.specs.Figures.{longest_side}
use Rattle.closing.specs.Closing.{may_close}
use Rattle.energy_rule.specs.Rule.{Table, Cell, closing_charge, arm_charge, inner_at, lowest}
use Rattle.energy_rule.specs.Memory.{table, three}
use Rattle.energy_rule.proofs.Parts.{lowest_is, may_far}
use Rattle.energy_rule.proofs.Ruling.{may_local, own_local, hairpin_local}
use Rattle.energy_reach.specs.Reach.{same, split_at, reaches}
use Rattle.energy_search.specs.Search.{Places, or_else, first_row, splitting, inner_row, inside}
use Rattle.energy_trace.specs.Choosing.{or_split, shorter, any_move, arms_move, or_arms, closed_move, move_of}
use Rattle.energy_trace.specs.Trace.{act, trace_of, traced_of, Spot}
use Rattle.energy_trace.specs.declared.choice.Job.{Job}
use Rattle.energy_trace.specs.declared.choice.Job.TheVariants.{Any, Arms, Closed}
use Rattle.energy_trace.specs.declared.choice.Move.{Move}
use Rattle.energy_trace.specs.declared.choice.Move.TheVariants.{Stop, Go, Close, Twice}
use Rattle.energy_trace.proofs.Moving.{Falls, stops, goes, closes, parts, move_falls}

-- ---- searches
rows_same : (row row' : ℕ → Option ℕ) (m k : ℕ) → ((x : ℕ) → k ≤ x → x < k + m → row x ≡ row' x) → first_row row k m ≡ first_row row' k m
unfolding first_row
rows_same row row' zero k e = refl
rows_same row row' (suc m) k e =
    λ i. or_else k (e k (omega arith) (omega arith) i) (rows_same row row' m (k + 1) (λ x p q. e x (omega arith) (omega arith)) i)

-- ---- moves
-- two tables have the same cells on n bases
abbrev Alike : ℕ → Table → Table → Type 0
Alike n c c' = (i j : ℕ) → i ≤ j → j < n → c i j ≡ c' i j

module _ (n : ℕ) where
  shorter_same : (job : Job) (c c' : Table) → Alike n c c' → (lo hi : ℕ) → lo + 1 < hi → hi ≤ n → shorter job c lo hi ≡ shorter job c' lo hi
  unfolding shorter splitting split_at
  shorter_same job c c' e lo hi l h =
      let j = hi - 1 in
      let whole : c lo j ≡ c' lo j = e lo j (omega arith) (omega arith) in
      let split : splitting c lo j ≡ splitting c' lo j
      = first_same (split_at c lo j) (split_at c' lo j) (j - (lo + 1)) (lo + 1)
      (λ k p q. ap₂ same (ap₂ add_e (e lo k (omega arith) (omega arith)) (e (k + 1) j (omega arith) (omega arith))) whole) in
      λ x.
      cond (same (e (lo + 1) j (omega arith) (omega arith) x) (whole x)) (Go job (lo + 1) hi)
      (cond (same (e lo (j - 1) (omega arith) (omega arith) x) (whole x)) (Go job lo (hi - 1))
      (or_split job lo hi (split x)))

  module _ (b b' : Bases) (v v' w w' m m' : Table) (eb : (k : ℕ) → k < n → b k ≡ b' k) (ev : Alike n v v') (ew : Alike n w w') (em : Alike n m m') where
    any_same : (lo hi : ℕ) → hi ≤ n → any_move v w lo hi ≡ any_move v' w' lo hi
    unfolding any_move
    any_same lo hi h = by_cases (dec_lt (lo + 1) hi)
        (λ l.
        let j = hi - 1 in
        let whole : w lo j ≡ w' lo j = ew lo j (omega arith) (omega arith) in
        rw (lt-ltb (lo + 1) hi l)
        (λ x.
        cond (same (whole x) (pos 0)) Stop
        (cond (same (ev lo j (omega arith) (omega arith) x) (whole x)) (Close lo (hi - 1))
        (shorter_same Any w w' ew lo hi l h x))))
        (λ l. rw (le-ltb (lo + 1) hi (omega arith)))

    arms_same : (lo hi : ℕ) → hi ≤ n → arms_move v m lo hi ≡ arms_move v' m' lo hi
    unfolding arms_move
    arms_same lo hi h = by_cases (dec_lt (lo + 1) hi)
        (λ l.
        let j = hi - 1 in
        let whole : m lo j ≡ m' lo j = em lo j (omega arith) (omega arith) in
        rw (lt-ltb (lo + 1) hi l)
        (λ x.
        cond (lt_z (whole x) mark)
        (cond (same (add_e (ev lo j (omega arith) (omega arith) x) arm_charge) (whole x)) (Close lo (hi - 1))
        (shorter_same Arms m m' em lo hi l h x)) Stop))
        (λ l. rw (le-ltb (lo + 1) hi (omega arith)))

    module _ (i j : ℕ) (l : i < j) (h : j < n) where
      bases : SameBases b b' i j
      bases k p q = eb k (omega arith)

      inner_same : (x y : ℕ) → i ≤ x → x ≤ j → i ≤ y → y ≤ j → inner_at b v i j x y ≡ inner_at b' v' i j x y
      unfolding inner_at
      inner_same x y p q s t =
          let may = may_local b b' i j bases x y p q s t in
          either (may_close b x y)
          (λ e.
          let far = may_far b x y e in
          rw (← may, e, ev x y (omega arith) (omega arith), own_local b b' i j bases x y (omega arith) p q s t))
          (λ e. rw (← may, e))

      reaches_same : (x y : ℕ) → i ≤ x → x ≤ j → i ≤ y → y ≤ j → reaches b v i j x y ≡ reaches b' v' i j x y
      unfolding reaches
      reaches_same x y p q s t = ap₂ same (inner_same x y p q s t) (ev i j (omega arith) h)

      inside_same : inside b v i j ≡ inside b' v' i j
      unfolding inside inner_row
      inside_same =
          rows_same (inner_row b v i j) (inner_row b' v' i j) (min (suc longest_side) (j - (i + 1))) (i + 1)
          (λ x p q. let u = lowest_is j x in
          first_same (reaches b v i j x) (reaches b' v' i j x) (j - lowest j x) (lowest j x)
          (λ y s t. reaches_same x y (omega arith) (omega arith) (omega arith) (omega arith)))

      or_same : i + 1 < j → (z : Option Places) → or_arms v m i j z ≡ or_arms v' m' i j z
      or_same far (Some (x, y)) = refl
      or_same far None =
          λ x.
          cond (same (add_e (em (i + 1) (j - 1) (omega arith) (omega arith) x) closing_charge) (ev i j (omega arith) h x)) (Go Arms (i + 1) j) Stop

      closed_same : closed_move b v m i j ≡ closed_move b' v' m' i j
      unfolding closed_move
      closed_same =
          let may = may_local b b' i j bases i j (omega arith) (omega arith) (omega arith) (omega arith) in
          either (may_close b i j)
          (λ e.
          let far = may_far b i j e in
          let arms : or_arms v m i j (inside b v i j) ≡ or_arms v' m' i j (inside b' v' i j)
          = or_same (omega arith) (inside b v i j) ∙ (λ x. or_arms v' m' i j (inside_same x)) in
          rw (← may, e)
          (λ x.
          cond (lt_z (ev i j (omega arith) h x) mark)
          (cond (same (hairpin_local b b' i j bases l x) (ev i j (omega arith) h x)) Stop
          (cond (reaches_same (i + 1) (j - 1) (omega arith) (omega arith) (omega arith) (omega arith) x) (Close (i + 1) (j - 1))
          (arms x))) Stop))
          (λ e. rw (← may, e))

    move_same : (job : Job) (lo hi : ℕ) → Spot job lo hi n → move_of b v w m job lo hi ≡ move_of b' v' w' m' job lo hi
    unfolding move_of
    move_same Any lo hi s = any_same lo hi s.1
    move_same Arms lo hi s = arms_same lo hi s.1
    move_same Closed i j s = closed_same i j s.0 s.1

    -- ---- what they write
    act_same : (go go' : Job → ℕ → ℕ → List ℕ → List ℕ)
        → ((job : Job) (lo hi : ℕ) → Spot job lo hi n → (o o' : List ℕ) → Agree n o o' → Agree n (go job lo hi o) (go' job lo hi o'))
        → (lo hi : ℕ) (move : Move) → Falls n lo hi move → (o o' : List ℕ) → Agree n o o' → Agree n (act go move o) (act go' move o')
    act_same go go' ih lo hi Stop stops o o' a = a
    act_same go go' ih lo hi (Go job from to) (goes s h) o o' a = ih job from to s o o' a
    act_same go go' ih lo hi (Close i j) (closes h l s) o o' a = ih Closed i j (h, l) _ _ (agree_joined n o o' i j a)
    act_same go go' ih lo hi (Twice job from k to) (parts s u h l) o o' a = ih job k to u _ _ (ih job from k s o o' a)

    trace_same : (f : ℕ) (job : Job) (lo hi : ℕ) → Spot job lo hi n → (o o' : List ℕ) → Agree n o o'
        → Agree n (trace_of f (move_of b v w m) job lo hi o) (trace_of f (move_of b' v' w' m') job lo hi o')
    unfolding trace_of
    trace_same zero job lo hi s o o' a = a
    trace_same (suc f) job lo hi s o o' a =
        let go = trace_of f (move_of b v w m) in
        let go' = trace_of f (move_of b' v' w' m') in
        let move = move_of b v w m job lo hi in
        subst (λ (x : Move). Agree n (act go move o) (act go' x o')) (move_same job lo hi s)
        (act_same go go' (trace_same f) lo hi move (move_falls b v w m n lo hi job s) o o' a)

-- two tracebacks agree on the first n positions where their first n bases do, and the cells of these
pub traced_same : (b b' : List ℕ) (v v' w w' m m' : List ℤ) (n : ℕ) (o o' : List ℕ) → 0 < n → n ≤ length o → n ≤ length o'
    → ((k : ℕ) → k < n → view b k ≡ view b' k) → ((i j : ℕ) → i ≤ j → j < n → at (three v w m) i j ≡ at (three v' w' m') i j)
    → (k : ℕ) → k < n → view (traced_of b v w m n o) k ≡ view (traced_of b' v' w' m' n o') k
unfolding traced_of
traced_same b b' v v' w w' m m' n o o' some h h' eb e =
    (trace_same n (view b) (view b') (table v) (table v') (table w) (table w') (table m) (table m') eb (λ i j p q. ap (λ (x : Cell). x.0) (e i j p q))
    (λ i j p q. ap (λ (x : Cell). x.1) (e i j p q)) (λ i j p q. ap (λ (x : Cell). x.2) (e i j p q)) (suc n) Any 0 n (some, omega arith)
    (cleared n o) (cleared n o') (agree_cleared n o o' h h')).same
