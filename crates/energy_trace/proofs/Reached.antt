-- On right tables each traceback leaves a structure of its cell's kind that costs what the cell says: the whole one, a candidate of least energy.
-- Assumes nothing.
use mathlib.Core.Path.{◌≡◌, sym, ap, ◌∙◌, subst}
use mathlib.Core.Logic.{◌≢◌, by_cases}
use mathlib.Core.Bool.{true, false, true≢false, false≢true}
use mathlib.Core.List.{List}
use Prim.Native.Nat.{ℕ, zero, suc, ◌+◌, ◌-◌, ◌<◌, ◌≤◌, min}
use native.Mathlib.Omega.{arith}
use native.Mathlib.Decide.{ℕ_discrete}
use native.Mathlib.Numerals.{add-one}
use borrow.Author.Tests.{lt-ltb, le-ltb}
use lib.IntN.{ℤ, pos, ◌+ℤ◌}
use lib.Signed.{le_z, lt_z, ◌<ℤ◌}
use lib.ListN.{length}
use Rattle.structure.specs.Table.{unpaired, view}
use Rattle.tables.specs.Writing.{cleared, joined, Blank}
use Rattle.tables.proofs.Written.{cleared_long, cleared_below, joined_long}
use Rattle.std.proofs.Common.{Option, None, Some}
use Rattle.searches.proofs.First.{Sought, hit, miss, sought}
use Rattle.cells.specs.Rule.{Bases, Right}
use Rattle.cells.specs.Fill.{at}
use Rattle.ints.specs.Ints.{mark, add_e}
use Rattle.ints.proofs.Ints.{ints, either, le_yes, le_no, lt_no}
use Rattle.ints.proofs.Minima.{add_some, add_real}
use Rattle.figures.specs.Figures.{longest_side}
use Rattle.figures.proofs.Charges.{figure_low}
use Rattle.closing.specs.Closing.{may_close, own, hairpin_at}
use Rattle.closing.proofs.Closing.{own_in}
use Rattle.charges.specs.Loops.{Candidate}
use Rattle.energy_rule.specs.Rule.{Table, closing_charge, arm_charge, inner_at, lowest, energies}
use Rattle.energy_rule.specs.Meaning.{energy_in}
use Rattle.energy_rule.specs.Memory.{table, three}
use Rattle.energy_rule.specs.Filled.{AnyFilled, ArmsFilled, PairFilled}
use Rattle.energy_rule.proofs.Parts.{lowest_is, may_far, Cut, Inner, inner_none, inner_some}
use Rattle.energy_rule.proofs.Laws.{Ruled, right_ruled, real_may, v_real, v_step, hairpins, inners, branches, m_step, helix, m_skip, m_last, m_split, w_most, w_step, bare, pairs, w_skip, w_last, w_split}
use Rattle.energy_rule.proofs.Steps.{any_bare, any_skip, any_last, any_pair, any_split, arms_skip, arms_last, arms_helix, arms_split, blank_joined, pair_hairpin, pair_inner, pair_arms}
use Rattle.energy_rule.proofs.Built.{any_exact}
use Rattle.energy_reach.specs.Reach.{same, split_at, reaches}
use Rattle.energy_search.specs.Search.{Places, splitting, inner_row, inside}
use Rattle.energy_search.proofs.Searching.{Scanned, hits, misses, scanned}
use Rattle.energy_trace.specs.Choosing.{or_split, shorter, any_move, arms_move, or_arms, closed_move, move_of}
use Rattle.energy_trace.specs.Trace.{act, trace_of, traced_of}
use Rattle.energy_trace.specs.declared.choice.Job.{Job}
use Rattle.energy_trace.specs.declared.choice.Job.TheVariants.{Any, Arms, Closed}
use Rattle.energy_trace.specs.declared.choice.Move.{Move}
use Rattle.energy_trace.specs.declared.choice.Move.TheVariants.{Stop, Go, Close, Twice}

-- ---- tests
pub same_yes : (a b : ℤ) → same a b ≡ true → a ≡ b
unfolding same
same_yes a b e = either (le_z a b)
    (λ p. either (le_z b a) (λ q. let s = le_yes a b p in let t = le_yes b a q in omega ints) (λ q. absurd (false≢true (rw (p, q) at e))))
    (λ p. absurd (false≢true (rw p at e)))

same_no : (a b : ℤ) → same a b ≡ false → a ≢ b
unfolding same
same_no a b e r = either (le_z a b)
    (λ p. either (le_z b a) (λ q. true≢false (rw (p, q) at e)) (λ q. let s = le_no b a q in absurd (omega ints)))
    (λ p. let s = le_no a b p in absurd (omega ints))

under : (z : ℤ) → z <ℤ mark → lt_z z mark ≡ true
under z p = either (lt_z z mark) (λ e. e) (λ e. let s = lt_no z mark e in absurd (omega ints))

-- ---- a span of any structure or of arms, made shorter: c is its table
data Shorter (job : Job) (c : Table) (i j : ℕ) : Move → Type 0 where
  s_left : c i j ≡ c (suc i) j → Shorter job c i j (Go job (i + 1) (suc j))
  s_right : c i j ≡ c i (j - 1) → Shorter job c i j (Go job i j)
  s_split : (k : Cut c i j (c i j)) → Shorter job c i j (Twice job i (k.at + 1) (suc j))

-- a split that reaches the cell is a sum, and no such sum is where none reaches it
module _ (c : Table) (i j : ℕ) where
  split_yes : (job : Job) (k : ℕ) → i < k → k < j → c i j <ℤ mark → split_at c i j k ≡ true → Shorter job c i j (Twice job i (k + 1) (suc j))
  unfolding split_at
  split_yes job k a d p e =
      let q = same_yes (add_e (c i k) (c (k + 1) j)) (c i j) e in
      let s = add_real (c i k) (c (k + 1) j) (omega ints) in
      let t = s.right in
      s_split (record {
        at = k;
        from = a;
        to = d;
        left = s.left;
        right = rw (add-one k) at t;
        value = sym q ∙ s.value ∙ ap (λ x. c i k +ℤ c x j) (add-one k);
      })

  split_no : (k : Cut c i j (c i j)) → split_at c i j k.at ≡ false → ⊥
  unfolding split_at
  split_no k e =
      let x = k.at in
      same_no (add_e (c i x) (c (x + 1) j)) (c i j) e
      (ap (λ y. add_e (c i x) (c y j)) (add-one x) ∙ add_some (c i x) (c (suc x) j) k.left k.right ∙ sym k.value)

  cut_taken : (job : Job) → c i j <ℤ mark → ((Cut c i j (c i j) → ⊥) → ⊥) → (z : Option ℕ) → Sought (split_at c i j) (i + 1) (j - (i + 1)) z
      → Shorter job c i j (or_split job i (suc j) z)
  cut_taken job p must (Some k) (hit a d e) = split_yes job k (omega arith) (omega arith) p e
  cut_taken job p must None (miss f) =
      absurd (must (λ k. let a = k.from in let d = k.to in split_no k (f k.at (omega arith) (omega arith))))

  -- where one of the three must reach the cell, the first that does is taken
  shorter_taken : (job : Job) → i < j → c i j <ℤ mark → (c i j ≢ c (suc i) j → c i j ≢ c i (j - 1) → (Cut c i j (c i j) → ⊥) → ⊥)
      → Shorter job c i j (shorter job c i (suc j))
  unfolding shorter splitting
  shorter_taken job l p must =
      let q : suc j - 1 ≡ j = omega arith in
      let t : same (c (i + 1) j) (c i j) ≡ same (c (suc i) j) (c i j) = ap (λ x. same (c x j) (c i j)) (add-one i) in
      rw (q, t)
      (either (same (c (suc i) j) (c i j))
      (λ e. rw e (s_left (sym (same_yes (c (suc i) j) (c i j) e))))
      (λ e₀. either (same (c i (j - 1)) (c i j))
      (λ e. rw (e₀, e) (s_right (sym (same_yes (c i (j - 1)) (c i j) e))))
      (λ e₁. rw (e₀, e₁)
      (cut_taken job p (must (λ k. same_no _ _ e₀ (sym k)) (λ k. same_no _ _ e₁ (sym k))) _ (sought (split_at c i j) (j - (i + 1)) (i + 1))))))

module _ (b : Bases) (n : ℕ) (v w m : Table) (r : Ruled b n v w m) where
  -- ---- what each move tells
  -- any structure from i to j
  data AnyTaken (i j : ℕ) : Move → Type 0 where
    a_stop : w i j ≡ pos 0 → AnyTaken i j Stop
    a_close : may_close b i j ≡ true → w i j ≡ v i j → AnyTaken i j (Close i j)
    a_shorter : {mv : Move} → Shorter Any w i j mv → AnyTaken i j mv

  any_taken : (i j : ℕ) → i < j → j < n → AnyTaken i j (any_move v w i (suc j))
  unfolding any_move
  any_taken i j l h =
      let q : suc j - 1 ≡ j = omega arith in
      let u = w_most b n v w m r i j (omega arith) h in
      rw (lt-ltb (i + 1) (suc j) (omega arith), q)
      (either (same (w i j) (pos 0))
      (λ e. rw e (a_stop (same_yes (w i j) (pos 0) e)))
      (λ e₀. either (same (v i j) (w i j))
      (λ e. let d = same_yes (v i j) (w i j) e in rw (e₀, e) (a_close (real_may b n v w m r i j (omega arith) h (omega ints)) (sym d)))
      (λ e₁. rw (e₀, e₁)
      (a_shorter (shorter_taken w i j Any l (omega ints) (λ s t k. elim (w_step b n v w m r i j l h) [
        | bare x ↦ same_no _ _ e₀ x
        | pairs p x ↦ same_no _ _ e₁ (sym x)
        | w_skip x ↦ s x
        | w_last x ↦ t x
        | w_split x ↦ k x
      ]))))))

  -- one or more arms from i to j
  data ArmsTaken (i j : ℕ) : Move → Type 0 where
    m_close : may_close b i j ≡ true → m i j ≡ v i j +ℤ arm_charge → ArmsTaken i j (Close i j)
    m_shorter : {mv : Move} → Shorter Arms m i j mv → ArmsTaken i j mv

  arms_taken : (i j : ℕ) → i < j → j < n → m i j <ℤ mark → ArmsTaken i j (arms_move v m i (suc j))
  unfolding arms_move
  arms_taken i j l h p =
      let q : suc j - 1 ≡ j = omega arith in
      rw (lt-ltb (i + 1) (suc j) (omega arith), q, under (m i j) p)
      (either (same (add_e (v i j) arm_charge) (m i j))
      (λ e.
      let d = same_yes (add_e (v i j) arm_charge) (m i j) e in
      let s = add_real (v i j) arm_charge (omega ints) in
      rw e (m_close (real_may b n v w m r i j (omega arith) h s.left) (sym d ∙ s.value)))
      (λ e₀. rw e₀
      (m_shorter (shorter_taken m i j Arms l p (λ s t k. elim (m_step b n v w m r i j l h p) [
        | helix a x ↦ same_no _ _ e₀ (add_some (v i j) arm_charge a (omega ints) ∙ sym x)
        | m_skip x ↦ s x
        | m_last x ↦ t x
        | m_split x ↦ k x
      ])))))

  -- i and j paired
  data ClosedTaken (i j : ℕ) : Move → Type 0 where
    c_hairpin : v i j ≡ hairpin_at b i j → ClosedTaken i j Stop
    c_inner : (k : Inner b v i j (v i j)) → ClosedTaken i j (Close k.x k.y)
    c_arms : m (suc i) (j - 1) <ℤ mark → v i j ≡ m (suc i) (j - 1) +ℤ closing_charge → ClosedTaken i j (Go Arms (i + 1) j)

  -- an inner pair that reaches the cell is a sum, and no such sum is where none reaches it
  inner_yes : (i j x y : ℕ) → i < x → y < j → x - suc i ≤ longest_side → j - suc y ≤ longest_side → v i j <ℤ mark → reaches b v i j x y ≡ true
      → ClosedTaken i j (Close x y)
  unfolding reaches
  inner_yes i j x y a c s t p e =
      let q = same_yes (inner_at b v i j x y) (v i j) e in
      let g : may_close b x y ≡ true = either (may_close b x y) (λ g. g) (λ g. let k = inner_none b v i j x y g in absurd (omega ints)) in
      let d = inner_some b v i j x y g in
      let z = add_real (v x y) (own b i j x y) (omega ints) in
      c_inner
      (record { x = x; y = y; from = a; far = may_far b x y g; to = c; left = s; right = t; may = g; real = z.left; value = sym q ∙ d ∙ z.value })

  inner_no : (i j : ℕ) (k : Inner b v i j (v i j)) → reaches b v i j k.x k.y ≡ false → ⊥
  unfolding reaches
  inner_no i j k e =
      let o = own_in b i j k.x k.y in
      same_no (inner_at b v i j k.x k.y) (v i j) e
      (inner_some b v i j k.x k.y k.may
      ∙ add_some (v k.x k.y) (own b i j k.x k.y) k.real (omega (ints, figure_low))
      ∙ sym k.value)

  -- the search along a row
  abbrev Row : ℕ → ℕ → ℕ → Option ℕ → Type 0
  Row i j x = Sought (reaches b v i j x) (lowest j x) (j - lowest j x)

  row_sought : (i j x : ℕ) {f : Option ℕ} → inner_row b v i j x ≡ f → Row i j x f
  unfolding inner_row
  row_sought i j x e = subst (Row i j x) e (sought (reaches b v i j x) (j - lowest j x) (lowest j x))

  row_yes : (i j x y : ℕ) → i < x → x - suc i ≤ longest_side → v i j <ℤ mark → Row i j x (Some y) → ClosedTaken i j (Close x y)
  row_yes i j x y a s p (hit c d e) = let u = lowest_is j x in inner_yes i j x y a (omega arith) s (omega arith) p e

  row_no : (i j : ℕ) (k : Inner b v i j (v i j)) → Row i j k.x None → ⊥
  row_no i j k (miss f) =
      let u = lowest_is j k.x in
      let a = k.far in
      let c = k.to in
      let d = k.right in
      inner_no i j k (f k.y (omega arith) (omega arith))

  arms_or : (i j : ℕ) → v i j <ℤ mark → ((Inner b v i j (v i j) → ⊥) → (v i j ≡ add_e (m (suc i) (j - 1)) closing_charge)) → (z : Option Places)
      → Scanned (inner_row b v i j) (i + 1) (min (suc longest_side) (j - (i + 1))) z → ClosedTaken i j (or_arms v m i j z)
  arms_or i j p must (Some (x, y)) (hits a c d) = row_yes i j x y (omega arith) (omega arith) p (row_sought i j x d)
  arms_or i j p must None (misses f) =
      let k : add_e (m (i + 1) (j - 1)) closing_charge ≡ add_e (m (suc i) (j - 1)) closing_charge = ap (λ x. add_e (m x (j - 1)) closing_charge) (add-one i) in
      let e = must (λ q.
      let a = q.from in
      let c = q.far in
      let d = q.to in
      let s = q.left in
      row_no i j q (row_sought i j q.x (f q.x (omega arith) (omega arith)))) in
      let s = add_real (m (suc i) (j - 1)) closing_charge (omega ints) in
      either (same (add_e (m (i + 1) (j - 1)) closing_charge) (v i j))
      (λ t. rw t (c_arms s.left (e ∙ s.value)))
      (λ t. absurd (same_no _ _ t (k ∙ sym e)))

  closed_taken : (i j : ℕ) → j < n → may_close b i j ≡ true → ClosedTaken i j (closed_move b v m i j)
  unfolding closed_move inside
  closed_taken i j h g =
      let far = may_far b i j g in
      let p = v_real b n v w m r i j h g in
      rw (g, under (v i j) p)
      (either (same (hairpin_at b i j) (v i j))
      (λ e. rw e (c_hairpin (sym (same_yes (hairpin_at b i j) (v i j) e))))
      (λ e₀. either (reaches b v i j (i + 1) (j - 1))
      (λ e. rw (e₀, e) (inner_yes i j (i + 1) (j - 1) (omega arith) (omega arith) (omega arith) (omega arith) p e))
      (λ e₁. rw (e₀, e₁)
      (arms_or i j p (λ k. elim (v_step b n v w m r i j h g) [
        | hairpins q ↦ absurd (same_no _ _ e₀ (sym q))
        | inners q ↦ absurd (k q)
        | branches a q ↦ q ∙ sym (add_some (m (suc i) (j - 1)) closing_charge a (omega ints))
      ]) _ (scanned (inner_row b v i j) (min (suc longest_side) (j - (i + 1))) (i + 1))))))

  -- ---- what each traceback leaves in a blank span, f calls deep
  module _ (short : n ≤ unpaired) where
    record Traces (f : ℕ) (go : Job → ℕ → ℕ → List ℕ → List ℕ) : Type 0 where
      pub of_any : (i j : ℕ) → i ≤ j → j < n → suc j < i + f → (t : List ℕ) → n ≤ length t → Blank t i (suc j)
          → AnyFilled b t (go Any i (suc j) t) i (suc j) (w i j)
      pub of_arms : (i j : ℕ) → i ≤ j → j < n → suc j < i + f → m i j <ℤ mark → (t : List ℕ) → n ≤ length t → Blank t i (suc j)
          → ArmsFilled b t (go Arms i (suc j) t) i (suc j) (m i j)
      pub of_closed : (i j : ℕ) → i < j → j < n → j < i + f → may_close b i j ≡ true → (t : List ℕ) → n ≤ length t → Blank t i (suc j)
          → PairFilled b t (go Closed i j (joined t i j)) i j (v i j)

    module _ (f : ℕ) (go : Job → ℕ → ℕ → List ℕ → List ℕ) (ih : Traces f go) (i j : ℕ) (l : i < j) (h : j < n) (t : List ℕ) (e : n ≤ length t)
        (z : Blank t i (suc j)) where
      any_acts : suc j < i + suc f → {mv : Move} → AnyTaken i j mv → AnyFilled b t (act go mv t) i (suc j) (w i j)
      any_acts o (a_stop q) = any_bare b t i (suc j) (w i j) (omega arith) (omega arith) z q
      any_acts o (a_close g q) = any_pair b (ih.of_closed i j l h (omega arith) g t e z) q
      any_acts o (a_shorter (s_left q)) =
          rw (add-one i) (any_skip b (ih.of_any (suc i) j l h (omega arith) t e (λ k u. z k (omega arith))) (omega arith) (z i (omega arith) (omega arith)) q)
      any_acts o (a_shorter (s_right q)) =
          let g : suc (j - 1) ≡ j = omega arith in
          let x = ih.of_any i (j - 1) (omega arith) (omega arith) (omega arith) t e (λ k u s. z k u (omega arith)) in
          any_last b (subst (λ (y : ℕ). AnyFilled b t (go Any i y t) i y (w i (j - 1))) g x) (omega arith) (omega arith) (z j (omega arith) (omega arith)) q
      any_acts o (a_shorter (s_split k)) =
          let a = k.from in
          let c = k.to in
          let x = ih.of_any i k.at (omega arith) (omega arith) (omega arith) t e (λ y u s. z y u (omega arith)) in
          let y = ih.of_any (suc k.at) j (omega arith) h (omega arith) (go Any i (suc k.at) t) (omega (arith, x.placed.long))
          (λ y u s. x.placed.above y u ∙ z y (omega arith) s) in
          rw (add-one k.at) (any_split b x y (omega arith) (omega arith) k.value)

      arms_acts : suc j < i + suc f → m i j <ℤ mark → {mv : Move} → ArmsTaken i j mv → ArmsFilled b t (act go mv t) i (suc j) (m i j)
      arms_acts o p (m_close g q) = arms_helix b (ih.of_closed i j l h (omega arith) g t e z) l (omega arith) q
      arms_acts o p (m_shorter (s_left q)) =
          rw (add-one i) (arms_skip b (ih.of_arms (suc i) j l h (omega arith) (omega ints) t e (λ k u. z k (omega arith))) (omega arith) (z i (omega arith) (omega arith)) q)
      arms_acts o p (m_shorter (s_right q)) =
          let g : suc (j - 1) ≡ j = omega arith in
          let x = ih.of_arms i (j - 1) (omega arith) (omega arith) (omega arith) (omega ints) t e (λ k u s. z k u (omega arith)) in
          arms_last b (subst (λ (y : ℕ). ArmsFilled b t (go Arms i y t) i y (m i (j - 1))) g x) (omega arith) (omega arith) (z j (omega arith) (omega arith)) q
      arms_acts o p (m_shorter (s_split k)) =
          let a = k.from in
          let c = k.to in
          let x = ih.of_arms i k.at (omega arith) (omega arith) (omega arith) k.left t e (λ y u s. z y u (omega arith)) in
          let y = ih.of_arms (suc k.at) j (omega arith) h (omega arith) k.right (go Arms i (suc k.at) t) (omega (arith, x.placed.long))
          (λ y u s. x.placed.above y u ∙ z y (omega arith) s) in
          rw (add-one k.at) (arms_split b x y (omega arith) (omega arith) k.value)

      closed_acts : j < i + suc f → may_close b i j ≡ true → {mv : Move} → ClosedTaken i j mv → PairFilled b t (act go mv (joined t i j)) i j (v i j)
      closed_acts o g (c_hairpin q) = pair_hairpin b t i j (v i j) l (omega arith) (omega arith) g (λ k u s. z k (omega arith) (omega arith)) q
      closed_acts o g (c_inner k) =
          let lj : n ≤ length (joined t i j) = omega (arith, joined_long t i j) in
          let a = k.from in
          let c = k.far in
          let d = k.to in
          let p = ih.of_closed k.x k.y (omega arith) (omega arith) (omega arith) k.may (joined t i j) lj
          (blank_joined t i j k.x (suc k.y) a d (λ y u s. z y (omega arith) (omega arith))) in
          pair_inner b p a (omega arith) d (omega arith) (omega arith) g (λ y u s. z y (omega arith) (omega arith)) (λ y u s. z y (omega arith) (omega arith))
          k.left k.right k.value
      closed_acts o g (c_arms p q) =
          let lj : n ≤ length (joined t i j) = omega (arith, joined_long t i j) in
          let far = may_far b i j g in
          let k : suc (j - 1) ≡ j = omega arith in
          let x = ih.of_arms (suc i) (j - 1) (omega arith) (omega arith) (omega arith) p (joined t i j) lj
          (blank_joined t i j (suc i) (suc (j - 1)) (omega arith) (omega arith) (λ y u s. z y (omega arith) (omega arith))) in
          let y = subst (λ (u : ℕ). ArmsFilled b (joined t i j) (go Arms (suc i) u (joined t i j)) (suc i) u (m (suc i) (j - 1))) k x in
          rw (add-one i) (pair_arms b y l (omega arith) (omega arith) g q)

    any_single : (i : ℕ) → any_move v w i (suc i) ≡ Stop
    unfolding any_move
    any_single i = rw (le-ltb (i + 1) (suc i) (omega arith))

    traces : (f : ℕ) → Traces f (trace_of f (move_of b v w m))
    unfolding trace_of move_of
    traces zero = record {
      of_any = λ i j l h o. absurd (omega arith);
      of_arms = λ i j l h o. absurd (omega arith);
      of_closed = λ i j l h o. absurd (omega arith);
    }
    traces (suc f) =
        let go = trace_of f (move_of b v w m) in
        record {
          of_any = λ i j l h o t e z. by_cases (ℕ_discrete i j)
              (λ s.
              rw (← s)
              (rw (any_single i) (any_bare b t i (suc i) (w i i) (omega arith) (omega arith) (λ k u q. z k u (omega arith)) (r.w_one i (omega arith)))))
              (λ ne. any_acts f go (traces f) i j (omega arith) h t e z o (any_taken i j (omega arith) h));
          of_arms = λ i j l h o p t e z. by_cases (ℕ_discrete i j)
              (λ s. let d : m i j ≡ mark = ap (m i) (sym s) ∙ r.m_one i (omega arith) in absurd (omega ints))
              (λ ne. arms_acts f go (traces f) i j (omega arith) h t e z o p (arms_taken i j (omega arith) h p));
          of_closed = λ i j l h o g t e z. closed_acts f go (traces f) i j l h t e z o g (closed_taken i j h g);
        }

-- ---- the traceback of the whole
module _ (b : List ℕ) (v w m : List ℤ) (n : ℕ) (o : List ℕ) (some : 0 < n) (short : n ≤ unpaired) (room : n ≤ length o)
    (right : Right energies (view b) (at (three v w m)) n) where
  traced_filled : AnyFilled (view b) (cleared n o) (traced_of b v w m n o) 0 n (table w 0 (n - 1))
  unfolding traced_of
  traced_filled =
      let e : suc (n - 1) ≡ n = omega arith in
      let r = right_ruled (view b) (at (three v w m)) n right in
      let x = (traces (view b) n (table v) (table w) (table m) r short (suc n)).of_any 0 (n - 1) (omega arith) (omega arith) (omega arith) (cleared n o)
      (omega (arith, cleared_long n o room)) (λ k a c. cleared_below n o k (omega arith)) in
      let go = trace_of (suc n) (move_of (view b) (table v) (table w) (table m)) in
      subst (λ (y : ℕ). AnyFilled (view b) (cleared n o) (go Any 0 y (cleared n o)) 0 y (table w 0 (n - 1))) e x

  -- the structure is a candidate
  pub traced_candidate : Candidate (view b) (view (traced_of b v w m n o)) 0 n
  traced_candidate = traced_filled.placed.fits

  -- and costs what the last cell of any structure says
  pub traced_energy : energy_in (view b) (view (traced_of b v w m n o)) 0 n ≡ table w 0 (n - 1)
  traced_energy =
      let e : suc (n - 1) ≡ n = omega arith in
      let r = right_ruled (view b) (at (three v w m)) n right in
      let t = traced_of b v w m n o in
      let x = subst (λ (y : ℕ). AnyFilled (view b) (cleared n o) t 0 y (table w 0 (n - 1))) (sym e) traced_filled in
      subst (λ (y : ℕ). energy_in (view b) (view t) 0 y ≡ table w 0 (n - 1)) e
      (any_exact (view b) n (table v) (table w) (table m) r (cleared n o) t 0 (n - 1) (omega arith) (omega arith) x)
