-- The three tables of a right table, candidate by candidate: no cell is above any of its candidates, and a cell that isn't the mark is one of them.
use mathlib.Core.Path.{◌≡◌, sym, ap, ◌∙◌, subst}
use mathlib.Core.Logic.{◌⊎◌, inl, inr, ⊎_elim, by_cases}
use mathlib.Core.Bool.{true, false}
use Prim.Native.Nat.{ℕ, zero, suc, ◌+◌, ◌-◌, ◌<◌, ◌≤◌}
use native.Mathlib.Omega.{arith}
use native.Mathlib.Decide.{ℕ_discrete}
use native.Mathlib.Numerals.{add-one}
use lib.IntN.{ℤ, pos, ◌+ℤ◌}
use lib.Signed.{◌≤ℤ◌, ◌<ℤ◌}
use Rattle.cells.specs.Rule.{Bases, Cells, Right}
use Rattle.ints.specs.Ints.{mark, add_e, minℤ}
use Rattle.ints.proofs.Ints.{ints, either}
use Rattle.ints.proofs.Minima.{min_le_l, min_le_r, min_one, add_some, add_real}
use Rattle.figures.specs.Figures.{longest_side}
use Rattle.figures.specs.Charge.{figure_most}
use Rattle.figures.proofs.Charges.{figure_low}
use Rattle.closing.specs.Closing.{may_close, own, hairpin_at}
use Rattle.closing.proofs.Closing.{hairpin_at_in}
use Rattle.energy_rule.specs.Rule.{Table, Cell, closing_charge, arm_charge, interior, paired, splits, any, armed, energies, paired_of, any_of, arms_of}
use Rattle.energy_rule.proofs.Parts.{may_far, split_le, Cut, split_real, interior_le, Inner, interior_real}
use Rattle.energy_rule.proofs.Ruling.{closed, energies_one, energies_more, paired_none}

-- three tables that obey the rules on n bases
pub record Ruled (b : Bases) (n : ℕ) (v w m : Table) : Type 0 where
  pub v_one : (i : ℕ) → i < n → v i i ≡ mark
  pub w_one : (i : ℕ) → i < n → w i i ≡ pos 0
  pub m_one : (i : ℕ) → i < n → m i i ≡ mark
  pub v_is : (i j : ℕ) → i < j → j < n → v i j ≡ paired b v m i j
  pub w_is : (i j : ℕ) → i < j → j < n → w i j ≡ any (v i j) w i j
  pub m_is : (i j : ℕ) → i < j → j < n → m i j ≡ armed (v i j) m i j

pub right_ruled : (b : Bases) (c : Cells Cell) (n : ℕ) → Right energies b c n → Ruled b n (paired_of c) (any_of c) (arms_of c)
right_ruled b c n r =
    let one : (i : ℕ) → i < n → c i i ≡ (mark, pos 0, mark) = λ i h. r i i (omega arith) h ∙ energies_one b c i in
    let is : (i j : ℕ) → i < j → j < n → c i j ≡ (closed b c i j, any (closed b c i j) (any_of c) i j, armed (closed b c i j) (arms_of c) i j)
    = λ i j l h. r i j (omega arith) h ∙ energies_more b c i j l in
    let v : (i j : ℕ) → i < j → j < n → paired_of c i j ≡ closed b c i j = λ i j l h. ap (λ (x : Cell). x.0) (is i j l h) in
    record {
      v_one = λ i h. ap (λ (x : Cell). x.0) (one i h);
      w_one = λ i h. ap (λ (x : Cell). x.1) (one i h);
      m_one = λ i h. ap (λ (x : Cell). x.2) (one i h);
      v_is = v;
      w_is = λ i j l h. ap (λ (x : Cell). x.1) (is i j l h) ∙ ap (λ z. any z (any_of c) i j) (sym (v i j l h));
      m_is = λ i j l h. ap (λ (x : Cell). x.2) (is i j l h) ∙ ap (λ z. armed z (arms_of c) i j) (sym (v i j l h));
    }

-- the least of four, as both rules nest them
min4 : (a b c d : ℤ) → let z = minℤ (minℤ a (minℤ b c)) d in (z ≡ a) ⊎ ((z ≡ b) ⊎ ((z ≡ c) ⊎ (z ≡ d)))
min4 a b c d =
    ⊎_elim
    (λ e. ⊎_elim (λ f. inl (e ∙ f))
    (λ f. ⊎_elim (λ g. inr (inl (e ∙ f ∙ g))) (λ g. inr (inr (inl (e ∙ f ∙ g)))) (min_one b c))
    (min_one a (minℤ b c)))
    (λ e. inr (inr (inr e)))
    (min_one (minℤ a (minℤ b c)) d)

min4_le : (a b c d : ℤ) → let z = minℤ (minℤ a (minℤ b c)) d in (z ≤ℤ a) × (z ≤ℤ b) × (z ≤ℤ c) × (z ≤ℤ d)
min4_le a b c d =
    let x = min_le_l (minℤ a (minℤ b c)) d in
    let y = min_le_r a (minℤ b c) in
    (omega (ints, min_le_l a (minℤ b c)), omega (ints, min_le_l b c), omega (ints, min_le_r b c), min_le_r (minℤ a (minℤ b c)) d)

module _ (b : Bases) (n : ℕ) (v w m : Table) (r : Ruled b n v w m) where
  -- ---- i and j paired
  pub v_none : (i j : ℕ) → i ≤ j → j < n → may_close b i j ≡ false → v i j ≡ mark
  v_none i j l h e =
      by_cases (ℕ_discrete i j) (λ q. rw (← q) (r.v_one i (omega arith))) (λ ne. r.v_is i j (omega arith) h ∙ paired_none b v m i j e)

  pub real_may : (i j : ℕ) → i ≤ j → j < n → v i j <ℤ mark → may_close b i j ≡ true
  real_may i j l h p = either (may_close b i j) (λ e. e) (λ e. let q = v_none i j l h e in absurd (omega ints))

  module _ (i j : ℕ) (h : j < n) (e : may_close b i j ≡ true) where
    v_parts : v i j ≡ minℤ (minℤ (hairpin_at b i j) (interior b v i j)) (add_e (m (suc i) (j - 1)) closing_charge)
    unfolding paired
    v_parts = let d = may_far b i j e in r.v_is i j (omega arith) h ∙ rw (e, add-one i)

    pub v_hairpin : v i j ≤ℤ hairpin_at b i j
    v_hairpin =
        let q = v_parts in
        let s = hairpin_at b i j in
        let t = interior b v i j in
        omega (ints, min_le_l (minℤ s t) (add_e (m (suc i) (j - 1)) closing_charge), min_le_l s t)

    pub v_most : v i j ≤ℤ pos figure_most
    v_most = omega (ints, v_hairpin, hairpin_at_in b i j)

    pub v_real : v i j <ℤ mark
    v_real = omega (ints, v_most, figure_low)

    pub v_inner : (x y : ℕ) → i < x → y < j → x - suc i ≤ longest_side → j - suc y ≤ longest_side → may_close b x y ≡ true → v x y <ℤ mark
        → v i j ≤ℤ (v x y +ℤ own b i j x y)
    v_inner x y o u s t f p =
        let q = v_parts in
        let g = hairpin_at b i j in
        let d = interior b v i j in
        omega (ints, min_le_l (minℤ g d) (add_e (m (suc i) (j - 1)) closing_charge), min_le_r g d, interior_le b v i j x y o u s t f p)

    pub v_arms : m (suc i) (j - 1) <ℤ mark → v i j ≤ℤ (m (suc i) (j - 1) +ℤ closing_charge)
    v_arms p =
        let q = v_parts in
        let k = m (suc i) (j - 1) in
        let s = add_some k closing_charge p (omega ints) in
        omega (ints, min_le_r (minℤ (hairpin_at b i j) (interior b v i j)) (add_e k closing_charge))

    -- the candidate that a paired cell reaches
    pub data Closes : Type 0 where
      hairpins : v i j ≡ hairpin_at b i j → Closes
      inners : Inner b v i j (v i j) → Closes
      branches : m (suc i) (j - 1) <ℤ mark → v i j ≡ m (suc i) (j - 1) +ℤ closing_charge → Closes

    pub v_step : Closes
    v_step =
        let q = v_parts in
        let u = v_real in
        let s = hairpin_at b i j in
        let t = interior b v i j in
        let k = m (suc i) (j - 1) in
        let a = add_e k closing_charge in
        ⊎_elim
        (λ o. ⊎_elim
        (λ e. hairpins (q ∙ o ∙ e))
        (λ e. let f : v i j ≡ t = q ∙ o ∙ e in inners (subst (Inner b v i j) (sym f) (interior_real b v i j (omega ints))))
        (min_one s t))
        (λ o. let f : v i j ≡ a = q ∙ o in let d = add_real k closing_charge (omega ints) in branches d.left (f ∙ d.value))
        (min_one (minℤ s t) a)

  -- ---- one or more arms
  module _ (i j : ℕ) (l : i < j) (h : j < n) where
    m_parts : m i j ≡ minℤ (minℤ (add_e (v i j) arm_charge) (minℤ (m (suc i) j) (m i (j - 1)))) (splits m i j)
    unfolding armed
    m_parts = r.m_is i j l h ∙ rw (add-one i)

    m_each : (m i j ≤ℤ add_e (v i j) arm_charge) × (m i j ≤ℤ m (suc i) j) × (m i j ≤ℤ m i (j - 1)) × (m i j ≤ℤ splits m i j)
    m_each = rw m_parts (min4_le (add_e (v i j) arm_charge) (m (suc i) j) (m i (j - 1)) (splits m i j))

    pub m_left : m i j ≤ℤ m (suc i) j
    m_left = m_each.1

    pub m_right : m i j ≤ℤ m i (j - 1)
    m_right = m_each.2

    pub m_helix : v i j <ℤ mark → m i j ≤ℤ (v i j +ℤ arm_charge)
    m_helix p = let s = add_some (v i j) arm_charge p (omega ints) in omega (ints, m_each.0)

    pub m_cut : (k : ℕ) → i < k → k < j → m i k <ℤ mark → m (suc k) j <ℤ mark → m i j ≤ℤ (m i k +ℤ m (suc k) j)
    m_cut k a d p q = omega (ints, m_each.3, split_le m i j k a d p q)

    -- the candidate that a cell of arms reaches
    pub data Arms : Type 0 where
      helix : v i j <ℤ mark → m i j ≡ v i j +ℤ arm_charge → Arms
      m_skip : m i j ≡ m (suc i) j → Arms
      m_last : m i j ≡ m i (j - 1) → Arms
      m_split : Cut m i j (m i j) → Arms

    pub m_step : m i j <ℤ mark → Arms
    m_step p =
        let e = m_parts in
        ⊎_elim
        (λ o. let q : m i j ≡ add_e (v i j) arm_charge = e ∙ o in let s = add_real (v i j) arm_charge (omega ints) in helix s.left (q ∙ s.value))
        (λ k. ⊎_elim (λ o. m_skip (e ∙ o))
        (λ k. ⊎_elim (λ o. m_last (e ∙ o))
        (λ o. let q : m i j ≡ splits m i j = e ∙ o in m_split (subst (Cut m i j) (sym q) (split_real m i j l (omega ints)))) k) k)
        (min4 (add_e (v i j) arm_charge) (m (suc i) j) (m i (j - 1)) (splits m i j))

  -- unpaired ends dropped
  pub m_rights : (f i k j : ℕ) → j ≤ k + f → i ≤ k → k ≤ j → j < n → m i j ≤ℤ m i k
  m_rights zero i k j o l u h = let e : j ≡ k = omega arith in rw e (omega ints)
  m_rights (suc f) i k j o l u h =
      by_cases (ℕ_discrete j k)
      (λ e. rw e (omega ints))
      (λ ne. omega (ints, m_right i j (omega arith) h, m_rights f i k (j - 1) (omega arith) l (omega arith) (omega arith)))

  -- ---- any structure
  module _ (i j : ℕ) (l : i < j) (h : j < n) where
    w_parts : w i j ≡ minℤ (minℤ (minℤ (pos 0) (v i j)) (minℤ (w (suc i) j) (w i (j - 1)))) (splits w i j)
    unfolding any
    w_parts = r.w_is i j l h ∙ rw (add-one i)

    w_each : (w i j ≤ℤ minℤ (pos 0) (v i j)) × (w i j ≤ℤ w (suc i) j) × (w i j ≤ℤ w i (j - 1)) × (w i j ≤ℤ splits w i j)
    w_each = rw w_parts (min4_le (minℤ (pos 0) (v i j)) (w (suc i) j) (w i (j - 1)) (splits w i j))

    pub w_pair : w i j ≤ℤ v i j
    w_pair = omega (ints, w_each.0, min_le_r (pos 0) (v i j))

    pub w_left : w i j ≤ℤ w (suc i) j
    w_left = w_each.1

  pub w_most : (i j : ℕ) → i ≤ j → j < n → w i j ≤ℤ pos 0
  w_most i j l h =
      by_cases (ℕ_discrete i j)
      (λ q. rw (← q) (let e = r.w_one i (omega arith) in omega ints))
      (λ ne. omega (ints, (w_each i j (omega arith) h).0, min_le_l (pos 0) (v i j)))

  module _ (i j : ℕ) (l : i < j) (h : j < n) where
    pub w_cut : (k : ℕ) → i < k → k < j → w i j ≤ℤ (w i k +ℤ w (suc k) j)
    w_cut k a d =
        let x = w_most i k (omega arith) (omega arith) in
        let y = w_most (suc k) j (omega arith) h in
        omega (ints, (w_each i j l h).3, split_le w i j k a d (omega ints) (omega ints))

    -- the candidate that a cell of any structure reaches
    pub data Any : Type 0 where
      bare : w i j ≡ pos 0 → Any
      pairs : v i j <ℤ mark → w i j ≡ v i j → Any
      w_skip : w i j ≡ w (suc i) j → Any
      w_last : w i j ≡ w i (j - 1) → Any
      w_split : Cut w i j (w i j) → Any

    pub w_step : Any
    w_step =
        let e = w_parts i j l h in
        let low = w_most i j (omega arith) h in
        ⊎_elim
        (λ o. ⊎_elim (λ k. bare (e ∙ o ∙ k)) (λ k. let q : w i j ≡ v i j = e ∙ o ∙ k in pairs (omega ints) q) (min_one (pos 0) (v i j)))
        (λ k. ⊎_elim (λ o. w_skip (e ∙ o))
        (λ k. ⊎_elim (λ o. w_last (e ∙ o))
        (λ o. let q : w i j ≡ splits w i j = e ∙ o in w_split (subst (Cut w i j) (sym q) (split_real w i j l (omega ints)))) k) k)
        (min4 (minℤ (pos 0) (v i j)) (w (suc i) j) (w i (j - 1)) (splits w i j))
