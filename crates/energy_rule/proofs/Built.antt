-- Every cell of a right table is reached: from a blank span the steps build a structure of the cell's kind, and it costs exactly what the cell says.
use mathlib.Core.Path.{◌≡◌, sym, ap, ◌∙◌, subst}
use mathlib.Core.Logic.{by_cases}
use mathlib.Core.Bool.{true}
use mathlib.Core.List.{List}
use Prim.Native.Nat.{ℕ, zero, suc, ◌+◌, ◌-◌, ◌*◌, ◌<◌, ◌≤◌}
use native.Mathlib.Omega.{arith}
use native.Mathlib.Decide.{ℕ_discrete}
use lib.IntN.{pos}
use lib.Signed.{◌<ℤ◌}
use lib.ListN.{length, set, length-set}
use Rattle.structure.specs.Table.{unpaired, view}
use Rattle.tables.specs.Writing.{joined, Blank}
use Rattle.cells.specs.Rule.{Bases}
use Rattle.ints.specs.Ints.{mark}
use Rattle.ints.proofs.Ints.{ints, sum, diff}
use Rattle.figures.specs.Figures.{arm}
use Rattle.closing.specs.Closing.{may_close}
use Rattle.charges.specs.Loops.{arms_in, total}
use Rattle.energy_rule.specs.Rule.{Table}
use Rattle.energy_rule.specs.Meaning.{energy_in, armed_in}
use Rattle.energy_rule.specs.Filled.{AnyFilled, ArmsFilled, PairFilled}
use Rattle.energy_rule.proofs.Parts.{may_far}
use Rattle.energy_rule.proofs.Laws.{Ruled, real_may, v_step, hairpins, inners, branches, m_step, helix, m_skip, m_last, m_split, w_step, bare, pairs, w_skip, w_last, w_split}
use Rattle.energy_rule.proofs.Optimal.{any_least, arms_least, pair_least}
use Rattle.energy_rule.proofs.Steps.{any_bare, any_skip, any_last, any_pair, any_split, arms_skip, arms_last, arms_helix, arms_split, blank_joined, pair_hairpin, pair_inner, pair_arms}

module _ (b : Bases) (n : ℕ) (v w m : Table) (r : Ruled b n v w m) where
  -- ---- what costs at most the cell costs as much
  module _ (o t : List ℕ) (i j : ℕ) (l : i ≤ j) (h : j < n) where
    pub any_exact : AnyFilled b o t i (suc j) (w i j) → energy_in b (view t) i (suc j) ≡ w i j
    any_exact f =
        let x = any_least b n v w m r (view t) i j l h f.placed.fits in
        let y = f.energy in
        omega (ints, sum (total b (view t) i) (w i j), diff (total b (view t) (suc j)) (total b (view t) i))

    pub arms_exact : ArmsFilled b o t i (suc j) (m i j) → armed_in b (view t) i (suc j) ≡ m i j
    arms_exact f =
        let x = (arms_least b n v w m r (view t) i j l h f.placed.fits f.some).1 in
        let y = f.energy in
        let k = pos (100 * arm * arms_in (view t) i (suc j)) in
        omega (
          ints,
          sum (total b (view t) i) (m i j),
          sum (total b (view t) (suc j)) k,
          diff (total b (view t) (suc j)) (total b (view t) i),
          sum (energy_in b (view t) i (suc j)) k,
        )

    pub pair_exact : PairFilled b o t i j (v i j) → energy_in b (view t) i (suc j) ≡ v i j
    pair_exact f =
        let x = (pair_least b n v w m r (view t) i j l h f.placed.fits f.pair).1 in
        let y = f.energy in
        omega (ints, sum (total b (view t) i) (v i j), diff (total b (view t) (suc j)) (total b (view t) i))

  -- ---- a traceback
  module _ (short : n ≤ unpaired) where
    -- pairs from lo to hi can be built
    abbrev Builds : ℕ → ℕ → Type 0
    Builds lo hi =
        (i j : ℕ) → lo ≤ i → i < j → j ≤ hi → may_close b i j ≡ true → (t : List ℕ) → length t ≡ n → Blank t i (suc j)
        → (t' : List ℕ) × PairFilled b t t' i j (v i j)

    arms_from : (f lo j : ℕ) → j < lo + f → lo ≤ j → j < n → Builds lo j → m lo j <ℤ mark → (t : List ℕ) → length t ≡ n → Blank t lo (suc j)
        → (t' : List ℕ) × ArmsFilled b t t' lo (suc j) (m lo j)
    arms_from zero lo j o l h p q t e z = absurd (omega arith)
    arms_from (suc f) lo j o l h p q t e z =
        by_cases (ℕ_discrete lo j)
        (λ s. let d : m lo j ≡ mark = ap (m lo) (sym s) ∙ r.m_one lo (omega arith) in absurd (omega ints))
        (λ ne. elim (m_step b n v w m r lo j (omega arith) h q) [
          | helix vr k ↦
              let x = p lo j (omega arith) (omega arith) (omega arith) (real_may b n v w m r lo j l h vr) t e z in
              (x.0, arms_helix b x.1 (omega arith) (omega arith) k)
          | m_skip k ↦
              let x = arms_from f (suc lo) j (omega arith) (omega arith) h (λ a c u. p a c (omega arith)) (omega ints) t e (λ a u. z a (omega arith)) in
              (x.0, arms_skip b x.1 (omega arith) (z lo (omega arith) (omega arith)) k)
          | m_last k ↦
              let g : suc (j - 1) ≡ j = omega arith in
              let x = arms_from f lo (j - 1) (omega arith) (omega arith) (omega arith) (λ a c u s d. p a c u s (omega arith)) (omega ints) t e
              (λ a u s. z a u (omega arith)) in (
                x.0,
                arms_last b {t' = x.0} (subst (λ (y : ℕ). ArmsFilled b t x.0 lo y (m lo (j - 1))) g x.1) l (omega arith) (z j (omega arith) (omega arith)) k,
              )
          | m_split k ↦
              let a = k.from in
              let c = k.to in
              let x = arms_from f lo k.at (omega arith) (omega arith) (omega arith) (λ y u s d g. p y u s d (omega arith)) k.left t e
              (λ y u s. z y u (omega arith)) in
              let y = arms_from f (suc k.at) j (omega arith) (omega arith) h (λ y u s. p y u (omega arith)) k.right x.0 (x.1.placed.long ∙ e)
              (λ y u s. x.1.placed.above y u ∙ z y (omega arith) s) in
              (y.0, arms_split b {t₂ = y.0} x.1 y.1 (omega arith) (omega arith) k.value)
        ])

    pair_from : (f i j : ℕ) → j < i + f → i < j → j < n → may_close b i j ≡ true → (t : List ℕ) → length t ≡ n → Blank t i (suc j)
        → (t' : List ℕ) × PairFilled b t t' i j (v i j)
    pair_from zero i j o l h y t e z = absurd (omega arith)
    pair_from (suc f) i j o l h y t e z =
        let lj : length (joined t i j) ≡ n = length-set (set t i j) j i ∙ length-set t i j ∙ e in
        let far = may_far b i j y in
        elim (v_step b n v w m r i j h y) [
          | hairpins q ↦ (joined t i j, pair_hairpin b t i j (v i j) l (omega arith) (omega arith) y (λ k u s. z k (omega arith) (omega arith)) q)
          | inners q ↦
              let a = q.from in
              let c = q.far in
              let d = q.to in
              let x = pair_from f q.x q.y (omega arith) (omega arith) (omega arith) q.may (joined t i j) lj
              (blank_joined t i j q.x (suc q.y) a d (λ k u s. z k (omega arith) (omega arith))) in (
                x.0,
                pair_inner b x.1 a (omega arith) d (omega arith) (omega arith) y
                    (λ k u s. z k (omega arith) (omega arith)) (λ k u s. z k (omega arith) (omega arith)) q.left q.right q.value,
              )
          | branches p q ↦
              let g : suc (j - 1) ≡ j = omega arith in
              let x = arms_from n (suc i) (j - 1) (omega arith) (omega arith) (omega arith)
              (λ a c u s d k t₁ e₁ z₁. pair_from f a c (omega arith) s (omega arith) k t₁ e₁ z₁) p (joined t i j) lj
              (blank_joined t i j (suc i) (suc (j - 1)) (omega arith) (omega arith) (λ k u s. z k (omega arith) (omega arith))) in (
                x.0,
                pair_arms b {t' = x.0} (subst (λ (u : ℕ). ArmsFilled b (joined t i j) x.0 (suc i) u (m (suc i) (j - 1))) g x.1) l (omega arith) (omega arith) y q,
              )
        ]

    any_from : (f lo j : ℕ) → j < lo + f → lo ≤ j → j < n → (t : List ℕ) → length t ≡ n → Blank t lo (suc j)
        → (t' : List ℕ) × AnyFilled b t t' lo (suc j) (w lo j)
    any_from zero lo j o l h t e z = absurd (omega arith)
    any_from (suc f) lo j o l h t e z =
        by_cases (ℕ_discrete lo j)
        (λ s.
        let d : w lo j ≡ pos 0 = ap (w lo) (sym s) ∙ r.w_one lo (omega arith) in
        (t, any_bare b t lo (suc j) (w lo j) (omega arith) (omega arith) z d))
        (λ ne. elim (w_step b n v w m r lo j (omega arith) h) [
          | bare k ↦ (t, any_bare b t lo (suc j) (w lo j) (omega arith) (omega arith) z k)
          | pairs vr k ↦
              let x = pair_from n lo j (omega arith) (omega arith) h (real_may b n v w m r lo j l h vr) t e z in
              (x.0, any_pair b x.1 k)
          | w_skip k ↦
              let x = any_from f (suc lo) j (omega arith) (omega arith) h t e (λ a u. z a (omega arith)) in
              (x.0, any_skip b x.1 (omega arith) (z lo (omega arith) (omega arith)) k)
          | w_last k ↦
              let g : suc (j - 1) ≡ j = omega arith in
              let x = any_from f lo (j - 1) (omega arith) (omega arith) (omega arith) t e (λ a u s. z a u (omega arith)) in (
                x.0,
                any_last b {t' = x.0} (subst (λ (y : ℕ). AnyFilled b t x.0 lo y (w lo (j - 1))) g x.1) l (omega arith) (z j (omega arith) (omega arith)) k,
              )
          | w_split k ↦
              let a = k.from in
              let c = k.to in
              let x = any_from f lo k.at (omega arith) (omega arith) (omega arith) t e (λ y u s. z y u (omega arith)) in
              let y = any_from f (suc k.at) j (omega arith) (omega arith) h x.0 (x.1.placed.long ∙ e)
              (λ y u s. x.1.placed.above y u ∙ z y (omega arith) s) in
              (y.0, any_split b x.1 y.1 (omega arith) (omega arith) k.value)
        ])

    -- ---- from a blank span
    module _ (i j : ℕ) (h : j < n) (t : List ℕ) (e : length t ≡ n) (z : Blank t i (suc j)) where
      pub pair_built : i ≤ j → v i j <ℤ mark → (t' : List ℕ) × PairFilled b t t' i j (v i j)
      pair_built l q =
          let y = real_may b n v w m r i j l h q in
          let far = may_far b i j y in
          pair_from n i j (omega arith) (omega arith) h y t e z

      pub any_built : i ≤ j → (t' : List ℕ) × AnyFilled b t t' i (suc j) (w i j)
      any_built l = any_from n i j (omega arith) l h t e z

      pub arms_built : i ≤ j → m i j <ℤ mark → (t' : List ℕ) × ArmsFilled b t t' i (suc j) (m i j)
      arms_built l q = arms_from n i j (omega arith) l h (λ a c u s d k t₁ e₁ z₁. pair_from n a c (omega arith) s (omega arith) k t₁ e₁ z₁) q t e z
