-- Right cells are believable, and believable cells are in range: so no cell that is made from believable ones overflows.
use mathlib.Core.Path.{◌≡◌, sym, ap, ◌∙◌}
use mathlib.Core.Logic.{inl, inr, ⊎_elim, by_cases}
use Prim.Native.Nat.{ℕ, zero, suc, ◌+◌, ◌-◌, ◌*◌, ◌<◌, ◌≤◌}
use native.Mathlib.Omega.{arith}
use native.Mathlib.Decide.{ℕ_discrete}
use lib.IntN.{pos}
use lib.Signed.{◌≤ℤ◌, ◌<ℤ◌}
use Rattle.cells.specs.Rule.{Bases, Cells, Right}
use Rattle.cells.proofs.Fills.{right_fine}
use Rattle.ints.specs.Ints.{mark}
use Rattle.ints.proofs.Ints.{ints, sum, either}
use Rattle.ints.proofs.Minima.{less}
use Rattle.figures.specs.Figures.{arm}
use Rattle.figures.specs.Charge.{figure_most}
use Rattle.figures.proofs.Charges.{figure_low}
use Rattle.closing.specs.Closing.{may_close}
use Rattle.energy_rule.specs.Rule.{Table, Cell, arm_charge, energies, paired_of, any_of, arms_of}
use Rattle.energy_rule.specs.Bounds.{Ranged, Believable}
use Rattle.energy_rule.proofs.Ruling.{floor_is, energies_keeps}
use Rattle.energy_rule.proofs.Laws.{Ruled, right_ruled, real_may, v_most, m_step, m_rights, helix, m_skip, m_last, m_split}

-- arms cost at most their first one alone, and that at most its hairpin and its charge
pub m_most : (b : Bases) (n : ℕ) (v w m : Table) → Ruled b n v w m → (f i j : ℕ) → j < i + f → i ≤ j → j < n → m i j <ℤ mark
    → m i j ≤ℤ pos (figure_most + 100 * arm)
m_most b n v w m r zero i j o l h p = absurd (omega arith)
m_most b n v w m r (suc f) i j o l h p =
    by_cases (ℕ_discrete i j)
    (λ s. let d : m i j ≡ mark = ap (m i) (sym s) ∙ r.m_one i (omega arith) in absurd (omega ints))
    (λ ne. elim (m_step b n v w m r i j (omega arith) h p) [
      | helix vr k ↦ omega (ints, v_most b n v w m r i j h (real_may b n v w m r i j l h vr), sum (v i j) arm_charge)
      | m_skip k ↦ let x = m_most b n v w m r f (suc i) j (omega arith) (omega arith) h (omega ints) in omega ints
      | m_last k ↦ let x = m_most b n v w m r f i (j - 1) (omega arith) (omega arith) (omega arith) (omega ints) in omega ints
      | m_split k ↦
          let a = k.from in
          let c = k.to in
          let x = m_most b n v w m r f i k.at (omega arith) (omega arith) (omega arith) k.left in
          omega (ints, m_rights b n v w m r j i k.at j (omega arith) (omega arith) (omega arith) h)
    ])

pub believable : (b : Bases) (c : Cells Cell) (n : ℕ) → Right energies b c n → (i j : ℕ) → i ≤ j → j < n → Believable b i j (c i j)
believable b c n right i j l h =
    let r = right_ruled b c n right in
    let v = paired_of c in
    let w = any_of c in
    let m = arms_of c in
    let g = right_fine energies Ranged energies_keeps b c n right i j l h in
    let gp = g.paired in
    let gm = g.arms in
    record {
      none = g.none;
      some = λ e. omega (ints, figure_low, v_most b n v w m r i j h e);
      any = g.any;
      arms = ⊎_elim
          (λ p. inr (omega (ints, figure_low, m_most b n v w m r n i j (omega arith) l h p)))
          (λ p. inl (omega ints))
          (less (m i j) mark);
    }

pub believable_ranged : (b : Bases) (i j : ℕ) (c : Cell) → Believable b i j c → Ranged b i j c
believable_ranged b i j c e = record {
  none = e.none;
  paired = either (may_close b i j)
      (λ y. let x = e.some y in omega ints)
      (λ y. let x = e.none y in omega (ints, floor_is i j));
  any = e.any;
  arms = ⊎_elim (λ x. omega (ints, floor_is i j)) (λ x. omega ints) e.arms;
}
