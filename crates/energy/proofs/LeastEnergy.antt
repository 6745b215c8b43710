-- The energy of an accepted fold is the least, and its structure reaches it: the cells are right for the letters of the sequence, so that the
-- traceback's table is a candidate of that energy, and no candidate costs less. Assumes nothing.
use mathlib.Core.Path.{◌≡◌, refl, sym, ap, subst, ◌∙◌}
use mathlib.Core.List.{List, map}
use Prim.Native.Nat.{ℕ, ◌≤◌, ◌<◌}
use native.Mathlib.Omega.{arith}
use lib.IntN.{ℤ}
use lib.ListN.{length, take, length-map}
use Rattle.refusals.specs.Refusals.{clear}
use Rattle.bases.specs.Bases.{normal}
use Rattle.structure.specs.Table.{view}
use Rattle.structure.specs.Soundness.{table_due}
use Rattle.structure.proofs.Checking.{clear_table}
use Rattle.sequences.proofs.Spared.{letters_spared, letters_front}
use Rattle.cells.specs.Rule.{Right}
use Rattle.cells.specs.Fill.{at}
use Rattle.ints.specs.Ints.{Small}
use Rattle.figures.proofs.Charges.{fold_reach}
use Rattle.charges.specs.Loops.{Candidate, Chargeable}
use Rattle.charges.proofs.Openings.{total_small}
use Rattle.energy_rule.specs.Rule.{energies}
use Rattle.energy_rule.specs.Bounds.{Believable}
use Rattle.energy_rule.specs.Meaning.{Meant}
use Rattle.energy_rule.specs.Memory.{three}
use Rattle.energy_rule.proofs.Ruling.{energies_local}
use Rattle.energy_rule.proofs.Meaning as meaning
use Rattle.energy_rule.proofs.Bounds as bounds
use Rattle.energy_trace.specs.Trace.{traced_of}
use Rattle.energy_trace.proofs.Whole.{Cheapest, traced_cheapest, cheapest_same}
use Rattle.std.proofs.Common.{Result, Ok}
use Rattle.refusals.specs.declared.Refusal.{Refusal}
use Rattle.energy.specs.Calls.{energy_at, Folds}
use Rattle.energy.specs.Minimal.{Minimal}
use Rattle.energy.proofs.Accepted.{foldable}

module _ (s b b' : List ℕ) (v w m v' w' m' : List ℤ) (o o' : List ℕ) (z : ℤ) (f : Folds s b b' v w m v' w' m' o o' (Ok z)) where
  -- the first bases are the letters of the sequence
  pub fold_letters : (k : ℕ) → k < length s → view b' k ≡ view (map normal s) k
  fold_letters k h = ap (λ (l : List ℕ). view l k) f.1.bases ∙ letters_front s b k h

  -- so the cells are right for them
  pub fold_right : Right energies (view (map normal s)) (at (three v' w' m')) (length s)
  fold_right i j h l =
      let c = at (three v' w' m') in
      f.1.cells.right i j h l
      ∙ energies_local (view b') (view (map normal s)) c c i j h (λ k from to. fold_letters k (omega arith)) (λ k x a d e t. refl)

  -- every cell holds the least energy of its kind on its span, or the mark exactly where there is none
  pub cells_meant : (i j : ℕ) → i ≤ j → j < length s → Meant (view (map normal s)) i j (at (three v' w' m') i j)
  cells_meant =
      let u = foldable s b v w m o f.0 in
      meaning.meant (view (map normal s)) (at (three v' w' m')) (length s) fold_right (omega (arith, u.short))

  -- and a believable number
  pub cells_believable : (i j : ℕ) → i ≤ j → j < length s → Believable (view (map normal s)) i j (at (three v' w' m') i j)
  cells_believable = bounds.believable (view (map normal s)) (at (three v' w' m')) (length s) fold_right

  -- the pair table is a candidate of that energy, and no candidate costs less
  pub least_energy : Minimal s (take (length s) o') z
  unfolding energy_at
  least_energy =
      let n = length s in
      let u = foldable s b v w m o f.0 in
      let letters = map normal s in
      let size = length-map s normal in
      let long : n ≤ length b' = omega (arith, ap length f.1.bases, (letters_spared s b u.bases).long, u.bases) in
      let c = traced_cheapest b' v' w' m' n u.some f.1.cells.right o (omega (arith, u.short, fold_reach)) long u.pairs in
      let d = subst (λ (t : List ℕ). Cheapest b' n (take n t) z) (sym f.1.pairs) (subst (Cheapest b' n (take n (traced_of b' v' w' m' n o))) (sym f.2) c) in
      let e = cheapest_same b' letters n (take n o') z fold_letters (omega (arith, size)) d in
      record {
        sound = e.sound;
        possible = (e.long, subst (Candidate (view letters) (view (take n o')) 0) e.long e.chargeable.candidate);
        reached = e.reached;
        least = λ q p. e.least q p.0 p.1;
        most = e.most;
      }

  -- so the calls on structures take it
  pub fold_taken : table_due (take (length s) o') ≡ clear
  fold_taken =
      let g = least_energy in
      let u = foldable s b v w m o f.0 in
      clear_table (take (length s) o') (omega (arith, g.possible.0, u.short)) g.sound

-- an energy that was answered may stand in sums: it is what its structure costs, and no structure of so few bases costs more
pub energy_small :
    (s b b' : List ℕ) (v w m v' w' m' : List ℤ) (o o' : List ℕ) (a : Result ℤ Refusal) (z : ℤ) → a ≡ Ok z → Folds s b b' v w m v' w' m' o o' a → Small z
energy_small s b b' v w m v' w' m' o o' a z e h =
    let f : Folds s b b' v w m v' w' m' o o' (Ok z) = subst (Folds s b b' v w m v' w' m' o o') e h in
    let g = least_energy s b b' v w m v' w' m' o o' z f in
    let u = foldable s b v w m o f.0 in
    let letters = map normal s in
    let p = take (length s) o' in
    let r : Chargeable letters p = record {
      candidate = subst (Candidate (view letters) (view p) 0) (sym g.possible.0) g.possible.1;
      bases = omega (arith, g.possible.0, length-map s normal);
      short = omega (arith, g.possible.0, u.short, fold_reach);
    } in
    subst Small g.reached (total_small letters p r (length p) (omega arith))
