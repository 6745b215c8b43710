-- Every cell of a right table holds the least energy of its kind on its span, or the mark exactly where there is no structure of its kind.
use mathlib.Core.Path.{◌≡◌}
use mathlib.Core.Logic.{◌⊎◌, inl, inr, ⊎_elim}
use mathlib.Core.List.{List}
use Prim.Native.Nat.{ℕ, suc, ◌<◌, ◌≤◌}
use native.Mathlib.Omega.{arith}
use lib.IntN.{ℤ}
use lib.Signed.{◌≤ℤ◌, ◌<ℤ◌}
use lib.ListN.{replicate, length-replicate, get_or-replicate}
use Rattle.tables.specs.Writing.{Blank}
use Rattle.ints.specs.Ints.{mark}
use Rattle.ints.proofs.Ints.{ints}
use Rattle.ints.proofs.Minima.{less}
use Rattle.structure.specs.Table.{unpaired, view}
use Rattle.cells.specs.Rule.{Bases, Cells, Right}
use Rattle.cells.proofs.Fills.{right_fine}
use Rattle.energy_rule.specs.Rule.{Cell, energies, paired_of, any_of, arms_of}
use Rattle.energy_rule.specs.Bounds.{Ranged}
use Rattle.energy_rule.specs.Meaning.{Meant}
use Rattle.energy_rule.proofs.Ruling.{energies_keeps}
use Rattle.energy_rule.proofs.Laws.{right_ruled}
use Rattle.energy_rule.proofs.Optimal.{any_least, arms_least, pair_least}
use Rattle.energy_rule.proofs.Built.{any_exact, arms_exact, pair_exact, pair_built, any_built, arms_built}

-- a number up to the mark is the mark or below it
marked : (z : ℤ) → z ≤ℤ mark → (z ≡ mark) ⊎ (z <ℤ mark)
marked z h = ⊎_elim (λ p. inr p) (λ p. inl (omega ints)) (less z mark)

module _ (b : Bases) (c : Cells Cell) (n : ℕ) (right : Right energies b c n) where
  pub meant : n ≤ unpaired → (i j : ℕ) → i ≤ j → j < n → Meant b i j (c i j)
  meant short i j l h =
      let r = right_ruled b c n right in
      let v = paired_of c in
      let w = any_of c in
      let m = arms_of c in
      let g = right_fine energies Ranged energies_keeps b c n right i j l h in
      let t : List ℕ = replicate n unpaired in
      let z : Blank t i (suc j) = λ k a u. get_or-replicate n k unpaired 0 (omega arith) in
      let e = length-replicate n unpaired in
      record {
        paired = record {
          least = λ p a k. (pair_least b n v w m r p i j l h a k).1;
          reached = ⊎_elim (λ q. inl (q, λ p a k. let u = (pair_least b n v w m r p i j l h a k).0 in omega ints))
              (λ q.
              let x = pair_built b n v w m r short i j h t e z l q in
              inr (view x.0, x.1.placed.fits, x.1.pair, pair_exact b n v w m r t x.0 i j l h x.1))
              (marked (c i j).0 g.paired.high);
        };
        any = record {
          least = λ p a k. any_least b n v w m r p i j l h a;
          reached =
              let x = any_built b n v w m r short i j h t e z l in
              inr (view x.0, x.1.placed.fits, tt, any_exact b n v w m r t x.0 i j l h x.1);
        };
        arms = record {
          least = λ p a k. (arms_least b n v w m r p i j l h a k).1;
          reached = ⊎_elim (λ q. inl (q, λ p a k. let u = (arms_least b n v w m r p i j l h a k).0 in omega ints))
              (λ q.
              let x = arms_built b n v w m r short i j h t e z l q in
              inr (view x.0, x.1.placed.fits, x.1.some, arms_exact b n v w m r t x.0 i j l h x.1))
              (marked (c i j).2 g.arms.high);
        };
      }
