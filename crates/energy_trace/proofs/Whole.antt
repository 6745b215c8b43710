-- The traceback's pair table of right tables, as a structure: it is a candidate, its energy is what the last cell says, and no candidate costs less.
-- Assumes nothing.
use mathlib.Core.Path.{◌≡◌, sym, ap, ◌∙◌, subst}
use mathlib.Core.List.{List}
use Prim.Native.Nat.{ℕ, suc, ◌+◌, ◌-◌, ◌≤◌, ◌<◌}
use native.Mathlib.Omega.{arith}
use lib.IntN.{ℤ, pos}
use lib.ListN.{length, take}
use lib.Seq.{get_or-take, length-take-le}
use lib.Signed.{◌≤ℤ◌}
use Rattle.structure.specs.Table.{unpaired, view, Sound}
use Rattle.cells.specs.Rule.{Right}
use Rattle.cells.specs.Fill.{at}
use Rattle.ints.proofs.Ints.{ints, sum, diff}
use Rattle.figures.specs.Figures.{longest}
use Rattle.figures.proofs.Charges.{longest_low}
use Rattle.charges.specs.Loops.{Candidate, Chargeable, total, energy_of}
use Rattle.energy_rule.specs.Rule.{energies}
use Rattle.energy_rule.specs.Meaning.{energy_in}
use Rattle.energy_rule.specs.Memory.{table, three}
use Rattle.energy_rule.proofs.Laws.{right_ruled, w_most}
use Rattle.energy_rule.proofs.Moved.{total_moved, candidate_moved, energy_bases, candidate_bases}
use Rattle.energy_rule.proofs.Optimal.{any_least}
use Rattle.energy_trace.specs.Trace.{traced_of}
use Rattle.energy_trace.proofs.Kept.{traced_long}
use Rattle.energy_trace.proofs.Reached.{traced_candidate, traced_energy}

-- t is a structure of the first n bases that costs z, and no candidate of theirs costs less
pub record Cheapest (b : List ℕ) (n : ℕ) (t : List ℕ) (z : ℤ) : Type 0 where
  pub long : length t ≡ n
  pub sound : Sound t
  pub chargeable : Chargeable b t
  pub reached : energy_of b t ≡ z
  pub least : (u : List ℕ) → length u ≡ n → Candidate (view b) (view u) 0 n → z ≤ℤ energy_of b u
  pub most : z ≤ℤ pos 0

-- it is so of any bases with the same first n
pub cheapest_same : (b b' : List ℕ) (n : ℕ) (t : List ℕ) (z : ℤ) → ((k : ℕ) → k < n → view b k ≡ view b' k) → n ≤ length b' → Cheapest b n t z
    → Cheapest b' n t z
cheapest_same b b' n t z s h c =
    let e = c.long in
    let a = c.chargeable in
    let room = a.bases in
    let short = a.short in
    record {
      long = e;
      sound = c.sound;
      chargeable = record {
        candidate = candidate_bases (view b) (view b') (view t) (length t) (λ k l. s k (omega arith)) a.candidate;
        bases = omega arith;
        short = short;
      };
      reached = sym (energy_bases b b' t a (λ k l. s k (omega arith))) ∙ c.reached;
      least = λ u l p.
          let q = candidate_bases (view b') (view b) (view u) n (λ k g. sym (s k g)) p in
          let x : Chargeable b u = record { candidate = rw l q; bases = omega arith; short = omega arith } in
          subst (λ (y : ℤ). z ≤ℤ y) (energy_bases b b' u x (λ k g. s k (omega arith))) (c.least u l q);
      most = c.most;
    }

-- the energy of a span from the start
from_start : (b p : ℕ → ℕ) (n : ℕ) → energy_in b p 0 n ≡ total b p n
unfolding total
from_start b p n = omega (ints, diff (total b p n) (pos 0))

module _ (b : List ℕ) (v w m : List ℤ) (n : ℕ) (some : 0 < n) (right : Right energies (view b) (at (three v w m)) n) where
  -- no candidate costs less than the last cell of any structure, and this is at most 0
  cell_least : (u : List ℕ) → length u ≡ n → Candidate (view b) (view u) 0 n → table w 0 (n - 1) ≤ℤ energy_of b u
  cell_least u h c =
      let r = right_ruled (view b) (at (three v w m)) n right in
      let e : suc (n - 1) ≡ n = omega arith in
      let q = any_least (view b) n (table v) (table w) (table m) r (view u) 0 (n - 1) (omega arith) (omega arith)
      (subst (Candidate (view b) (view u) 0) (sym e) c) in
      rw h (subst (λ (x : ℤ). table w 0 (n - 1) ≤ℤ x) (ap (energy_in (view b) (view u) 0) e ∙ from_start (view b) (view u) n) q)

  cell_most : table w 0 (n - 1) ≤ℤ pos 0
  cell_most = w_most (view b) n (table v) (table w) (table m) (right_ruled (view b) (at (three v w m)) n right) 0 (n - 1) (omega arith) (omega arith)

  pub traced_cheapest : (o : List ℕ) → n ≤ longest + 2 → n ≤ length b → n ≤ length o → Cheapest b n (take n (traced_of b v w m n o)) (table w 0 (n - 1))
  traced_cheapest o short bases room =
      let o' = traced_of b v w m n o in
      let t = take n o' in
      let fits : n ≤ unpaired = omega (arith, longest_low) in
      let all : length t ≡ n = length-take-le n o' (omega (arith, traced_long b v w m n o some room)) in
      let entry : (k : ℕ) → 0 ≤ k → k < n → view t k ≡ view o' k = λ k l h. get_or-take n o' k 0 h in
      let a = traced_candidate b v w m n o some fits room right in
      let c = candidate_moved (view o') (view t) 0 n entry (view b) a in
      let moved = total_moved (view o') (view t) 0 n entry (view b) a.fold n (omega arith) (omega arith) in
      let cost = traced_energy b v w m n o some fits room right in
      record {
        long = all;
        sound = rw all c.fold;
        chargeable = record { candidate = rw all c; bases = omega arith; short = omega arith };
        reached = rw all (omega (
          ints,
          cost,
          diff (total (view b) (view o') n) (total (view b) (view o') 0),
          from_start (view b) (view o') n,
          from_start (view b) (view t) n,
          sum (total (view b) (view t) n) (total (view b) (view o') 0),
          sum (total (view b) (view o') n) (total (view b) (view t) 0),
          diff (total (view b) (view t) n) (total (view b) (view t) 0),
        ));
        least = cell_least;
        most = cell_most;
      }
