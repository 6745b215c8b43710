-- What a span costs depends on its own entries alone: p and q agree from lo up to, but not including, hi. And what a structure costs, on the bases
-- of its own positions alone.
use mathlib.Core.Path.{◌≡◌, refl}
use mathlib.Core.Logic.{by_cases}
use mathlib.Core.Bool.{true, false}
use mathlib.Core.List.{List}
use Prim.Native.Nat.{ℕ, zero, suc, ◌+◌, ◌-◌, ◌<◌, ◌≤◌}
use native.Mathlib.Omega.{arith}
use native.Mathlib.Decide.{dec_lt, ℕ_discrete}
use lib.IntN.{◌+ℤ◌}
use lib.ListN.{length}
use Rattle.bases.specs.Bases.{pair_index}
use Rattle.structure.specs.Table.{unpaired, view, Fold}
use Rattle.structure.proofs.Folds as folds
use Rattle.ints.proofs.Ints.{ints, sum, either}
use Rattle.figures.specs.Charge.{between, charge_of}
use Rattle.closing.specs.Closing.{may_close, own, purines}
use Rattle.charges.specs.Loops.{Candidate, Chargeable, opening, arms, arms_in, first, first_in, single, kind_by, kind, charge_by, charge_at, total, energy_of}
use Rattle.charges.proofs.Walk.{shut_none, shut_low, total_free, total_open, first_le}
use Rattle.charges.proofs.Openings.{closes, foremost}

module _ (p q : ℕ → ℕ) where
  arms_moved : (n s k : ℕ) → ((x : ℕ) → k ≤ x → x < k + n → q x ≡ p x) → arms q n s k ≡ arms p n s k
  unfolding arms
  arms_moved zero s k h = refl
  arms_moved (suc n) zero k h =
      rw (
        h k (omega arith) (omega arith),
        arms_moved n 0 (suc k) (λ x l u. h x (omega arith) (omega arith)),
        arms_moved n (p k - k) (suc k) (λ x l u. h x (omega arith) (omega arith)),
      )
  arms_moved (suc n) (suc s) k h = arms_moved n s (suc k) (λ x l u. h x (omega arith) (omega arith))

  first_moved : (n k : ℕ) → ((x : ℕ) → k ≤ x → x < k + n → q x ≡ p x) → first q n k ≡ first p n k
  unfolding first
  first_moved zero k h = refl
  first_moved (suc n) k h = rw (h k (omega arith) (omega arith), first_moved n (suc k) (λ x l u. h x (omega arith) (omega arith)))

  module _ (lo hi : ℕ) (s : (k : ℕ) → lo ≤ k → k < hi → q k ≡ p k) where
    pub arms_in_moved : arms_in q lo hi ≡ arms_in p lo hi
    arms_in_moved = arms_moved (hi - lo) 0 lo (λ x l u. s x l (omega arith))

    module _ (b : ℕ → ℕ) where
      charge_moved : (k : ℕ) → lo ≤ k → k < p k → p k < hi → charge_at b q k ≡ charge_at b p k
      unfolding charge_at kind
      charge_moved k l h u =
          let n = p k - suc k in
          let x = first p n (suc k) in
          let r = first_le p n (suc k) in
          rw (
            s k l (omega arith),
            arms_moved n 0 (suc k) (λ y a c. s y (omega arith) (omega arith)),
            first_moved n (suc k) (λ y a c. s y (omega arith) (omega arith)),
            s x (omega arith) (omega arith),
          )

      -- the loops that open from lo up to k, where the whole span folds
      pub total_moved : Fold p lo hi → (k : ℕ) → lo ≤ k → k ≤ hi → total b q k +ℤ total b p lo ≡ total b p k +ℤ total b q lo
      total_moved f zero h u =
          let e : lo ≡ 0 = omega arith in rw e (omega (ints, sum (total b q 0) (total b p 0), sum (total b p 0) (total b q 0)))
      total_moved f (suc k) h u =
          by_cases (ℕ_discrete lo (suc k))
          (λ e. rw e (omega (ints, sum (total b q (suc k)) (total b p (suc k)), sum (total b p (suc k)) (total b q (suc k)))))
          (λ ne.
          let r = total_moved f k (omega arith) (omega arith) in
          let e = s k (omega arith) (omega arith) in
          let w = f.fits in
          by_cases (dec_lt k (p k))
          (λ o. by_cases (ℕ_discrete (p k) unpaired)
          (λ z. shut r (shut_none k (p k) z) (shut_none k (q k) (omega arith)))
          (λ z. let m = f.mate k (omega arith) (omega arith) z in
          let c = charge_moved k (omega arith) o m.1 in
          omega (
            ints,
            total_open p b k o z,
            total_open q b k (omega arith) (omega arith),
            sum (total b p k) (charge_at b p k),
            sum (total b q k) (charge_at b q k),
            sum (total b q k) (total b p lo),
            sum (total b p k) (total b q lo),
            sum (total b q (suc k)) (total b p lo),
            sum (total b p (suc k)) (total b q lo),
          )))
          (λ o. shut r (shut_low k (p k) (omega arith)) (shut_low k (q k) (omega arith))))
        where
          shut : total b q k +ℤ total b p lo ≡ total b p k +ℤ total b q lo → opening k (p k) ≡ false → opening k (q k) ≡ false
              → total b q (suc k) +ℤ total b p lo ≡ total b p (suc k) +ℤ total b q lo
          shut r x y = rw (total_free p b k x, total_free q b k y) r

      pub candidate_moved : Candidate b p lo hi → Candidate b q lo hi
      candidate_moved a = record {
        fold = folds.moved s a.fold;
        each = λ k l r o n. let e = s k l r in rw e (a.each k l r (omega arith) (omega arith));
      }

-- ---- other bases: b and b' agree on the positions of a structure
kind_bases : (b b' : ℕ → ℕ) (i j m x y : ℕ) → own b i j x y ≡ own b' i j x y → kind_by b i j m x y ≡ kind_by b' i j m x y
unfolding kind_by single
kind_bases b b' i j zero x y e = refl
kind_bases b b' i j (suc zero) x y e = rw e
kind_bases b b' i j (suc (suc m)) x y e = refl

module _ (b b' t : List ℕ) (r : Chargeable b t) (s : (k : ℕ) → k < length t → view b k ≡ view b' k) where
  charge_bases : (i : ℕ) → i < length t → opening i (view t i) ≡ true → charge_at (view b) (view t) i ≡ charge_at (view b') (view t) i
  unfolding charge_at charge_by kind own
  charge_bases i h o =
      let c = closes b t r i h o in
      let up = c.up in
      let within = c.within in
      let f = foremost b t r i h o in
      let to = f.to in
      let j = view t i in
      let x = first_in (view t) (suc i) j in
      let y = view t x in
      let ei = s i h in
      let ej = s j within in
      let ex = s x (omega arith) in
      let ey = s y f.mate in
      let k = kind_bases (view b) (view b') i j (arms_in (view t) (suc i) j) x y
      (λ z. charge_of (between (x - suc i) (j - suc y)) (pair_index (ei z) (ej z)) (pair_index (ex z) (ey z)) 0) in
      λ z. charge_of (k z) (pair_index (ei z) (ej z)) (pair_index (ex z) (ey z)) (purines (s (i + 1) (omega arith) z) (s (j - 1) (omega arith) z))

  total_bases : (k : ℕ) → k ≤ length t → total (view b) (view t) k ≡ total (view b') (view t) k
  unfolding total
  total_bases zero h = refl
  total_bases (suc k) h =
      either (opening k (view t k)) (λ o. rw (o, total_bases k (omega arith), charge_bases k (omega arith) o)) (λ o. rw (o, total_bases k (omega arith)))

  pub energy_bases : energy_of b t ≡ energy_of b' t
  energy_bases = total_bases (length t) (omega arith)

pub candidate_bases : (b b' p : ℕ → ℕ) (n : ℕ) → ((k : ℕ) → k < n → b k ≡ b' k) → Candidate b p 0 n → Candidate b' p 0 n
unfolding may_close
candidate_bases b b' p n s c = record {
  fold = c.fold;
  each = λ k l h o u. rw (← s k h, ← s (p k) (c.fold.mate k l h u).1) (c.each k l h o u);
}
