-- No candidate costs less than the cell of its span: each pair costs, with its inside, at least its cell, by induction on how far its ends are apart, and a span
-- at least its own, by a walk along it.
use mathlib.Core.Path.{◌≡◌, refl, ap}
use mathlib.Core.Logic.{◌≢◌, by_cases}
use mathlib.Core.Bool.{true}
use Prim.Native.Nat.{ℕ, zero, suc, ◌+◌, ◌-◌, ◌*◌, ◌<◌, ◌≤◌}
use native.Mathlib.Omega.{arith}
use native.Mathlib.Decide.{ℕ_discrete}
use lib.IntN.{pos, ◌+ℤ◌}
use lib.Signed.{◌≤ℤ◌, ◌<ℤ◌}
use Rattle.structure.specs.Table.{unpaired}
use Rattle.structure.proofs.Folds as folds
use Rattle.cells.specs.Rule.{Bases}
use Rattle.ints.specs.Ints.{mark}
use Rattle.ints.proofs.Ints.{ints, sum, diff}
use Rattle.figures.specs.Figures.{arm}
use Rattle.figures.proofs.Charges.{many_is, figure_low}
use Rattle.closing.specs.Closing.{may_close, own}
use Rattle.charges.specs.Loops.{Candidate, arms_in, first_in, charge_at, total}
use Rattle.charges.proofs.Walk.{shut_none, arms_none, arms_free, arms_pair, total_free, total_open, armless, one_arm}
use Rattle.charges.proofs.Walk as walk
use Rattle.charges.proofs.Charged.{by_hairpin, by_inner, by_arms, charged}
use Rattle.charges.proofs.Openings.{inside_folds}
use Rattle.energy_rule.specs.Rule.{Table, closing_charge, arm_charge}
use Rattle.energy_rule.specs.Meaning.{energy_in, armed_in}
use Rattle.energy_rule.proofs.Parts.{may_far}
use Rattle.energy_rule.proofs.Laws.{Ruled, v_hairpin, v_most, v_real, v_inner, v_arms, m_left, m_helix, m_cut, m_rights, w_most, w_pair, w_left, w_cut}

-- ---- candidates taken apart
module _ (b : Bases) (p : ℕ → ℕ) {lo hi : ℕ} (a : Candidate b p lo hi) where
  pub candidate_tail : p lo ≡ unpaired → Candidate b p (suc lo) hi
  candidate_tail e = record { fold = folds.tail p a.fold e; each = λ k u. a.each k (omega arith) }

  pub candidate_outer : lo < p lo → p lo < hi → Candidate b p (suc (p lo)) hi
  candidate_outer h r = record { fold = folds.outer p a.fold h r; each = λ k u. a.each k (omega arith) }

  -- a pair with its inside
  pub candidate_within : (x : ℕ) → lo ≤ x → x < p x → p x < hi → Candidate b p x (suc (p x))
  candidate_within x l h r =
      let w = a.fold.fits in
      let e = (a.fold.mate x l (omega arith) (omega arith)).3 in
      record { fold = folds.wrap p (inside_folds p a.fold x l h r) h (omega arith) refl e; each = λ k u s. a.each k (omega arith) (omega arith) }

pub candidate_inner : (b : Bases) (p : ℕ → ℕ) {lo : ℕ} → Candidate b p lo (suc (p lo)) → lo < p lo → Candidate b p (suc lo) (p lo)
candidate_inner b p a h = record { fold = folds.inner p a.fold h (omega arith); each = λ k u s. a.each k (omega arith) (omega arith) }

module _ (b : Bases) (n : ℕ) (v w m : Table) (r : Ruled b n v w m) (p : ℕ → ℕ) where
  -- each pair from lo to before hi costs, with its inside, at least its cell
  abbrev Pairs : ℕ → ℕ → Type 0
  Pairs lo hi = (a : ℕ) → lo ≤ a → a < p a → p a < hi → p a ≢ unpaired → (total b p a +ℤ v a (p a)) ≤ℤ total b p (suc (p a))

  -- ---- spans
  arms_bound : (f lo hi : ℕ) → hi ≤ lo + f → lo ≤ hi → hi ≤ n → Candidate b p lo hi → Pairs lo hi → 1 ≤ arms_in p lo hi
      → (m lo (hi - 1) <ℤ mark) × ((total b p lo +ℤ m lo (hi - 1)) ≤ℤ (total b p hi +ℤ pos (100 * arm * arms_in p lo hi)))
  arms_bound zero lo hi o l h a q s = absurd (omega (arith, arms_none p lo hi (omega arith)))
  arms_bound (suc f) lo hi o l h a q s =
      by_cases (ℕ_discrete hi lo)
      (λ e. absurd (omega (arith, arms_none p lo hi (omega arith))))
      (λ ne. by_cases (ℕ_discrete (p lo) unpaired)
      (λ e.
      let u = shut_none lo (p lo) e in
      let t = arms_free p lo hi (omega arith) u in
      by_cases (ℕ_discrete hi (suc lo))
      (λ z. absurd (omega (arith, arms_none p (suc lo) hi (omega arith))))
      (λ nz.
      let x = arms_bound f (suc lo) hi (omega arith) (omega arith) h (candidate_tail b p a e) (λ c d. q c (omega arith)) (omega arith) in
      let y = m_left b n v w m r lo (hi - 1) (omega arith) (omega arith) in
      let x0 = x.0 in
      let x1 = x.1 in
      let g = total_free p b lo u in (
        omega ints,
        omega (
          ints,
          sum (total b p lo) (m lo (hi - 1)),
          sum (total b p (suc lo)) (m (suc lo) (hi - 1)),
          sum (total b p hi) (pos (100 * arm * arms_in p lo hi)),
          sum (total b p hi) (pos (100 * arm * arms_in p (suc lo) hi)),
        ),
      )))
      (λ e.
      let s = folds.first p a.fold (omega arith) e in
      let k = p lo in
      let c = a.each lo (omega arith) (omega arith) s.0 e in
      let hx = m_helix b n v w m r lo k s.0 (omega arith) (v_real b n v w m r lo k (omega arith) c) in
      let j = hi - 1 in
      let mr = m_rights b n v w m r hi lo k j (omega arith) (omega arith) (omega arith) (omega arith) in
      let pay = q lo (omega arith) s.0 s.1 e in
      let t = arms_pair p lo hi s.0 s.1 e in
      let real = real_of lo k j (omega arith) c mr hx in
      by_cases (ℕ_discrete (arms_in p (suc k) hi) 0)
      (λ z.
      let al = armless p b hi (suc k) hi (omega arith) (omega arith) (folds.outer p a.fold s.0 s.1) z in (
        real,
        omega (
          ints,
          sum (v lo k) arm_charge,
          sum (total b p lo) (v lo k),
          sum (total b p lo) (m lo j),
          sum (total b p hi) (pos (100 * arm * arms_in p lo hi)),
        ),
      ))
      (λ nz. by_cases (ℕ_discrete hi (suc k))
      (λ z. absurd (omega (arith, arms_none p (suc k) hi (omega arith))))
      (λ nk.
      let x = arms_bound f (suc k) hi (omega arith) (omega arith) h (candidate_outer b p a s.0 s.1) (λ c d. q c (omega arith)) (omega arith) in
      let x1 = x.1 in
      let y = m_cut b n v w m r lo j (omega arith) (omega arith) k s.0 (omega arith) (real_of lo k k (omega arith) c (omega ints) hx) x.0 in (
        real,
        omega (
          ints,
          sum (v lo k) arm_charge,
          sum (total b p lo) (v lo k),
          sum (total b p lo) (m lo j),
          sum (m lo k) (m (suc k) j),
          sum (total b p (suc k)) (m (suc k) j),
          sum (total b p hi) (pos (100 * arm * arms_in p (suc k) hi)),
          sum (total b p hi) (pos (100 * arm * arms_in p lo hi)),
        ),
      )))))
    where
      real_of : (lo k j : ℕ) → k < n → may_close b lo k ≡ true → m lo j ≤ℤ m lo k → m lo k ≤ℤ (v lo k +ℤ arm_charge) → m lo j <ℤ mark
      real_of lo k j h c x y = omega (ints, v_most b n v w m r lo k h c, figure_low, sum (v lo k) arm_charge)

  any_bound : (f lo hi : ℕ) → hi ≤ lo + f → lo < hi → hi ≤ n → Candidate b p lo hi → Pairs lo hi → (total b p lo +ℤ w lo (hi - 1)) ≤ℤ total b p hi
  any_bound zero lo hi o l h a q = absurd (omega arith)
  any_bound (suc f) lo hi o l h a q =
      by_cases (ℕ_discrete (p lo) unpaired)
      (λ e.
      let g = total_free p b lo (shut_none lo (p lo) e) in
      by_cases (ℕ_discrete hi (suc lo))
      (λ z.
      let d = w_most b n v w m r lo (hi - 1) (omega arith) (omega arith) in
      let t : total b p hi ≡ total b p (suc lo) = ap (total b p) z in
      omega (ints, sum (total b p lo) (w lo (hi - 1))))
      (λ nz.
      let x = any_bound f (suc lo) hi (omega arith) (omega arith) h (candidate_tail b p a e) (λ c d. q c (omega arith)) in
      let y = w_left b n v w m r lo (hi - 1) (omega arith) (omega arith) in
      omega (ints, sum (total b p lo) (w lo (hi - 1)), sum (total b p (suc lo)) (w (suc lo) (hi - 1)))))
      (λ e.
      let s = folds.first p a.fold (omega arith) e in
      let k = p lo in
      let pay = q lo (omega arith) s.0 s.1 e in
      let wp = w_pair b n v w m r lo k s.0 (omega arith) in
      by_cases (ℕ_discrete hi (suc k))
      (λ z.
      let t : total b p hi ≡ total b p (suc k) = ap (total b p) z in
      let d : w lo (hi - 1) ≡ w lo k = ap (w lo) (omega arith) in
      omega (ints, sum (total b p lo) (w lo (hi - 1)), sum (total b p lo) (v lo k)))
      (λ nz.
      let x = any_bound f (suc k) hi (omega arith) (omega arith) h (candidate_outer b p a s.0 s.1) (λ c d. q c (omega arith)) in
      let y = w_cut b n v w m r lo (hi - 1) (omega arith) (omega arith) k s.0 (omega arith) in
      omega (
        ints,
        sum (total b p lo) (w lo (hi - 1)),
        sum (total b p lo) (v lo k),
        sum (w lo k) (w (suc k) (hi - 1)),
        sum (total b p (suc k)) (w (suc k) (hi - 1)),
      )))

  -- ---- a pair
  pair_bound : (f a : ℕ) → p a ≤ a + f → a < p a → p a < n → p a ≢ unpaired → Candidate b p a (suc (p a))
      → (total b p a +ℤ v a (p a)) ≤ℤ total b p (suc (p a))
  pair_bound zero a o l h e c = absurd (omega arith)
  pair_bound (suc f) a o l h e c =
      let j = p a in
      let y = c.each a (omega arith) (omega arith) l e in
      let far = may_far b a j y in
      let ci = candidate_inner b p c l in
      let ps : Pairs (suc a) j = λ x u s t z. pair_bound f x (omega arith) s (omega arith) z (candidate_within b p ci x u s t) in
      let op = total_open p b a l e in
      let cl = walk.closing p b c.fold (omega arith) e in
      elim (charged b p a) [
        | by_hairpin z q ↦
            let al = armless p b j (suc a) j (omega arith) (omega arith) ci.fold z in
            let vh = v_hairpin b n v w m r a j h y in
            omega (ints, sum (total b p a) (v a j), sum (total b p a) (charge_at b p a))
        | by_inner z s t q ↦
            let g = one_arm p b j (suc a) j (omega arith) (omega arith) ci.fold z in
            let x = first_in p (suc a) j in
            let gf = g.from in
            let gu = g.up in
            let gt = g.to in
            let gb = g.before in
            let ga = g.after in
            let px = ps x gf gu gt g.real in
            let mx = ci.each x gf (omega arith) gu g.real in
            let vi = v_inner b n v w m r a j h y x (p x) (omega arith) gt s t mx (v_real b n v w m r x (p x) (omega arith) mx) in
            omega (
              ints,
              sum (total b p a) (v a j),
              sum (total b p a) (charge_at b p a),
              sum (v x (p x)) (own b a j x (p x)),
              sum (total b p x) (v x (p x)),
            )
        | by_arms z q ↦
            let g = arms_bound j (suc a) j (omega arith) (omega arith) (omega arith) ci ps z in
            let g1 = g.1 in
            let va = v_arms b n v w m r a j h y g.0 in
            omega (
              ints,
              many_is (arms_in p (suc a) j),
              sum (total b p a) (v a j),
              sum (total b p a) (charge_at b p a),
              sum (m (suc a) (j - 1)) closing_charge,
              sum (total b p (suc a)) (m (suc a) (j - 1)),
              sum (total b p j) (pos (100 * arm * arms_in p (suc a) j)),
            )
      ]

  -- ---- every kind of cell is at most what a candidate of its kind costs; and it isn't the mark where there is one
  module _ (i j : ℕ) (l : i ≤ j) (h : j < n) (c : Candidate b p i (suc j)) where
    all_pairs : Pairs i (suc j)
    all_pairs a u o t z = pair_bound n a (omega arith) o (omega arith) z (candidate_within b p c a u o t)

    same_end : suc j - 1 ≡ j
    same_end = omega arith

    pub any_least : w i j ≤ℤ energy_in b p i (suc j)
    any_least =
        let x = any_bound (suc j) i (suc j) (omega arith) (omega arith) h c all_pairs in
        let x' = rw same_end at x in
        omega (ints, sum (total b p i) (w i j), diff (total b p (suc j)) (total b p i))

    pub arms_least : 1 ≤ arms_in p i (suc j) → (m i j <ℤ mark) × (m i j ≤ℤ armed_in b p i (suc j))
    arms_least s =
        let x = arms_bound (suc j) i (suc j) (omega arith) (omega arith) h c all_pairs s in
        let x' = rw same_end at x in
        let y = x'.1 in
        let k = pos (100 * arm * arms_in p i (suc j)) in (
          x'.0,
          omega (
            ints,
            sum (total b p i) (m i j),
            sum (total b p (suc j)) k,
            diff (total b p (suc j)) (total b p i),
            sum (energy_in b p i (suc j)) k,
          ),
        )

    pub pair_least : p i ≡ j → (v i j <ℤ mark) × (v i j ≤ℤ energy_in b p i (suc j))
    pair_least e =
        let u = c.fold.fits in
        let t = c.fold.mate i (omega arith) (omega arith) (omega arith) in
        let y = c.each i (omega arith) (omega arith) (omega arith) (omega arith) in
        let x = all_pairs i (omega arith) (omega arith) (omega arith) (omega arith) in
        let x' = rw e at x in (
          v_real b n v w m r i j h (rw e at y),
          omega (ints, sum (total b p i) (v i j), diff (total b p (suc j)) (total b p i)),
        )
