-- What the passes make of a column of the three tables: cells in range, and the cell rule. Assumes nothing.
use mathlib.Core.Path.{◌≡◌, refl, sym, ap, subst, ◌∙◌}
use mathlib.Core.Logic.{⊎_elim}
use mathlib.Core.Bool.{false, cond}
use Prim.Native.Nat.{ℕ, ◌+◌, ◌-◌, ◌≤◌, ◌<◌}
use native.Mathlib.Omega.{arith}
use lib.Dec.{ltb}
use lib.IntN.{ℤ, pos}
use lib.Signed.{◌≤ℤ◌}
use borrow.Author.Tests.{lt-ltb, le-ltb}
use Rattle.cells.specs.Tri.{tri, place}
use Rattle.cells.specs.Rule.{Bases, Cells}
use Rattle.cells.specs.Fill.{at, Fine, FineFrom, Rows}
use Rattle.cells.specs.Pass.{parts, Settled}
use Rattle.cells.proofs.Places.{less_or, three, tri_below}
use Rattle.cells.proofs.Passes.{gather_none, settled_value}
use Rattle.ints.specs.Ints.{minℤ, mark}
use Rattle.ints.proofs.Ints.{ints, either}
use Rattle.figures.specs.Figures.{longest}
use Rattle.closing.specs.Closing.{may_close}
use Rattle.energy_rule.specs.Rule.{Table, Cell, arm_charge, paired, any, armed, energies, paired_of, arms_of}
use Rattle.energy_rule.specs.Bounds.{Ranged}
use Rattle.energy_rule.proofs.Parts.{may_far}
use Rattle.energy_rule.proofs.Ruling.{energies_one, energies_more, energies_keeps, triple, floor_is, paired_none}
use Rattle.energy_inner.specs.Search.{InRange, InPaired, Smalls}
use Rattle.energy_inner.proofs.Searching.{range_small}
use Rattle.energy_fill.specs.Passes.{Started, closed, begun, link}
use Rattle.energy_fill.proofs.Passes.{started_old, begun_one, begun_limit, begun_same, begun_range, gather_low, paired_before, arms_rule, any_rule}

-- three tables by place, as one of triples
abbrev pub together : (ℕ → ℤ) → (ℕ → ℤ) → (ℕ → ℤ) → ℕ → Cell
together v w m k = (v k, w k, m k)

-- ---- paired cells
-- one base closes no loop
may_one : (b : Bases) (i j : ℕ) → i ≡ j → may_close b i j ≡ false
may_one b i j e = either (may_close b i j) (λ y. absurd (omega (arith, may_far b i j y))) (λ y. y)

-- the cells of the columns before j, and cells without structures after them: a table of which the rule keeps the range
abbrev cut : Table → Table → ℕ → Cells Cell
cut v m j k l = cond (ltb l j) (v k l, pos 0, m k l) (mark, pos 0, mark)

module _ (b : Bases) (v m : Table) (j : ℕ) (fv : Fine (InPaired b) v j) (fm : Fine InRange m j) where
  cut_ranged : (k l : ℕ) → k ≤ l → Ranged b k l (cut v m j k l)
  cut_ranged k l h =
      ⊎_elim
      (λ o.
      let x = fv k l h o in
      rw (lt-ltb l j o) (record { none = x.none; paired = x.range; any = omega (ints, floor_is k l); arms = fm k l h o }))
      (λ o. rw (le-ltb l j o) (record { none = λ _. refl; paired = omega (ints, floor_is k l); any = omega (ints, floor_is k l); arms = omega (ints, floor_is k l) }))
      (less_or l j)

  cut_is : (k l : ℕ) → l < j → cut v m j k l ≡ (v k l, pos 0, m k l)
  cut_is k l o = rw (lt-ltb l j o)

  closed_range : (i : ℕ) → i ≤ j → InRange i j (closed b v m j i)
  closed_range i h =
      ⊎_elim
      (λ l.
      let c = cut v m j in
      let r = energies_keeps b c i j h (λ k n p q u w. cut_ranged k n q) in
      subst (InRange i j)
      (ap (λ (z : Cell). z.0) (energies_more b c i j l)
      ∙ paired_before b (paired_of c) v i j (λ x y p q. ap (λ (z : Cell). z.0) (cut_is x y q)) (arms_of c) m (λ x y p q. ap (λ (z : Cell). z.2) (cut_is x y q)))
      r.paired)
      (λ l. rw (paired_none b v m i j (may_one b i j (omega arith))) (omega (ints, floor_is i j)))
      (less_or i j)

-- ---- a started column is in range
pub started_all :
    (charge limit : ℤ) (v : Table) (g₀ g₁ : ℕ → ℤ) (j from : ℕ) → from ≤ j → pos 0 ≤ℤ charge → pos 0 ≤ℤ limit → limit ≤ℤ mark →
    ((i : ℕ) → i ≤ j → InRange i j (v i j)) → Fine InRange (at g₀) j → ((i : ℕ) → from < i → i ≤ j → InRange i j (at g₀ i j)) →
    Started (begun charge limit v (at g₀) j) g₀ g₁ j (from + 1) → Fine InRange (at g₁) (j + 1)
started_all charge limit v g₀ g₁ j from h a d e r f k s i l p q =
    three l j (λ y. subst (InRange i l) (sym (started_old _ g₀ j g₁ _ s i l p y)) (f i l p y))
    (λ y. rw y (⊎_elim (λ u. kept u (omega arith)) (λ u. fresh u (omega arith)) (less_or from i)))
    (λ y. absurd (omega arith))
  where
    kept : from < i → i ≤ j → InRange i j (at g₁ i j)
    kept u w = subst (InRange i j) (sym (s.right (place i j) (omega arith))) (k i u w)

    fresh : i ≤ from → i ≤ j → InRange i j (at g₁ i j)
    fresh u w =
        subst (InRange i j) (sym (s.each i (omega arith)))
        (begun_range charge limit v (at g₀) i j a (omega (ints, floor_is i j)) e w (r i w) (λ o. f i (j - 1) (omega arith) (omega arith)))

module _ (b : Bases) (v₀ w₀ m₀ : ℕ → ℤ) (j from : ℕ) (h : from ≤ j) (f : FineFrom (Ranged b) (at (together v₀ w₀ m₀)) (from + 1) j) where
  before : (i l : ℕ) → i ≤ l → l < j → Ranged b i l (at (together v₀ w₀ m₀) i l)
  before i l p q = f i l p (omega arith) (λ e. absurd (omega arith))

  after : (i : ℕ) → from < i → i ≤ j → Ranged b i j (at (together v₀ w₀ m₀) i j)
  after i p q = f i j q (omega arith) (λ e. omega arith)

  pub before_paired : Fine (InPaired b) (at v₀) j
  before_paired i l p q = let r = before i l p q in record { none = r.none; range = r.paired }

  pub before_arms : Fine InRange (at m₀) j
  before_arms i l p q = (before i l p q).arms

  before_any : Fine InRange (at w₀) j
  before_any i l p q = let r = (before i l p q).any in omega ints

  -- the paired cells are written
  module _ (v : ℕ → ℤ) (sv : Started (closed b (at v₀) (at m₀) j) v₀ v j (from + 1)) where
    pub paired_all : (i : ℕ) → i ≤ j → InRange i j (at v i j)
    paired_all i p =
        ⊎_elim
        (λ q. subst (InRange i j) (sym (sv.right (place i j) (omega arith))) (after i q p).paired)
        (λ q. subst (InRange i j) (sym (sv.each i (omega arith))) (closed_range b (at v₀) (at m₀) j before_paired before_arms i p))
        (less_or from i)

    pub paired_smalls : j < longest + 2 → Smalls v (tri j) (from + 1)
    paired_smalls o i p = range_small i j (at v i j) o (paired_all i (omega arith))

    -- the arms are started
    pub arms_fine : (m₁ : ℕ → ℤ) → Started (begun arm_charge mark (at v) (at m₀) j) m₀ m₁ j (from + 1) → Fine InRange (at m₁) (j + 1)
    arms_fine m₁ s = started_all arm_charge mark (at v) m₀ m₁ j from h (omega ints) (omega ints) (omega ints) paired_all before_arms (λ i p q. (after i p q).arms) s

    -- any structure is
    pub any_fine : (w₁ : ℕ → ℤ) → Started (begun (pos 0) (pos 0) (at v) (at w₀) j) w₀ w₁ j (from + 1) → Fine InRange (at w₁) (j + 1)
    any_fine w₁ s =
        started_all (pos 0) (pos 0) (at v) w₀ w₁ j from h (omega ints) (omega ints) (omega ints) paired_all before_any
        (λ i p q. let r = (after i p q).any in omega ints) s

    -- and both are settled: the column obeys the rule
    module _ (w₁ w m₁ m : ℕ → ℤ) (sm : Started (begun arm_charge mark (at v) (at m₀) j) m₀ m₁ j (from + 1)) (tm : Settled minℤ link InRange m m₁ m j from 0)
        (sw : Started (begun (pos 0) (pos 0) (at v) (at w₀) j) w₀ w₁ j (from + 1)) (tw : Settled minℤ link InRange w w₁ w j from 0) where
      old_m : (i l : ℕ) → i ≤ l → l < j → at m i l ≡ at m₀ i l
      old_m i l p q = tm.left (place i l) (omega (arith, tri_below l j q)) ∙ sm.left (place i l) (omega (arith, tri_below l j q))

      old_w : (i l : ℕ) → i ≤ l → l < j → at w i l ≡ at w₀ i l
      old_w i l p q = tw.left (place i l) (omega (arith, tri_below l j q)) ∙ sw.left (place i l) (omega (arith, tri_below l j q))

      old : (k : ℕ) → k < tri j → together v w m k ≡ together v₀ w₀ m₀ k
      old k p = triple (sv.left k p) (tw.left k p ∙ sw.left k p) (tm.left k p ∙ sm.left k p)

      kept : (k : ℕ) → tri j + from < k → together v w m k ≡ together v₀ w₀ m₀ k
      kept k p =
          triple (sv.right k (omega arith)) (tw.right k p ∙ sw.right k (omega arith)) (tm.right k p ∙ sm.right k (omega arith))

      -- the three cells of row i
      is_paired_lem : (i : ℕ) → i ≤ from → at v i j ≡ paired b (at v) (at m) i j
      is_paired_lem i p =
          sv.each i (omega arith)
          ∙ paired_before b (at v₀) (at v) i j (λ x y q u. sym (started_old _ v₀ j v _ sv x y q u)) (at m₀) (at m) (λ x y q u. sym (old_m x y q u))

      begun_m : (i : ℕ) → i ≤ from → at m₁ i j ≡ begun arm_charge mark (at v) (at m) j i
      begun_m i p =
          sm.each i (omega arith) ∙ begun_same arm_charge mark (at v) (at m₀) i j (at m) (λ l. sym (old_m i (j - 1) (omega arith) (omega arith)))

      begun_w : (i : ℕ) → i ≤ from → at w₁ i j ≡ begun (pos 0) (pos 0) (at v) (at w) j i
      begun_w i p =
          sw.each i (omega arith) ∙ begun_same (pos 0) (pos 0) (at v) (at w₀) i j (at w) (λ l. sym (old_w i (j - 1) (omega arith) (omega arith)))

      obeys : (i : ℕ) → i ≤ from → at (together v w m) i j ≡ energies b (at (together v w m)) i j
      obeys i p =
          ⊎_elim
          (λ l.
          let e = is_paired_lem i p in
          let k = (paired_all i (omega arith)).high in
          triple e
          (settled_value i _ tw p (begun_w i p) ∙ any_rule (at v) (at w) i j l k ∙ ap (λ (z : ℤ). any z (at w) i j) e)
          (settled_value i _ tm p (begun_m i p) ∙ arms_rule (at v) (at m) i j l k ∙ ap (λ (z : ℤ). armed z (at m) i j) e)
          ∙ sym (energies_more b (at (together v w m)) i j l))
          (λ l.
          let e : i ≡ j = omega arith in
          triple (is_paired_lem i p ∙ paired_none b (at v) (at m) i j (may_one b i j e))
          (settled_value i _ tw p (begun_w i p) ∙ sym (gather_none minℤ _ (parts link (at w) i j) i (j - i) (omega arith)) ∙ sym (begun_one (pos 0) (pos 0) (at v) (at w) i j l))
          (settled_value i _ tm p (begun_m i p) ∙ sym (gather_none minℤ _ (parts link (at m) i j) i (j - i) (omega arith)) ∙ sym (begun_one arm_charge mark (at v) (at m) i j l))
          ∙ rw e (sym (energies_one b (at (together v w m)) j)))
          (less_or i j)

      any_low : (i : ℕ) → i ≤ from → at w i j ≤ℤ pos 0
      any_low i p =
          let e = settled_value i _ tw p (begun_w i p) in
          let z = begun (pos 0) (pos 0) (at v) (at w) j i in
          omega (ints, gather_low z (parts link (at w) i j) i (j - i), begun_limit (pos 0) (pos 0) (at v) (at w) i j)

      mine : (i : ℕ) → i ≤ j → Ranged b i j (at (together v w m) i j)
      mine i p =
          ⊎_elim
          (λ q. subst (Ranged b i j) (sym (kept (place i j) (omega arith))) (after i q p))
          (λ q. record {
            none = λ y. is_paired_lem i q ∙ paired_none b (at v) (at m) i j y;
            paired = paired_all i p;
            any = record { low = (tw.fine i j p (omega arith)).low; high = any_low i q };
            arms = tm.fine i j p (omega arith);
          })
          (less_or from i)

      pub column_rows : Rows energies Ranged b (together v₀ w₀ m₀) (together v w m) j from 0
      column_rows =
          record {
            left = old;
            right = kept;
            fresh = λ k p q. obeys k q;
            fine = λ k l p q x.
                three l j (λ y. subst (Ranged b k l) (sym (old (place k l) (omega (arith, tri_below l j y)))) (before k l p y))
                (λ y. rw y (mine k (omega arith)))
                (λ y. absurd (omega arith));
          }
