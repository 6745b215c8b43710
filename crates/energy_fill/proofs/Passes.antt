-- The steps of the passes, and what they make of a column: the cell rule. Assumes nothing.
use mathlib.Core.Path.{◌≡◌, refl, sym, ap, ap₂, subst, ◌∙◌}
use mathlib.Core.Logic.{⊎_elim}
use mathlib.Core.Bool.{true}
use Prim.Native.Nat.{ℕ, zero, suc, ◌+◌, ◌-◌, ◌≤◌, ◌<◌, min}
use native.Mathlib.Omega.{arith}
use lib.IntN.{ℤ, pos}
use lib.Signed.{◌≤ℤ◌}
use borrow.Author.Tests.{lt-ltb, le-ltb, eq-eqb, ne_eqb}
use Rattle.cells.specs.Tri.{tri, place}
use Rattle.cells.specs.Rule.{Bases}
use Rattle.cells.specs.Fill.{at, Fine}
use Rattle.cells.specs.Pass.{gather, parts, Raised, Taken}
use Rattle.cells.proofs.Places.{less_or, three, tri_below}
use Rattle.cells.proofs.Passes.{gather_front, tri_back}
use Rattle.cells.proofs.Fills.{Put}
use Rattle.ints.specs.Ints.{minℤ, mark, add_e, min_from}
use Rattle.ints.proofs.Ints.{ints, sum, either}
use Rattle.ints.proofs.Minima.{min_by, min_le_l, min_le_r, add_by, least_ext}
use Rattle.figures.specs.Figures.{longest_side}
use Rattle.closing.specs.Closing.{may_close, hairpin_at}
use Rattle.energy_rule.specs.Rule.{Table, closing_charge, arm_charge, inner_at, lowest, inner_from, interior, paired, splits, any, armed}
use Rattle.energy_rule.specs.Bounds.{floor}
use Rattle.energy_rule.proofs.Parts.{lowest_is, may_far, split_cap}
use Rattle.energy_rule.proofs.Ruling.{floor_is}
use Rattle.energy_inner.specs.Search.{InRange}
use Rattle.energy_inner.proofs.Searching.{min_glb}
use Rattle.energy_fill.specs.Passes.{Started, closed, begun, link}

-- ---- starting a column
module _ (f g₀ : ℕ → ℤ) (j : ℕ) where
  pub started_more :
      (g g' : ℕ → ℤ) (n p : ℕ) (x : ℤ) → p ≡ place n j → Put g g' p x → x ≡ f n → Started f g₀ g j n → Started f g₀ g' j (n + 1)
  started_more g g' n p x w put e r =
      record {
        left = λ k s. put.off k (λ q. omega arith) ∙ r.left k s;
        right = λ k s. put.off k (λ q. omega arith) ∙ r.right k (omega arith);
        each = λ i s. three i n (λ q. put.off (place i j) (λ u. omega arith) ∙ r.each i q) (λ q. rw q (ap g' (sym w) ∙ put.here ∙ e)) (λ q. absurd (omega arith));
      }

  -- the columns before are as they were
  pub started_old : (g : ℕ → ℤ) (n : ℕ) → Started f g₀ g j n → (i l : ℕ) → i ≤ l → l < j → at g i l ≡ at g₀ i l
  started_old g n r i l h m = r.left (place i l) (omega (arith, tri_below l j m))

  pub started_fine : (Ok : ℕ → ℕ → ℤ → Type 0) (g : ℕ → ℤ) (n : ℕ) → Started f g₀ g j n → Fine Ok (at g₀) j → Fine Ok (at g) j
  started_fine Ok g n r o i l h m = subst (Ok i l) (sym (started_old g n r i l h m)) (o i l h m)

-- ---- what a cell begins with
pub begun_one : (charge limit : ℤ) (v c : Table) (i j : ℕ) → j ≤ i → limit ≡ begun charge limit v c j i
unfolding begun
begun_one charge limit v c i j h = rw (le-ltb i j h)

pub begun_more : (charge limit : ℤ) (v c : Table) (i j : ℕ) → i < j → minℤ (minℤ limit (add_e (v i j) charge)) (c i (j - 1)) ≡ begun charge limit v c j i
unfolding begun
begun_more charge limit v c i j h = rw (lt-ltb i j h)

-- its charge, its limit and the number of rows by other names
pub begun_by :
    (v c : Table) (g₀ g : ℕ → ℤ) (j : ℕ) {x x' y y' : ℤ} {n n' : ℕ} → x ≡ x' → y ≡ y' → n ≡ n' → Started (begun x y v c j) g₀ g j n →
    Started (begun x' y' v c j) g₀ g j n'
begun_by v c g₀ g j p q r s = rw (← p, ← q, ← r) s

-- a column starts at least as many places in as its number
pub tri_wide : (j : ℕ) → j ≤ tri j
tri_wide j = ⊎_elim (λ h. omega (arith, tri_back j h)) (λ h. omega arith) (less_or 0 j)

-- one more cell, as the loop finds it
pub begun_next :
    (charge limit : ℤ) (v f g₀ g : ℕ → ℤ) (i j to : ℕ) → to ≡ tri j → i < j → Started f g₀ g j i →
    minℤ (minℤ limit (add_e (v (to + i)) charge)) (g (to - j + i)) ≡ begun charge limit (at v) (at g₀) j i
begun_next charge limit v f g₀ g i j to w h r =
    let p : to - j + i ≡ place i (j - 1) = omega (arith, tri_back j (omega arith)) in
    ap₂ minℤ (ap (λ (y : ℕ). minℤ limit (add_e (v (y + i)) charge)) w) (ap g p ∙ started_old f g₀ j g i r i (j - 1) (omega arith) (omega arith))
    ∙ begun_more charge limit (at v) (at g₀) i j h

module _ (charge limit : ℤ) (v c : Table) (i j : ℕ) where
  pub begun_limit : begun charge limit v c j i ≤ℤ limit
  begun_limit =
      ⊎_elim
      (λ h.
      let a = minℤ limit (add_e (v i j) charge) in
      omega (ints, begun_more charge limit v c i j h, min_le_l a (c i (j - 1)), min_le_l limit (add_e (v i j) charge)))
      (λ h. omega (ints, begun_one charge limit v c i j h))
      (less_or i j)

  pub begun_same : (c' : Table) → (i < j → c i (j - 1) ≡ c' i (j - 1)) → begun charge limit v c j i ≡ begun charge limit v c' j i
  begun_same c' e =
      ⊎_elim
      (λ h. sym (begun_more charge limit v c i j h) ∙ ap (minℤ (minℤ limit (add_e (v i j) charge))) (e h) ∙ begun_more charge limit v c' i j h)
      (λ h. sym (begun_one charge limit v c i j h) ∙ begun_one charge limit v c' i j h)
      (less_or i j)

  pub begun_range :
      pos 0 ≤ℤ charge → floor i j ≤ℤ limit → limit ≤ℤ mark → i ≤ j → InRange i j (v i j) → (i < j → InRange i (j - 1) (c i (j - 1))) →
      InRange i j (begun charge limit v c j i)
  begun_range h p q l r s =
      ⊎_elim
      (λ o. record { low = subst (λ (z : ℤ). floor i j ≤ℤ z) (begun_more charge limit v c i j o) (low o); high = omega (ints, begun_limit) })
      (λ o. omega (ints, begun_one charge limit v c i j o))
      (less_or i j)
    where
      low : i < j → floor i j ≤ℤ minℤ (minℤ limit (add_e (v i j) charge)) (c i (j - 1))
      low o =
          min_glb _ _ _
          (min_glb _ _ _ p
          (add_by (v i j) charge (λ (z : ℤ). floor i j ≤ℤ z) (λ a d. omega (ints, sum (v i j) charge)) (λ _. omega (ints, floor_is i j))))
          (let t = s o in omega (ints, floor_is i j, floor_is i (j - 1)))

-- ---- splits
pub link_far : (i k : ℕ) (x y : ℤ) → (i ≡ k → ⊥) → add_e x y ≡ link i k x y
unfolding link
link_far i k x y n = simp (ne_eqb i k n)

pub link_own : (k : ℕ) (x y : ℤ) → y ≡ link k k x y
unfolding link
link_own k x y = simp (eq-eqb k k refl)

-- a cell in range stays so when two cells in range side by side are joined in
pub range_step :
    (i k j : ℕ) (v x y : ℤ) → i ≤ k → k < j → InRange i j v → InRange i k x → InRange (k + 1) j y → InRange i j (minℤ v (link i k x y))
range_step i k j v x y h l p q r =
    three i k (λ s. rw (← link_far i k x y (λ e. omega arith)) (joined (add_e x y) far))
    (λ s. rw (← s, ← link_own i x y) (joined y (omega (ints, floor_is i j, floor_is (k + 1) j))))
    (λ s. absurd (omega arith))
  where
    joined : (z : ℤ) → floor i j ≤ℤ z → InRange i j (minℤ v z)
    joined z o = record { low = min_glb _ v z p.low o; high = omega (ints, min_le_l v z) }

    far : floor i j ≤ℤ add_e x y
    far =
        add_by x y (λ (z : ℤ). floor i j ≤ℤ z)
        (λ a b. omega (ints, sum x y, floor_is i j, floor_is i k, floor_is (k + 1) j))
        (λ _. omega (ints, floor_is i j))

-- what a pass and a store make of the split after k
module _ (g g' : ℕ → ℤ) (j from k col to n : ℕ) (v : ℤ) (c : col ≡ tri k) (w : to ≡ tri j) (s : n ≡ min k (from + 1)) (x : v ≡ at g (k + 1) j)
    (d : Raised minℤ (λ x. add_e x v) g g g' col to n) where
  passed : (i : ℕ) → i < k → i ≤ from → at g' i j ≡ minℤ (at g i j) (parts link (at g) i j k)
  passed i h m =
      ap (λ y. g' (y + i)) (sym w)
      ∙ d.each i (omega arith)
      ∙ ap₂ minℤ (ap (λ y. g (y + i)) w) (ap₂ add_e (ap (λ y. g (y + i)) c) x ∙ link_far i k _ _ (λ q. omega arith))

  pub taken_far : from < k → Taken minℤ link g g g' j from k
  taken_far h =
      record {
        left = λ y q. d.left y (omega arith);
        right = λ y q. d.right y (omega arith);
        after = λ i q. d.right (place i j) (omega arith);
        each = λ i q u. passed i (omega arith) u;
      }

  pub taken_near : (g'' : ℕ → ℤ) (p : ℕ) (z : ℤ) → k ≤ from → p ≡ place k j → Put g' g'' p z → z ≡ minℤ (g' p) v → Taken minℤ link g g g'' j from k
  taken_near g'' p z h q put t =
      record {
        left = λ y u. put.off y (λ o. omega arith) ∙ d.left y (omega arith);
        right = λ y u. put.off y (λ o. omega arith) ∙ d.right y (omega arith);
        after = λ i u. put.off (place i j) (λ o. omega arith) ∙ d.right (place i j) (omega arith);
        each = λ i u m. three i k (λ l. put.off (place i j) (λ o. omega arith) ∙ passed i l m) (λ l. rw l own) (λ l. absurd (omega arith));
      }
    where
      own : at g'' k j ≡ minℤ (at g k j) (parts link (at g) k j k)
      own =
          ap g'' (sym q)
          ∙ put.here
          ∙ t
          ∙ ap₂ minℤ (ap g' q ∙ d.right (place k j) (omega arith)) (x ∙ link_own k _ _)

-- ---- all splits together
-- one more in front of a run
least_down : (f : ℕ → ℤ) (lo m : ℕ) → min_from f lo (suc m) ≡ minℤ (min_from f (lo + 1) m) (f lo)
unfolding min_from
least_down f lo zero = let e : lo + 0 ≡ lo = omega arith in ap (λ (x : ℕ). minℤ mark (f x)) e
least_down f lo (suc m) =
    let e : lo + suc m ≡ lo + 1 + m = omega arith in
    ap₂ (λ x y. minℤ x (f y)) (least_down f lo m) e ∙ swap (min_from f (lo + 1) m) (f lo) (f (lo + 1 + m))
  where
    swap : (a b c : ℤ) → minℤ (minℤ a b) c ≡ minℤ (minℤ a c) b
    swap a b c =
        let p : minℤ (minℤ a b) c ≤ℤ minℤ (minℤ a c) b =
        min_glb _ _ b (min_glb _ a c (omega (ints, min_le_l (minℤ a b) c, min_le_l a b)) (min_le_r (minℤ a b) c)) (omega (ints, min_le_l (minℤ a b) c, min_le_r a b)) in
        let q : minℤ (minℤ a c) b ≤ℤ minℤ (minℤ a b) c =
        min_glb _ _ c (min_glb _ a b (omega (ints, min_le_l (minℤ a c) b, min_le_l a c)) (min_le_r (minℤ a c) b)) (omega (ints, min_le_l (minℤ a c) b, min_le_r a c)) in
        omega ints

-- the least of v and a run, joined from the last to the first
gather_least : (v : ℤ) (f : ℕ → ℤ) (lo m : ℕ) → v ≤ℤ mark → gather minℤ v f lo m ≡ minℤ v (min_from f lo m)
unfolding gather min_from
gather_least v f lo zero h = min_by v mark (λ (z : ℤ). v ≡ z) (λ _. refl) (λ o. omega ints)
gather_least v f lo (suc m) h =
    ap (λ (x : ℤ). minℤ x (f lo)) (gather_least v f (lo + 1) m h) ∙ assoc v (min_from f (lo + 1) m) (f lo) ∙ ap (minℤ v) (sym (least_down f lo m))
  where
    assoc : (a b c : ℤ) → minℤ (minℤ a b) c ≡ minℤ a (minℤ b c)
    assoc a b c =
        let p : minℤ (minℤ a b) c ≤ℤ minℤ a (minℤ b c) =
        min_glb _ a _ (omega (ints, min_le_l (minℤ a b) c, min_le_l a b)) (min_glb _ b c (omega (ints, min_le_l (minℤ a b) c, min_le_r a b)) (min_le_r (minℤ a b) c)) in
        let q : minℤ a (minℤ b c) ≤ℤ minℤ (minℤ a b) c =
        min_glb _ _ c (min_glb _ a b (min_le_l a (minℤ b c)) (omega (ints, min_le_r a (minℤ b c), min_le_l b c))) (omega (ints, min_le_r a (minℤ b c), min_le_r b c)) in
        omega ints

pub gather_low : (v : ℤ) (f : ℕ → ℤ) (lo m : ℕ) → gather minℤ v f lo m ≤ℤ v
unfolding gather
gather_low v f lo zero = omega ints
gather_low v f lo (suc m) = omega (ints, gather_low v f (lo + 1) m, min_le_l (gather minℤ v f (lo + 1) m) (f lo))

-- the splits after i, and i unpaired
gather_splits : (v : ℤ) (c : Table) (i j : ℕ) → v ≤ℤ mark → i < j → gather minℤ v (parts link c i j) i (j - i) ≡ minℤ (minℤ v (splits c i j)) (c (i + 1) j)
unfolding splits
gather_splits v c i j h l =
    gather_front minℤ v (parts link c i j) i (i + 1) j refl l
    ∙ ap₂ minℤ
    (gather_least v (parts link c i j) (i + 1) (j - (i + 1)) h
    ∙ ap (minℤ v) (least_ext _ _ (i + 1) (j - (i + 1)) (λ k p q. sym (link_far i k _ _ (λ e. omega arith)))))
    (sym (link_own i _ _))

-- the order in which the rules name them
order : (p c d s : ℤ) → minℤ (minℤ (minℤ p d) s) c ≡ minℤ (minℤ p (minℤ c d)) s
order p c d s =
    let x = minℤ (minℤ (minℤ p d) s) c in
    let y = minℤ (minℤ p (minℤ c d)) s in
    let a = min_le_l (minℤ (minℤ p d) s) c in
    let b = min_le_l (minℤ p d) s in
    let e = min_le_l (minℤ p (minℤ c d)) s in
    let f = min_le_r p (minℤ c d) in
    let to : x ≤ℤ y =
    min_glb _ _ s (min_glb _ p _ (omega (ints, min_le_l p d)) (min_glb _ c d (min_le_r (minℤ (minℤ p d) s) c) (omega (ints, min_le_r p d))))
    (omega (ints, min_le_r (minℤ p d) s)) in
    let back : y ≤ℤ x =
    min_glb _ _ c (min_glb _ _ s (min_glb _ p d (omega (ints, min_le_l p (minℤ c d))) (omega (ints, min_le_r c d))) (min_le_r (minℤ p (minℤ c d)) s))
    (omega (ints, min_le_l c d)) in
    omega ints

-- a limit of the mark changes nothing where the mark is among them
under : (a t s : ℤ) → s ≤ℤ mark → minℤ (minℤ (minℤ mark a) t) s ≡ minℤ (minℤ a t) s
under a t s h =
    let x = minℤ (minℤ (minℤ mark a) t) s in
    let y = minℤ (minℤ a t) s in
    let l = min_le_l (minℤ (minℤ mark a) t) s in
    let m = min_le_l (minℤ a t) s in
    let to : x ≤ℤ y =
    min_glb _ _ s (min_glb _ a t (omega (ints, min_le_l (minℤ mark a) t, min_le_r mark a)) (omega (ints, min_le_r (minℤ mark a) t))) (min_le_r (minℤ (minℤ mark a) t) s) in
    let back : y ≤ℤ x =
    min_glb _ _ s (min_glb _ _ t (min_glb _ mark a (omega (ints, min_le_r (minℤ a t) s)) (omega (ints, min_le_l a t))) (omega (ints, min_le_r a t))) (min_le_r (minℤ a t) s) in
    omega ints

module _ (v c : Table) (i j : ℕ) (h : i < j) (k : v i j ≤ℤ mark) where
  -- arms: started with the charge of one, and settled
  pub arms_rule : gather minℤ (begun arm_charge mark v c j i) (parts link c i j) i (j - i) ≡ armed (v i j) c i j
  unfolding armed
  arms_rule =
      gather_splits (begun arm_charge mark v c j i) c i j (begun_limit arm_charge mark v c i j) h
      ∙ ap (λ (z : ℤ). minℤ (minℤ z (splits c i j)) (c (i + 1) j)) (sym (begun_more arm_charge mark v c i j h))
      ∙ order (minℤ mark (add_e (v i j) arm_charge)) (c (i + 1) j) (c i (j - 1)) (splits c i j)
      ∙ under (add_e (v i j) arm_charge) (minℤ (c (i + 1) j) (c i (j - 1))) (splits c i j) (split_cap c i j)

  -- any structure: started with nothing paired, and settled
  pub any_rule : gather minℤ (begun (pos 0) (pos 0) v c j i) (parts link c i j) i (j - i) ≡ any (v i j) c i j
  unfolding any
  any_rule =
      gather_splits (begun (pos 0) (pos 0) v c j i) c i j (let l = begun_limit (pos 0) (pos 0) v c i j in omega ints) h
      ∙ ap (λ (z : ℤ). minℤ (minℤ z (splits c i j)) (c (i + 1) j)) (sym (begun_more (pos 0) (pos 0) v c i j h) ∙ ap (λ (z : ℤ). minℤ (minℤ (pos 0) z) (c i (j - 1))) bare)
      ∙ order (minℤ (pos 0) (v i j)) (c (i + 1) j) (c i (j - 1)) (splits c i j)
    where
      bare : add_e (v i j) (pos 0) ≡ v i j
      bare = add_by (v i j) (pos 0) (λ (z : ℤ). z ≡ v i j) (λ p q. omega (ints, sum (v i j) (pos 0))) (λ w. ⊎_elim (λ o. omega ints) (λ o. absurd (omega ints)) w)

-- ---- paired cells look at the columns before alone
abbrev Alike : Table → Table → ℕ → Type 0
Alike c c' j = (x y : ℕ) → x ≤ y → y < j → c x y ≡ c' x y

module _ (b : Bases) (v v' : Table) (i j : ℕ) (e : Alike v v' j) where
  interior_before : interior b v i j ≡ interior b v' i j
  unfolding interior inner_from inner_at
  interior_before =
      least_ext (inner_from b v i j) (inner_from b v' i j) (i + 1) (min (suc longest_side) (j - (i + 1)))
      (λ x l u. least_ext (inner_at b v i j x) (inner_at b v' i j x) (lowest j x) (j - lowest j x)
      (λ y p q. let w = lowest_is j x in rw (e x y (omega arith) (omega arith))))

  pub paired_before : (m m' : Table) → Alike m m' j → paired b v m i j ≡ paired b v' m' i j
  unfolding paired
  paired_before m m' em =
      either (may_close b i j)
      (λ y. let far = may_far b i j y in rw (y, interior_before, em (i + 1) (j - 1) (omega arith) (omega arith)))
      (λ y. rw y)

pub paired_some : (b : Bases) (v m : Table) (i j : ℕ) → may_close b i j ≡ true
    → minℤ (minℤ (hairpin_at b i j) (interior b v i j)) (add_e (m (i + 1) (j - 1)) closing_charge) ≡ paired b v m i j
unfolding paired
paired_some b v m i j e = rw e

-- one more paired cell, as the loop has it
pub closed_more :
    (b : Bases) (g₀ : ℕ → ℤ) (m : Table) (j : ℕ) (g g' : ℕ → ℤ) (n p : ℕ) (x : ℤ) → p ≡ place n j → Put g g' p x → x ≡ closed b (at g) m j n →
    Started (closed b (at g₀) m j) g₀ g j n → Started (closed b (at g₀) m j) g₀ g' j (n + 1)
closed_more b g₀ m j g g' n p x w put e r =
    started_more (closed b (at g₀) m j) g₀ j g g' n p x w put
    (e ∙ paired_before b (at g) (at g₀) n j (λ x y p q. started_old (closed b (at g₀) m j) g₀ j g n r x y p q) m m (λ x y p q. refl)) r
