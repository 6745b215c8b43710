-- The energy rule among cell rules: it looks at nothing but the bases and the shorter spans inside, and keeps cells in range, be they right or wrong.
use mathlib.Core.Path.{◌≡◌, refl, sym, ap, ap₂, ◌∙◌, subst}
use mathlib.Core.Logic.{⊎_elim, by_cases}
use mathlib.Core.Bool.{true, false}
use Prim.Native.Nat.{ℕ, suc, ◌+◌, ◌-◌, ◌*◌, ◌/◌, ◌<◌, ◌≤◌, min}
use native.Mathlib.Omega.{arith}
use native.Mathlib.Decide.{ℕ_discrete}
use lib.IntN.{ℤ, pos}
use lib.Signed.{◌≤ℤ◌}
use borrow.Author.Tests.{lt-ltb, le-ltb}
use Rattle.cells.specs.Rule.{Bases, Cells, Local, SameBases, SameInside}
use Rattle.cells.specs.Fill.{Keeps, FineInside}
use Rattle.ints.specs.Ints.{mark, add_e, minℤ, In, Small}
use Rattle.ints.proofs.Ints.{ints, sum, neg, up, dn, either}
use Rattle.ints.proofs.Minima.{less, min_by, min_le_l, min_le_r, add_by, least_ext}
use Rattle.figures.specs.Figures.{longest_side, longest}
use Rattle.figures.proofs.Charges.{figure_low, longest_low}
use Rattle.closing.specs.Closing.{may_close, own, hairpin_at}
use Rattle.closing.proofs.Closing.{own_in, hairpin_at_in}
use Rattle.energy_rule.specs.Rule.{Table, Cell, closing_charge, arm_charge, inner_at, lowest, inner_from, interior, paired, splits, any, armed, energies, paired_of, any_of, arms_of}
use Rattle.energy_rule.specs.Bounds.{deepest, floor, Ranged}
use Rattle.energy_rule.proofs.Parts.{lowest_is, may_far, interior_real, split_real, split_cap}

-- ---- the rule by its two cases
pub energies_one : (b : Bases) (c : Cells Cell) (i : ℕ) → energies b c i i ≡ (mark, pos 0, mark)
unfolding energies
energies_one b c i = rw (le-ltb i i (omega arith))

-- the paired cell that the rule gives
abbrev pub closed : Bases → Cells Cell → ℕ → ℕ → ℤ
closed b c i j = paired b (paired_of c) (arms_of c) i j

pub energies_more : (b : Bases) (c : Cells Cell) (i j : ℕ) → i < j
    → energies b c i j ≡ (closed b c i j, any (closed b c i j) (any_of c) i j, armed (closed b c i j) (arms_of c) i j)
unfolding energies
energies_more b c i j h = rw (lt-ltb i j h)

-- ---- it looks only inside its span
module _ (b b' : Bases) (i j : ℕ) (s : SameBases b b' i j) where
  pub may_local : (x y : ℕ) → i ≤ x → x ≤ j → i ≤ y → y ≤ j → may_close b x y ≡ may_close b' x y
  unfolding may_close
  may_local x y p q u t = rw (s x p q, s y u t)

  pub own_local : (x y : ℕ) → i ≤ j → i ≤ x → x ≤ j → i ≤ y → y ≤ j → own b i j x y ≡ own b' i j x y
  unfolding own
  own_local x y h p q u t = rw (s i (omega arith) h, s j h (omega arith), s x p q, s y u t)

  pub hairpin_local : i < j → hairpin_at b i j ≡ hairpin_at b' i j
  unfolding hairpin_at
  hairpin_local h = rw (s (i + 1) (omega arith) (omega arith), s (j - 1) (omega arith) (omega arith))

  module _ (v v' : Table) (e : SameInside v v' i j) (h : i < j) where
    interior_local : interior b v i j ≡ interior b' v' i j
    unfolding interior inner_from inner_at
    interior_local =
        least_ext (inner_from b v i j) (inner_from b' v' i j) (i + 1) (min (suc longest_side) (j - (i + 1)))
        (λ x l u. least_ext (inner_at b v i j x) (inner_at b' v' i j x) (lowest j x) (j - lowest j x)
        (λ y p q. let w = lowest_is j x in
        rw (
          may_local x y (omega arith) (omega arith) (omega arith) (omega arith),
          e x y (omega arith) (omega arith) (omega arith) (omega arith),
          own_local x y (omega arith) (omega arith) (omega arith) (omega arith) (omega arith),
        )))

    paired_local : (m m' : Table) → SameInside m m' i j → paired b v m i j ≡ paired b' v' m' i j
    unfolding paired
    paired_local m m' em =
        either (may_close b i j)
        (λ y. let far = may_far b i j y in
        rw (
          ← may_local i j (omega arith) (omega arith) (omega arith) (omega arith),
          y,
          hairpin_local h,
          interior_local,
          em (i + 1) (j - 1) (omega arith) (omega arith) (omega arith) (omega arith),
        ))
        (λ y. rw (← may_local i j (omega arith) (omega arith) (omega arith) (omega arith), y))

module _ (c c' : Table) (i j : ℕ) (h : i < j) (e : SameInside c c' i j) where
  splits_local : splits c i j ≡ splits c' i j
  unfolding splits
  splits_local =
      least_ext _ _ (i + 1) (j - (i + 1))
      (λ k l u. ap₂ add_e (e i k (omega arith) (omega arith) (omega arith) (omega arith)) (e (k + 1) j (omega arith) (omega arith) (omega arith) (omega arith)))

  shorter_local : minℤ (c (i + 1) j) (c i (j - 1)) ≡ minℤ (c' (i + 1) j) (c' i (j - 1))
  shorter_local =
      ap₂ minℤ (e (i + 1) j (omega arith) (omega arith) (omega arith) (omega arith)) (e i (j - 1) (omega arith) (omega arith) (omega arith) (omega arith))

  any_local : (z : ℤ) → any z c i j ≡ any z c' i j
  unfolding any
  any_local z = ap₂ (λ x y. minℤ (minℤ (minℤ (pos 0) z) x) y) shorter_local splits_local

  armed_local : (z : ℤ) → armed z c i j ≡ armed z c' i j
  unfolding armed
  armed_local z = ap₂ (λ x y. minℤ (minℤ (add_e z arm_charge) x) y) shorter_local splits_local

pub triple : {x x' y y' z z' : ℤ} → x ≡ x' → y ≡ y' → z ≡ z' → ◌≡◌ {A = Cell} (x, y, z) (x', y', z')
triple {x} {x'} {y} {y'} {z} {z'} p q r = ap (λ (a : ℤ). (a, y, z)) p ∙ ap (λ (a : ℤ). (x', a, z)) q ∙ ap (λ (a : ℤ). (x', y', a)) r

pub energies_local : Local energies
energies_local b b' c c' i j h s e =
    by_cases (ℕ_discrete i j)
    (λ q. rw q (energies_one b c j ∙ sym (energies_one b' c' j)))
    (λ ne.
    let l : i < j = omega arith in
    let ev : SameInside (paired_of c) (paired_of c') i j = λ x y p q u t. ap (λ (z : Cell). z.0) (e x y p q u t) in
    let ew : SameInside (any_of c) (any_of c') i j = λ x y p q u t. ap (λ (z : Cell). z.1) (e x y p q u t) in
    let em : SameInside (arms_of c) (arms_of c') i j = λ x y p q u t. ap (λ (z : Cell). z.2) (e x y p q u t) in
    let z = closed b c i j in
    let k = paired_local b b' i j s (paired_of c) (paired_of c') ev l (arms_of c) (arms_of c') em in
    energies_more b c i j l
    ∙ triple k (any_local (any_of c) (any_of c') i j l ew z ∙ ap (λ x. any x (any_of c') i j) k) (armed_local (arms_of c) (arms_of c') i j l em z ∙ ap (λ x. armed x (arms_of c') i j) k)
    ∙ sym (energies_more b' c' i j l))

-- ---- it keeps cells in range
-- the floor, as a fact for `omega`
pub floor_is : (i j : ℕ) → (up (floor i j) ≡ 0) × (dn (floor i j) ≡ deepest * ((j + 1 - i) / 2))
floor_is i j = neg (pos (deepest * ((j + 1 - i) / 2)))

module _ (i j : ℕ) where
  -- at or above the floor of the span
  abbrev Low : ℤ → Type 0
  Low z = floor i j ≤ℤ z

  low_min : (x y : ℤ) → Low x → Low y → Low (minℤ x y)
  low_min x y p q = min_by x y Low (λ _. p) (λ _. q)

  low_mark : (z : ℤ) → mark ≤ℤ z → Low z
  low_mark z h = omega (ints, floor_is i j)

  low_add : (z a : ℤ) → pos 0 ≤ℤ a → Low z → Low (add_e z a)
  low_add z a u h = add_by z a Low (λ _ _. omega (ints, sum z a)) (λ _. omega (ints, floor_is i j))

  low_wider : (x y : ℕ) (z : ℤ) → i ≤ x → y ≤ j → floor x y ≤ℤ z → Low z
  low_wider x y z p q h = omega (ints, floor_is i j, floor_is x y)

  -- the cells of shorter spans inside are in theirs
  module _ (c : Table) (o : i < j) (e : FineInside (λ x y z. floor x y ≤ℤ z) c i j) where
    low_splits : Low (splits c i j)
    low_splits =
        ⊎_elim
        (λ h.
        let k = split_real c i j o h in
        let a = k.from in
        let d = k.to in
        let t = k.value in
        let x = e i k.at (omega arith) (omega arith) (omega arith) (omega arith) in
        let y = e (suc k.at) j (omega arith) (omega arith) (omega arith) (omega arith) in
        omega (ints, floor_is i j, floor_is i k.at, floor_is (suc k.at) j, sum (c i k.at) (c (suc k.at) j)))
        (λ h. low_mark (splits c i j) h)
        (less (splits c i j) mark)

    low_shorter : Low (minℤ (c (i + 1) j) (c i (j - 1)))
    low_shorter =
        low_min (c (i + 1) j) (c i (j - 1))
        (low_wider (i + 1) j (c (i + 1) j) (omega arith) (omega arith) (e (i + 1) j (omega arith) (omega arith) (omega arith) (omega arith)))
        (low_wider i (j - 1) (c i (j - 1)) (omega arith) (omega arith) (e i (j - 1) (omega arith) (omega arith) (omega arith) (omega arith)))

    low_interior : (b : Bases) → Low (interior b c i j)
    low_interior b =
        ⊎_elim
        (λ h.
        let q = interior_real b c i j h in
        let a = q.from in
        let d = q.far in
        let g = q.to in
        let t = q.value in
        let x = e q.x q.y (omega arith) (omega arith) (omega arith) (omega arith) in
        omega (ints, floor_is i j, floor_is q.x q.y, own_in b i j q.x q.y, sum (c q.x q.y) (own b i j q.x q.y)))
        (λ h. low_mark (interior b c i j) h)
        (less (interior b c i j) mark)

    any_in : (z : ℤ) → Low z → In (floor i j) (pos 0) (any z c i j)
    unfolding any
    any_in z h =
        let p = minℤ (pos 0) z in
        let s = minℤ (c (i + 1) j) (c i (j - 1)) in
        record {
          low = low_min (minℤ p s) (splits c i j) (low_min p s (low_min (pos 0) z (omega (ints, floor_is i j)) h) low_shorter) low_splits;
          high = omega (ints, min_le_l (minℤ p s) (splits c i j), min_le_l p s, min_le_l (pos 0) z);
        }

    armed_in_lem : (z : ℤ) → Low z → In (floor i j) mark (armed z c i j)
    unfolding armed
    armed_in_lem z h =
        let p = add_e z arm_charge in
        let s = minℤ (c (i + 1) j) (c i (j - 1)) in
        record {
          low = low_min (minℤ p s) (splits c i j) (low_min p s (low_add z arm_charge (omega ints) h) low_shorter) low_splits;
          high = omega (ints, min_le_r (minℤ p s) (splits c i j), split_cap c i j);
        }

    paired_in : (b : Bases) (m : Table) → FineInside (λ x y z. floor x y ≤ℤ z) m i j → may_close b i j ≡ true → In (floor i j) mark (paired b c m i j)
    unfolding paired
    paired_in b m g y =
        let far = may_far b i j y in
        let s = hairpin_at b i j in
        let t = interior b c i j in
        let k = m (i + 1) (j - 1) in
        let a = add_e k closing_charge in
        let w = hairpin_at_in b i j in
        rw y (record {
          low = low_min (minℤ s t) a (low_min s t (omega (ints, floor_is i j)) (low_interior b))
              (low_add k closing_charge (omega ints) (low_wider (i + 1) (j - 1) k (omega arith) (omega arith) (g (i + 1) (j - 1) (omega arith) (omega arith) (omega arith) (omega arith))));
          high = omega (ints, figure_low, min_le_l (minℤ s t) a, min_le_l s t);
        })

pub paired_none : (b : Bases) (v m : Table) (i j : ℕ) → may_close b i j ≡ false → paired b v m i j ≡ mark
unfolding paired
paired_none b v m i j e = rw e

pub energies_keeps : Keeps energies Ranged
energies_keeps b c i j h f =
    by_cases (ℕ_discrete i j)
    (λ q. rw q (subst (Ranged b j j) (sym (energies_one b c j))
    (record { none = λ _. refl; paired = omega (ints, floor_is j j); any = omega (ints, floor_is j j); arms = omega (ints, floor_is j j) })))
    (λ ne.
    let l : i < j = omega arith in
    let z = closed b c i j in
    let fv : FineInside (λ x y z. floor x y ≤ℤ z) (paired_of c) i j = λ x y p q u t. (f x y p q u t).paired.low in
    let fm : FineInside (λ x y z. floor x y ≤ℤ z) (arms_of c) i j = λ x y p q u t. (f x y p q u t).arms.low in
    let x : In (floor i j) mark z
    = either (may_close b i j) (λ y. paired_in i j (paired_of c) l fv b (arms_of c) fm y)
    (λ y. rw (paired_none b (paired_of c) (arms_of c) i j y) (omega (ints, floor_is i j))) in
    subst (Ranged b i j) (sym (energies_more b c i j l))
    (record {
      none = λ y. paired_none b (paired_of c) (arms_of c) i j y;
      paired = x;
      any = any_in i j (any_of c) l (λ x y p q u t. (f x y p q u t).any.low) z x.low;
      arms = armed_in_lem i j (arms_of c) l fm z x.low;
    }))

-- ---- what is in range may stand in a sum
pub ranged_small : (b : Bases) (i j : ℕ) (c : Cell) → j < longest + 2 → Ranged b i j c → Small c.0 × Small c.1 × Small c.2
ranged_small b i j c h r =
    let p = r.paired in
    let a = r.any in
    let m = r.arms in
    (omega (ints, longest_low, floor_is i j), omega (ints, longest_low, floor_is i j), omega (ints, longest_low, floor_is i j))
