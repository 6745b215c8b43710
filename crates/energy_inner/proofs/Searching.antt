-- The search for the one inner pair of a loop finds what the rule names: stack, two bulges of one base and the runs together are `interior`.
use mathlib.Core.Path.{◌≡◌, refl, sym, ap, ap₂, subst, ◌∙◌}
use mathlib.Core.Logic.{⊎_elim, by_cases}
use mathlib.Core.Bool.{true, false}
use mathlib.Core.List.{List}
use Prim.Native.Nat.{ℕ, suc, ◌+◌, ◌-◌, ◌*◌, ◌≤◌, ◌<◌, min}
use native.Mathlib.Omega.{arith}
use native.Mathlib.Decide.{dec_lt, ℕ_discrete}
use lib.IntN.{ℤ, ◌+ℤ◌}
use lib.Signed.{◌≤ℤ◌}
use lib.ListN.{length}
use Rattle.cells.specs.Tri.{tri, place}
use Rattle.cells.specs.Rule.{Bases}
use Rattle.cells.specs.Fill.{at, Fine}
use Rattle.cells.proofs.Places.{tri_below, place_below}
use Rattle.cells.proofs.Passes.{tri_back}
use Rattle.ints.specs.Ints.{minℤ, mark, add_e, min_from, Small}
use Rattle.ints.proofs.Ints.{ints, sum, either}
use Rattle.ints.proofs.Minima.{less, min_by, min_l, min_le_l, min_le_r, add_by, add_some, add_none_l, least_le, least_real, least_cap, least_more}
use Rattle.figures.specs.Figures.{smallest_hairpin, longest_side, longest}
use Rattle.figures.specs.Sides.{side_count, side_charge, Sides}
use Rattle.figures.proofs.Charges.{figure_low, longest_low}
use Rattle.figures.proofs.Flanks.{side_in}
use Rattle.closing.specs.Closing.{may_close, own}
use Rattle.closing.proofs.Closing.{own_in, own_side}
use Rattle.energy_rule.specs.Rule.{Table, inner_at, interior}
use Rattle.energy_rule.specs.Memory.{nums, table}
use Rattle.energy_rule.proofs.Parts.{interior_le, interior_real}
use Rattle.energy_rule.proofs.Ruling.{floor_is}
use Rattle.energy_inner.specs.Search.{Before, InRange, InPaired, Smalls, Charge, charged, low_end, side_to, side, near}

-- what is in range may stand in a sum
pub range_small : (i j : ℕ) (z : ℤ) → j < longest + 2 → InRange i j z → Small z
range_small i j z h p = omega (ints, longest_low, floor_is i j)

-- a cell of a column before can be read, and may stand in a sum
pub readable : (b : List ℕ) (v : List ℤ) (j x y : ℕ) → Before b v j → x ≤ y → y < j → (y < 65536) × (place x y < length v) × Small (table v x y)
readable b v j x y r h l =
    let s = r.short in
    let m = r.room in
    (omega (arith, longest_low), omega (arith, place_below x y j h l), range_small x y _ (omega arith) (r.fine x y h l).range)

-- the greatest number below two
pub min_glb : (z a b : ℤ) → z ≤ℤ a → z ≤ℤ b → z ≤ℤ minℤ a b
min_glb z a b p q = min_by a b (λ (x : ℤ). z ≤ℤ x) (λ _. p) (λ _. q)

-- ---- a run
-- where no charge is below 0, a mark needs no test: the sum is no less than the mark
clamp : (m x k : ℤ) → m ≤ℤ mark → Charge k → minℤ m (x +ℤ k) ≡ minℤ m (add_e x k)
clamp m x k h c =
    add_by x k (λ (z : ℤ). minℤ m (x +ℤ k) ≡ minℤ m z) (λ a b. refl)
    (λ w. min_l m (x +ℤ k) (⊎_elim (λ a. omega (ints, sum x k)) (λ b. absurd (omega ints)) w) ∙ sym (min_l m mark h))

pub run_more :
    (v s : ℕ → ℤ) (from row lo l : ℕ) → lo ≤ l → Charge (s (row + l)) →
    minℤ (min_from (charged v s from row) lo (l - lo)) (v (from + l) +ℤ s (row + l)) ≡ min_from (charged v s from row) lo ((l + 1) - lo)
run_more v s from row lo l h k =
    clamp (min_from (charged v s from row) lo (l - lo)) (v (from + l)) (s (row + l)) (least_cap (charged v s from row) lo (l - lo)) k
    ∙ sym (least_more (charged v s from row) lo l h)

-- ---- the runs of the right sides: what the loop's numbers are, one law each, so that `omega` meets few differences at a time
pub near_none : (f : ℕ → ℤ) → mark ≡ min_from f 0 0
unfolding min_from
near_none f = refl

pub near_more : (f : ℕ → ℤ) (r : ℕ) → min_from f 0 (r + 1) ≡ minℤ (min_from f 0 r) (f r)
near_more f r = let e : (r + 1) - 0 ≡ r + 1 = omega arith in let d : r - 0 ≡ r = omega arith in rw (e, d) at (least_more f 0 r (omega arith))

pub near_cap : (v s : ℕ → ℤ) (i j : ℕ) → near v s i j ≤ℤ mark
unfolding near
near_cap v s i j = least_cap _ _ _

-- a run is a side, as the loop has it
pub side_run :
    (v s : ℕ → ℤ) (i j r col lo hi : ℕ) → col ≡ place (i + 1) (j - 1 - r) → lo ≡ 2 - r → hi ≡ min (suc longest_side) (j - 1 - r + 1 - low_end i) →
    min_from (charged v s col (suc longest_side * r)) lo (hi - lo) ≡ side v s i j r
unfolding side_to side
side_run v s i j r col lo hi a b d = rw (a, b, d) refl

-- the right side r ends at q
pub record Ends (i j q r : ℕ) : Type 0 where
  pub far : low_end i ≤ q
  pub within : q < j
  pub few : r ≤ longest_side

pub ends_at : (i j r n : ℕ) → r < n → n ≡ min (suc longest_side) (j - low_end i) → Ends i j (j - 1 - r) r
ends_at i j r n h m = record { far = omega arith; within = omega arith; few = omega arith }

module _ (i j q r hi : ℕ) (e : Ends i j q r) (m : hi ≡ min (suc longest_side) (q + 1 - low_end i)) where
  pub side_room : (col len : ℕ) → col ≡ place (i + 1) q → tri j ≤ len → col + hi ≤ len
  side_room col len c l = let f = e.far in omega (arith, tri_below q j e.within)

  pub side_most : suc longest_side * r + hi ≤ side_count
  side_most = let f = e.few in omega arith

  pub side_smalls : (v : ℕ → ℤ) (col : ℕ) → j < longest + 2 → col ≡ place (i + 1) q → Fine InRange (at v) j → Smalls v col hi
  side_smalls v col h c f l o =
      let x = e.far in
      let w = e.within in
      let p : place (i + 1 + l) q ≡ col + l = omega arith in
      subst (λ (y : ℕ). Small (v y)) p (range_small (i + 1 + l) q _ (omega arith) (f (i + 1 + l) q (omega arith) w))

  pub side_charges : (s : List ℤ) (l : ℕ) → Sides s → 2 - r ≤ l → l < hi → Charge (nums s (suc longest_side * r + l))
  side_charges s l t p o =
      let f = e.few in
      let g = side_in l r (omega arith) in
      rw (t.each l r (omega arith) f) (record { low = omega ints; high = omega (ints, figure_low) })

-- one column back
pub col_back :
    (i j r col : ℕ) → Ends i j (j - 1 - r) r → col ≡ place (i + 1) (j - 1 - r) →
    (j - 1 - r ≤ col) × (col - (j - 1 - r) ≡ place (i + 1) (j - 1 - (r + 1)))
col_back i j r col e c =
    let f = e.far in
    let q : j - 1 - (r + 1) ≡ j - 1 - r - 1 = omega arith in
    rw q (omega (arith, tri_back (j - 1 - r) (omega arith)))

-- ---- candidates
module _ (b : Bases) (v : Table) (i j x y : ℕ) where
  pub inner_none : may_close b x y ≡ false → inner_at b v i j x y ≡ mark
  unfolding inner_at
  inner_none e = rw e

  pub inner_some : may_close b x y ≡ true → inner_at b v i j x y ≡ add_e (v x y) (own b i j x y)
  unfolding inner_at
  inner_some e = rw e

  interior_cap : interior b v i j ≤ℤ mark
  unfolding interior
  interior_cap = least_cap _ _ _

  -- the rule's least is at most each of them
  inner_least : i < x → y < j → x - suc i ≤ longest_side → j - suc y ≤ longest_side → interior b v i j ≤ℤ inner_at b v i j x y
  inner_least l u s t =
      either (may_close b x y)
      (λ e.
      ⊎_elim
      (λ p.
      let o = own_in b i j x y in
      let q = inner_some e in
      let k = add_some (v x y) (own b i j x y) p (omega (ints, figure_low)) in
      let z = interior_le b v i j x y l u s t e p in
      omega ints)
      (λ p. let q = inner_some e in let k = add_none_l (v x y) (own b i j x y) p in omega (ints, interior_cap))
      (less (v x y) mark))
      (λ e. let q = inner_none e in omega (ints, interior_cap))

-- ---- which runs there are, and which candidates a run has
count_has : (i j l r q : ℕ) → r ≤ longest_side → i + 1 + l + smallest_hairpin < q → q + r + 1 ≡ j → r < 0 + min (suc longest_side) (j - low_end i)
count_has i j l r q m o e = omega arith

run_has :
    (i l r q : ℕ) → l ≤ longest_side → 2 ≤ l + r → i + 1 + l + smallest_hairpin < q →
    l < (2 - r) + (min (suc longest_side) (q + 1 - low_end i) - (2 - r))
run_has i l r q h n o = omega arith

count_of : (i j r : ℕ) → r < 0 + min (suc longest_side) (j - low_end i) → (r ≤ longest_side) × (j - 1 - r + r + 1 ≡ j)
count_of i j r h = (omega arith, omega arith)

run_of :
    (i l r q : ℕ) → 2 - r ≤ l → l < (2 - r) + (min (suc longest_side) (q + 1 - low_end i) - (2 - r)) →
    (l ≤ longest_side) × (2 ≤ l + r) × (i + 1 + l + smallest_hairpin < q)
run_of i l r q h o = (omega arith, omega arith, omega arith)

-- ---- the search
module _ (b : Bases) (v s : ℕ → ℤ) (i j : ℕ) (k : (l r : ℕ) → l ≤ longest_side → r ≤ longest_side → s (suc longest_side * r + l) ≡ side_charge l r) (f : Fine (InPaired b) (at v) j) where
  -- a candidate of a run is one of the rule
  run_at :
      (l r q : ℕ) → l ≤ longest_side → r ≤ longest_side → 2 ≤ l + r → i + 1 + l ≤ q → q + r + 1 ≡ j →
      charged v s (place (i + 1) q) (suc longest_side * r) l ≡ inner_at b (at v) i j (i + 1 + l) q
  run_at l r q h m n o e =
      let p : place (i + 1) q + l ≡ place (i + 1 + l) q = omega arith in
      let el : (i + 1 + l) - suc i ≡ l = omega arith in
      let er : j - suc q ≡ r = omega arith in
      let fig : own b i j (i + 1 + l) q ≡ side_charge l r = rw (el, er) at (own_side b i j (i + 1 + l) q (omega arith)) in
      ap₂ add_e (ap v p) (k l r h m ∙ sym fig)
      ∙ either (may_close b (i + 1 + l) q)
      (λ y. sym (inner_some b (at v) i j (i + 1 + l) q y))
      (λ y.
      let z : at v (i + 1 + l) q ≡ mark = (f (i + 1 + l) q o (omega arith)).none y in
      add_none_l (at v (i + 1 + l) q) (own b i j (i + 1 + l) q) (omega ints) ∙ sym (inner_none b (at v) i j (i + 1 + l) q y))

  -- no candidate that the runs have is below their least
  near_le :
      (l r q : ℕ) → l ≤ longest_side → r ≤ longest_side → 2 ≤ l + r → i + 1 + l + smallest_hairpin < q → q + r + 1 ≡ j →
      near v s i j ≤ℤ inner_at b (at v) i j (i + 1 + l) q
  unfolding near side side_to
  near_le l r q h m n o e =
      let p : j - 1 - r ≡ q = omega arith in
      let g = charged v s (place (i + 1) q) (suc longest_side * r) in
      let hi = min (suc longest_side) (q + 1 - low_end i) in
      let t = least_le (side v s i j) 0 (min (suc longest_side) (j - low_end i)) r (omega arith) (count_has i j l r q m o e) in
      let u = least_le g (2 - r) (hi - (2 - r)) l (omega arith) (run_has i l r q h n o) in
      let w : side v s i j r ≡ min_from g (2 - r) (hi - (2 - r)) = ap (side_to v s i r) p in
      let z = run_at l r q h m n (omega arith) e in
      omega ints

  -- and the rule has each
  side_low :
      (l r q : ℕ) → l ≤ longest_side → r ≤ longest_side → 2 ≤ l + r → i + 1 + l + smallest_hairpin < q → q + r + 1 ≡ j →
      interior b (at v) i j ≤ℤ charged v s (place (i + 1) q) (suc longest_side * r) l
  side_low l r q h m n o e =
      let w = run_at l r q h m n (omega arith) e in
      let z = inner_least b (at v) i j (i + 1 + l) q (omega arith) (omega arith) (omega arith) (omega arith) in
      omega ints

  near_low : interior b (at v) i j ≤ℤ near v s i j
  unfolding near side side_to
  near_low =
      ⊎_elim
      (λ p.
      let t = least_real (side v s i j) 0 (min (suc longest_side) (j - low_end i)) p in
      let r = t.at in
      let c = count_of i j r t.to in
      let et : near v s i j ≡ side v s i j r = t.value in
      let q = j - 1 - r in
      let hi = min (suc longest_side) (q + 1 - low_end i) in
      let g = charged v s (place (i + 1) q) (suc longest_side * r) in
      let u = least_real g (2 - r) (hi - (2 - r)) (omega ints) in
      let d = run_of i u.at r q u.from u.to in
      let eu : side v s i j r ≡ g u.at = u.value in
      let z = side_low u.at r q d.0 c.0 d.1 d.2 c.1 in
      omega ints)
      (λ p. omega (ints, interior_cap b (at v) i j 0 0))
      (less (near v s i j) mark)

  -- the four together
  abbrev found : ℤ
  found =
      minℤ (minℤ (near v s i j) (inner_at b (at v) i j (i + 1) (j - 1))) (minℤ (inner_at b (at v) i j (i + 2) (j - 1)) (inner_at b (at v) i j (i + 1) (j - 2)))

  found_le : (x y : ℕ) → i < x → x + smallest_hairpin < y → y < j → x - suc i ≤ longest_side → j - suc y ≤ longest_side → found ≤ℤ inner_at b (at v) i j x y
  found_le x y a c d m n =
      let o₁ = near v s i j in
      let at₂ = inner_at b (at v) i j in
      let o₂ = at₂ (i + 1) (j - 1) in
      let o₃ = at₂ (i + 2) (j - 1) in
      let o₄ = at₂ (i + 1) (j - 2) in
      let p = minℤ o₁ o₂ in
      let q = minℤ o₃ o₄ in
      by_cases (dec_lt 1 ((x - suc i) + (j - suc y)))
      (λ o.
      let ex : i + 1 + (x - suc i) ≡ x = omega arith in
      let k' = near_le (x - suc i) (j - suc y) y m n o (omega arith) (omega arith) in
      let k = rw ex at k' in
      omega (ints, min_le_l p q, min_le_l o₁ o₂))
      (λ o.
      by_cases (ℕ_discrete x (i + 2))
      (λ e. let w : at₂ x y ≡ o₃ = ap₂ at₂ e (omega arith) in omega (ints, min_le_r p q, min_le_l o₃ o₄))
      (λ ne.
      by_cases (ℕ_discrete y (j - 2))
      (λ e. let w : at₂ x y ≡ o₄ = ap₂ at₂ (omega arith) e in omega (ints, min_le_r p q, min_le_r o₃ o₄))
      (λ nf. let w : at₂ x y ≡ o₂ = ap₂ at₂ (omega arith) (omega arith) in omega (ints, min_le_l p q, min_le_r o₁ o₂))))

  -- the search is the rule
  pub search_is : i + smallest_hairpin < j → found ≡ interior b (at v) i j
  search_is h =
      let o₁ = near v s i j in
      let o₂ = inner_at b (at v) i j (i + 1) (j - 1) in
      let o₃ = inner_at b (at v) i j (i + 2) (j - 1) in
      let o₄ = inner_at b (at v) i j (i + 1) (j - 2) in
      let down : interior b (at v) i j ≤ℤ found =
      min_glb _ _ _ (min_glb _ o₁ o₂ near_low (inner_least b (at v) i j (i + 1) (j - 1) (omega arith) (omega arith) (omega arith) (omega arith)))
      (min_glb _ o₃ o₄ (inner_least b (at v) i j (i + 2) (j - 1) (omega arith) (omega arith) (omega arith) (omega arith))
      (inner_least b (at v) i j (i + 1) (j - 2) (omega arith) (omega arith) (omega arith) (omega arith))) in
      let up' : found ≤ℤ interior b (at v) i j =
      ⊎_elim
      (λ p.
      let u = interior_real b (at v) i j p in
      let x = u.x in
      let y = u.y in
      let g = own_in b i j x y in
      let e = inner_some b (at v) i j x y u.may in
      let z = u.value in
      let w = add_some (at v x y) (own b i j x y) u.real (omega (ints, figure_low)) in
      let t = found_le x y u.from u.far u.to u.left u.right in
      omega ints)
      (λ p. omega (ints, near_cap v s i j, min_le_l (minℤ o₁ o₂) (minℤ o₃ o₄), min_le_l o₁ o₂))
      (less (interior b (at v) i j) mark) in
      omega ints
