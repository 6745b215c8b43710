-- The steps by which a traceback puts a structure together, one for each candidate of a cell: what they leave costs no more than the cell says.
use mathlib.Core.Path.{◌≡◌, refl, ap, ◌∙◌}
use mathlib.Core.Logic.{◌≢◌, by_cases}
use mathlib.Core.Bool.{true}
use mathlib.Core.List.{List}
use Prim.Native.Nat.{ℕ, zero, suc, ◌+◌, ◌-◌, ◌*◌, ◌<◌, ◌≤◌}
use native.Mathlib.Omega.{arith}
use native.Mathlib.Decide.{dec_lt, ℕ_discrete}
use lib.IntN.{ℤ, pos, ◌+ℤ◌}
use lib.Signed.{◌≤ℤ◌}
use lib.ListN.{length, set, length-set}
use lib.Seq.{get_or-set_same, get_or-set_other}
use Rattle.structure.specs.Table.{unpaired, view}
use Rattle.structure.proofs.Folds as folds
use Rattle.tables.specs.Writing.{joined, Blank}
use Rattle.cells.specs.Rule.{Bases}
use Rattle.ints.proofs.Ints.{ints, sum}
use Rattle.figures.specs.Figures.{arm, longest_side}
use Rattle.figures.proofs.Charges.{many_is}
use Rattle.closing.specs.Closing.{may_close, own, hairpin_at}
use Rattle.charges.specs.Loops.{Candidate, arms_in, first_in, charge_at, total}
use Rattle.charges.proofs.Walk.{shut_none, shut_low, opens_up, arms_none, arms_free, arms_pair, arms_join, first_here, total_free, total_open, bare}
use Rattle.charges.proofs.Charged.{none, inner_most, arms_most}
use Rattle.energy_rule.specs.Rule.{closing_charge, arm_charge}
use Rattle.energy_rule.specs.Filled.{Placed, AnyFilled, ArmsFilled, PairFilled}
use Rattle.energy_rule.proofs.Moved.{arms_in_moved, total_moved, candidate_moved}

-- what lies inside a pair is as blank as before it was joined
pub blank_joined : (t : List ℕ) (i j lo hi : ℕ) → i < lo → hi ≤ j → Blank t lo hi → Blank (joined t i j) lo hi
blank_joined t i j lo hi l h z k u c = get_or-set_other (set t i j) j k i 0 (omega arith) ∙ get_or-set_other t i k j 0 (omega arith) ∙ z k u c

module _ (b : Bases) where
  -- ---- candidates put together
  candidate_empty : (p : ℕ → ℕ) (i : ℕ) → i ≤ unpaired → Candidate b p i i
  candidate_empty p i h = record { fold = folds.empty p i h; each = λ k l r. absurd (omega arith) }

  candidate_one : (p : ℕ → ℕ) (i : ℕ) → i < unpaired → p i ≡ unpaired → Candidate b p i (suc i)
  candidate_one p i h e = record {
    fold = folds.one p i h e;
    each = λ x l r o n. let q : x ≡ i = omega arith in absurd (n (ap p q ∙ e));
  }

  candidate_join : {p : ℕ → ℕ} {i k j : ℕ} → Candidate b p i k → Candidate b p k j → i ≤ k → k ≤ j → Candidate b p i j
  candidate_join {p} {i} {k} {j} a c u v = record {
    fold = folds.join p a.fold c.fold u v;
    each = λ x l r o n. by_cases (dec_lt x k) (λ s. a.each x l s o n) (λ s. c.each x (omega arith) r o n);
  }

  candidate_wrap : {p : ℕ → ℕ} {i k : ℕ} → Candidate b p (suc i) k → i < k → k < unpaired → p i ≡ k → p k ≡ i → may_close b i k ≡ true
      → Candidate b p i (suc k)
  candidate_wrap {p} {i} {k} a h s e e' y = record {
    fold = folds.wrap p a.fold h s e e';
    each = λ x l r o n. by_cases (ℕ_discrete x i)
        (λ q. rw (q, e) y)
        (λ ni. let no_end : x ≢ k = λ q. omega (arith, ap p q) in a.each x (omega arith) (omega arith) o n);
  }

  candidate_blank : (p : ℕ → ℕ) (f lo hi : ℕ) → hi ≤ lo + f → lo ≤ hi → hi ≤ unpaired → ((k : ℕ) → lo ≤ k → k < hi → p k ≡ unpaired)
      → Candidate b p lo hi
  candidate_blank p zero lo hi m l h z = let e : lo ≡ hi = omega arith in rw e (candidate_empty p hi h)
  candidate_blank p (suc f) lo hi m l h z =
      by_cases (ℕ_discrete lo hi)
      (λ e. rw e (candidate_empty p hi h))
      (λ ne.
      candidate_join (candidate_one p lo (omega arith) (z lo (omega arith) (omega arith)))
      (candidate_blank p f (suc lo) hi (omega arith) (omega arith) h (λ k u. z k (omega arith))) (omega arith) (omega arith))

  -- ---- what was placed, with an unpaired position in front or behind, and two side by side
  placed_skip : {t t' : List ℕ} {lo hi : ℕ} → Placed b t t' (suc lo) hi → lo < hi → view t' lo ≡ unpaired → Placed b t t' lo hi
  placed_skip {t} {t'} {lo} {hi} d l e =
      let s = d.fits.fold.fits in
      record {
        long = d.long;
        below = λ k u. d.below k (omega arith);
        above = d.above;
        fits = candidate_join (candidate_one (view t') lo (omega arith) e) d.fits (omega arith) l;
      }

  placed_last : {t t' : List ℕ} {lo hi : ℕ} → Placed b t t' lo hi → lo ≤ hi → hi < unpaired → view t' hi ≡ unpaired → Placed b t t' lo (suc hi)
  placed_last {t} {t'} {lo} {hi} d l s e = record {
    long = d.long;
    below = d.below;
    above = λ k u. d.above k (omega arith);
    fits = candidate_join d.fits (candidate_one (view t') hi s e) l (omega arith);
  }

  placed_join : {t t₁ t₂ : List ℕ} {i k j : ℕ} → Placed b t t₁ i k → Placed b t₁ t₂ k j → i ≤ k → k ≤ j → Placed b t t₂ i j
  placed_join {t} {t₁} {t₂} {i} {k} {j} f g l h = record {
    long = g.long ∙ f.long;
    below = λ x a. g.below x (omega arith) ∙ f.below x a;
    above = λ x a. g.above x a ∙ f.above x (omega arith);
    fits = candidate_join (candidate_moved (view t₁) (view t₂) i k (λ x a c. g.below x c) b f.fits) g.fits l h;
  }

  -- ---- any structure
  pub any_bare : (t : List ℕ) (lo hi : ℕ) (z : ℤ) → lo ≤ hi → hi ≤ unpaired → Blank t lo hi → z ≡ pos 0 → AnyFilled b t t lo hi z
  any_bare t lo hi z l h e q =
      let x = (bare (view t) b hi lo hi hi (omega arith) l (omega arith) e).none in
      record {
        placed = record { long = refl; below = λ k u. refl; above = λ k u. refl; fits = candidate_blank (view t) hi lo hi (omega arith) l h e };
        energy = omega (ints, sum (total b (view t) lo) z);
      }

  pub any_skip : {t t' : List ℕ} {lo hi : ℕ} {z y : ℤ} → AnyFilled b t t' (suc lo) hi z → lo < hi → view t lo ≡ unpaired → y ≡ z
      → AnyFilled b t t' lo hi y
  any_skip {t} {t'} {lo} {hi} {z} {y} f l e q =
      let e' : view t' lo ≡ unpaired = f.placed.below lo (omega arith) ∙ e in
      let g = total_free (view t') b lo (shut_none lo (view t' lo) e') in
      let x = f.energy in
      record {
        placed = placed_skip f.placed l e';
        energy = omega (ints, sum (total b (view t') lo) y, sum (total b (view t') (suc lo)) z);
      }

  pub any_last : {t t' : List ℕ} {lo hi : ℕ} {z y : ℤ} → AnyFilled b t t' lo hi z → lo ≤ hi → hi < unpaired → view t hi ≡ unpaired → y ≡ z
      → AnyFilled b t t' lo (suc hi) y
  any_last {t} {t'} {lo} {hi} {z} {y} f l s e q =
      let e' : view t' hi ≡ unpaired = f.placed.above hi (omega arith) ∙ e in
      let g = total_free (view t') b hi (shut_none hi (view t' hi) e') in
      let x = f.energy in
      record {
        placed = placed_last f.placed l s e';
        energy = omega (ints, sum (total b (view t') lo) y, sum (total b (view t') lo) z);
      }

  pub any_pair : {t t' : List ℕ} {i j : ℕ} {z y : ℤ} → PairFilled b t t' i j z → y ≡ z → AnyFilled b t t' i (suc j) y
  any_pair {t} {t'} {i} {j} {z} {y} f q =
      let x = f.energy in
      record { placed = f.placed; energy = omega (ints, sum (total b (view t') i) y, sum (total b (view t') i) z) }

  pub any_split : {t t₁ t₂ : List ℕ} {i k j : ℕ} {x y z : ℤ} → AnyFilled b t t₁ i k x → AnyFilled b t₁ t₂ k j y → i ≤ k → k ≤ j → z ≡ x +ℤ y
      → AnyFilled b t t₂ i j z
  any_split {t} {t₁} {t₂} {i} {k} {j} {x} {y} {z} f g l h q =
      let s : (a : ℕ) → i ≤ a → a < k → view t₂ a ≡ view t₁ a = λ a u c. g.placed.below a c in
      let e = total_moved (view t₁) (view t₂) i k s b f.placed.fits.fold k l (omega arith) in
      let ef = f.energy in
      let eg = g.energy in
      record {
        placed = placed_join f.placed g.placed l h;
        energy = omega (
          ints,
          sum x y,
          sum (total b (view t₂) i) z,
          sum (total b (view t₁) i) x,
          sum (total b (view t₂) k) y,
          sum (total b (view t₂) k) (total b (view t₁) i),
          sum (total b (view t₁) k) (total b (view t₂) i),
        );
      }

  -- ---- one or more arms
  pub arms_skip : {t t' : List ℕ} {lo hi : ℕ} {z y : ℤ} → ArmsFilled b t t' (suc lo) hi z → lo < hi → view t lo ≡ unpaired → y ≡ z
      → ArmsFilled b t t' lo hi y
  arms_skip {t} {t'} {lo} {hi} {z} {y} f l e q =
      let e' : view t' lo ≡ unpaired = f.placed.below lo (omega arith) ∙ e in
      let o = shut_none lo (view t' lo) e' in
      let g = total_free (view t') b lo o in
      let a = arms_free (view t') lo hi l o in
      let some = f.some in
      let x = f.energy in
      record {
        placed = placed_skip f.placed l e';
        some = omega arith;
        energy = omega (
          ints,
          sum (total b (view t') lo) y,
          sum (total b (view t') (suc lo)) z,
          sum (total b (view t') hi) (pos (100 * arm * arms_in (view t') lo hi)),
          sum (total b (view t') hi) (pos (100 * arm * arms_in (view t') (suc lo) hi)),
        );
      }

  pub arms_last : {t t' : List ℕ} {lo hi : ℕ} {z y : ℤ} → ArmsFilled b t t' lo hi z → lo ≤ hi → hi < unpaired → view t hi ≡ unpaired → y ≡ z
      → ArmsFilled b t t' lo (suc hi) y
  arms_last {t} {t'} {lo} {hi} {z} {y} f l s e q =
      let e' : view t' hi ≡ unpaired = f.placed.above hi (omega arith) ∙ e in
      let o = shut_none hi (view t' hi) e' in
      let g = total_free (view t') b hi o in
      let a = arms_join (view t') b hi lo hi (suc hi) (omega arith) l (omega arith) f.placed.fits.fold in
      let c = arms_free (view t') hi (suc hi) (omega arith) o in
      let c' = arms_none (view t') (suc hi) (suc hi) (omega arith) in
      let some = f.some in
      let x = f.energy in
      record {
        placed = placed_last f.placed l s e';
        some = omega arith;
        energy = omega (
          ints,
          sum (total b (view t') lo) y,
          sum (total b (view t') lo) z,
          sum (total b (view t') hi) (pos (100 * arm * arms_in (view t') lo hi)),
          sum (total b (view t') (suc hi)) (pos (100 * arm * arms_in (view t') lo (suc hi))),
        );
      }

  pub arms_helix : {t t' : List ℕ} {i j : ℕ} {z y : ℤ} → PairFilled b t t' i j z → i < j → j < unpaired → y ≡ z +ℤ arm_charge
      → ArmsFilled b t t' i (suc j) y
  arms_helix {t} {t'} {i} {j} {z} {y} f l h q =
      let e = f.pair in
      let a = arms_pair (view t') i (suc j) (omega arith) (omega arith) (omega arith) in
      let c = arms_none (view t') (suc (view t' i)) (suc j) (omega arith) in
      let x = f.energy in
      record {
        placed = f.placed;
        some = omega arith;
        energy = omega (
          ints,
          sum z arm_charge,
          sum (total b (view t') i) y,
          sum (total b (view t') i) z,
          sum (total b (view t') (suc j)) (pos (100 * arm * arms_in (view t') i (suc j))),
        );
      }

  pub arms_split : {t t₁ t₂ : List ℕ} {i k j : ℕ} {x y z : ℤ} → ArmsFilled b t t₁ i k x → ArmsFilled b t₁ t₂ k j y → i ≤ k → k ≤ j → z ≡ x +ℤ y
      → ArmsFilled b t t₂ i j z
  arms_split {t} {t₁} {t₂} {i} {k} {j} {x} {y} {z} f g l h q =
      let s : (a : ℕ) → i ≤ a → a < k → view t₂ a ≡ view t₁ a = λ a u c. g.placed.below a c in
      let e = total_moved (view t₁) (view t₂) i k s b f.placed.fits.fold k l (omega arith) in
      let am = arms_in_moved (view t₁) (view t₂) i k s in
      let aj = arms_join (view t₂) b k i k j (omega arith) l h (folds.moved s f.placed.fits.fold) in
      let sf = f.some in
      let ef = f.energy in
      let eg = g.energy in
      record {
        placed = placed_join f.placed g.placed l h;
        some = omega arith;
        energy = omega (
          ints,
          sum x y,
          sum (total b (view t₂) i) z,
          sum (total b (view t₁) i) x,
          sum (total b (view t₂) k) y,
          sum (total b (view t₂) k) (total b (view t₁) i),
          sum (total b (view t₁) k) (total b (view t₂) i),
          sum (total b (view t₁) k) (pos (100 * arm * arms_in (view t₁) i k)),
          sum (total b (view t₂) j) (pos (100 * arm * arms_in (view t₂) k j)),
          sum (total b (view t₂) j) (pos (100 * arm * arms_in (view t₂) i j)),
        );
      }

  -- ---- i and j paired: what was placed between them, with what it and the loop cost
  pair_around : {t t' : List ℕ} {i j : ℕ} {z : ℤ} → Placed b (joined t i j) t' (suc i) j → i < j → j < length t → j < unpaired → may_close b i j ≡ true
      → (view t' i ≡ j → (total b (view t') j +ℤ charge_at b (view t') i) ≤ℤ (total b (view t') (suc i) +ℤ z)) → PairFilled b t t' i j z
  pair_around {t} {t'} {i} {j} {z} f h n s y g =
      let u = set t i j in
      let lu : length u ≡ length t = length-set t i j in
      let ei : view t' i ≡ j = f.below i (omega arith) ∙ get_or-set_other u j i i 0 (omega arith) ∙ get_or-set_same t i j 0 (omega arith) in
      let ej : view t' j ≡ i = f.above j (omega arith) ∙ get_or-set_same u j i 0 (omega arith) in
      let x = g ei in
      let c = total_free (view t') b j (shut_low j (view t' j) (omega arith)) in
      let o = total_open (view t') b i (omega arith) (omega arith) in
      record {
        placed = record {
          long = f.long ∙ length-set u j i ∙ lu;
          below = λ k l. f.below k (omega arith) ∙ get_or-set_other u j k i 0 (omega arith) ∙ get_or-set_other t i k j 0 (omega arith);
          above = λ k l. f.above k (omega arith) ∙ get_or-set_other u j k i 0 (omega arith) ∙ get_or-set_other t i k j 0 (omega arith);
          fits = candidate_wrap f.fits h s ei ej y;
        };
        pair = ei;
        energy = omega (
          ints,
          sum (total b (view t') i) z,
          sum (total b (view t') i) (charge_at b (view t') i),
          sum (total b (view t') j) (charge_at b (view t') i),
          sum (total b (view t') (suc i)) z,
        );
      }

  pub pair_hairpin : (t : List ℕ) (i j : ℕ) (z : ℤ) → i < j → j < length t → j < unpaired → may_close b i j ≡ true → Blank t (suc i) j
      → z ≡ hairpin_at b i j → PairFilled b t (joined t i j) i j z
  pair_hairpin t i j z h n s y e q =
      let t' = joined t i j in
      let e' = blank_joined t i j (suc i) j (omega arith) (omega arith) e in
      let x = bare (view t') b j (suc i) j j (omega arith) h (omega arith) e' in
      let xn = x.none in
      pair_around
      (record { long = refl; below = λ k u. refl; above = λ k u. refl; fits = candidate_blank (view t') j (suc i) j (omega arith) h (omega arith) e' })
      h n s y
      (λ p.
      let c = none b (view t') i (ap (arms_in (view t') (suc i)) p ∙ x.count ∙ arms_none (view t') j j (omega arith)) in
      let d : hairpin_at b i (view t' i) ≡ hairpin_at b i j = ap (hairpin_at b i) p in
      omega (ints, sum (total b (view t') j) (charge_at b (view t') i), sum (total b (view t') (suc i)) z))

  pub pair_arms : {t t' : List ℕ} {i j : ℕ} {x z : ℤ} → ArmsFilled b (joined t i j) t' (suc i) j x → i < j → j < length t → j < unpaired
      → may_close b i j ≡ true → z ≡ x +ℤ closing_charge → PairFilled b t t' i j z
  pair_arms {t} {t'} {i} {j} {x} {z} f h n s y q =
      pair_around f.placed h n s y
      (λ p.
      let e : arms_in (view t') (suc i) (view t' i) ≡ arms_in (view t') (suc i) j = ap (arms_in (view t') (suc i)) p in
      let some = f.some in
      let en = f.energy in
      let c = arms_most b (view t') i (omega arith) in
      omega (
        ints,
        many_is (arms_in (view t') (suc i) (view t' i)),
        sum x closing_charge,
        sum (total b (view t') j) (charge_at b (view t') i),
        sum (total b (view t') (suc i)) x,
        sum (total b (view t') (suc i)) z,
        sum (total b (view t') j) (pos (100 * arm * arms_in (view t') (suc i) j)),
      ))

  pub pair_inner : {t t' : List ℕ} {i j x y : ℕ} {c z : ℤ} → PairFilled b (joined t i j) t' x y c → i < x → x < y → y < j → j < length t → j < unpaired
      → may_close b i j ≡ true → Blank t (suc i) x → Blank t (suc y) j → x - suc i ≤ longest_side → j - suc y ≤ longest_side → z ≡ c +ℤ own b i j x y
      → PairFilled b t t' i j z
  pair_inner {t} {t'} {i} {j} {x} {y} {c} {z} f h xy yj n s mm bl br sl sr q =
      let d = f.placed in
      let fp = f.pair in
      let el : (k : ℕ) → suc i ≤ k → k < x → view t' k ≡ unpaired
      = λ k u v. d.below k v ∙ blank_joined t i j (suc i) x (omega arith) (omega arith) bl k u v in
      let er : (k : ℕ) → suc y ≤ k → k < j → view t' k ≡ unpaired
      = λ k u v. d.above k u ∙ blank_joined t i j (suc y) j (omega arith) (omega arith) br k u v in
      let xl = bare (view t') b x (suc i) x j (omega arith) h (omega arith) el in
      let xr = bare (view t') b j (suc y) j j (omega arith) yj (omega arith) er in
      let lc = xl.count in
      let ln = xl.none in
      let rc = xr.count in
      let rn = xr.none in
      let a = arms_pair (view t') x j (omega arith) (omega arith) (omega arith) in
      let a' : arms_in (view t') (suc (view t' x)) j ≡ arms_in (view t') (suc y) j = ap (λ u. arms_in (view t') (suc u) j) fp in
      let z0 = arms_none (view t') j j (omega arith) in
      let one : arms_in (view t') (suc i) j ≡ 1 = omega arith in
      let hd : first_in (view t') (suc i) j ≡ x
      = xl.head ∙ first_here (view t') x j (omega arith) (opens_up x (view t' x) (omega arith) (omega arith)) in
      let en = f.energy in
      pair_around (record {
        long = d.long;
        below = λ k u. d.below k (omega arith);
        above = λ k u. d.above k (omega arith);
        fits = candidate_join (candidate_blank (view t') x (suc i) x (omega arith) h (omega arith) el)
            (candidate_join d.fits (candidate_blank (view t') j (suc y) j (omega arith) yj (omega arith) er) (omega arith) (omega arith))
            (omega arith) (omega arith);
      }) (omega arith) n s mm
      (λ p.
      let k = inner_most b (view t') i in
      let k' = rw (p, hd, fp) at k in
      let c0 = k' one sl sr in
      omega (
        ints,
        sum c (own b i j x y),
        sum (total b (view t') j) (charge_at b (view t') i),
        sum (total b (view t') x) c,
        sum (total b (view t') (suc i)) z,
      ))
