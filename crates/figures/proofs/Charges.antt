-- Laws of charges: each definition by its cases, the bounds of every table by one computed test, and from these the bounds of every charge.
use mathlib.Core.Path.{◌≡◌, refl}
use mathlib.Core.List.{List}
use Prim.Native.Nat.{ℕ, suc, ◌+◌, ◌-◌, ◌*◌, ◌≤◌}
use native.Mathlib.Omega.{arith}
use lib.Dec.{lit≤}
use lib.IntN.{ℤ, pos, negsuc, ◌+ℤ◌}
use lib.ListN.{get_or}
use borrow.Author.Tests.{eq-eqb, ne_eqb}
use Rattle.refusals.specs.Refusals.{fold_limit}
use Rattle.ints.specs.Ints.{In, Small}
use Rattle.ints.proofs.Ints.{ints}
use Rattle.ints.proofs.Tables.{entry_in}
use Rattle.figures.specs.Figures as fig
use Rattle.figures.specs.Figures.{smallest_hairpin, tabled, longest, longest_side}
use Rattle.figures.specs.Charge.{hairpin, mismatch, bulge, internal, stack, long, sized, hairpin_of, stack_at, bulge_of, slant, internal_of, many_of, charge_of, Figured, term_most, figure_most, charge_most}
use Rattle.figures.specs.declared.Loop.{Loop}
use Rattle.figures.specs.declared.Loop.TheVariants.{Hairpin, Stack, Bulge, Internal, Many}

-- ---- sizes
-- every loop of a strand that may be folded has a figure: the bases inside a pair are two fewer
pub fold_reach : fold_limit ≤ longest + 2
unfolding longest fig.long
fold_reach = lit≤ tt

-- every internal loop has a figure
pub sides_reach : longest_side + longest_side ≤ longest
unfolding longest fig.long
sides_reach = lit≤ tt

-- the code's table of terms is as long as the list
pub longest_is : longest ≡ 254
unfolding longest fig.long
longest_is = refl

-- sums of charges of that many loops stay small
pub longest_low : longest ≤ 1022
unfolding longest fig.long
longest_low = lit≤ tt

pub term_low : term_most ≤ 10000
unfolding term_most fig.long
term_low = lit≤ tt

pub figure_low : figure_most ≤ 16600
unfolding figure_most
figure_low = omega (arith, term_low)

-- ---- a definition by its cases
pub hairpin_smallest : (n p : ℕ) → n ≡ smallest_hairpin → hairpin_of n p ≡ sized hairpin smallest_hairpin n
unfolding hairpin_of
hairpin_smallest n p h = simp (eq-eqb n smallest_hairpin h)

pub hairpin_other : (n p : ℕ) → (n ≡ smallest_hairpin → ⊥) → hairpin_of n p ≡ sized hairpin smallest_hairpin n +ℤ get_or mismatch p (pos 0)
unfolding hairpin_of
hairpin_other n p h = simp (ne_eqb n smallest_hairpin h)

pub bulge_one : (n o i : ℕ) → n ≡ 1 → bulge_of n o i ≡ sized bulge 1 n +ℤ stack_at o i
unfolding bulge_of
bulge_one n o i h = simp (eq-eqb n 1 h)

pub bulge_other : (n o i : ℕ) → (n ≡ 1 → ⊥) → bulge_of n o i ≡ sized bulge 1 n
unfolding bulge_of
bulge_other n o i h = simp (ne_eqb n 1 h)

pub many_is : (m : ℕ) → many_of m ≡ pos (100 * fig.closing + 100 * fig.arm * m)
unfolding many_of
many_is m = refl

-- ---- the bounds of each table
pub hairpin_in : (k : ℕ) → In (pos 0) (pos 6600) (get_or hairpin k (pos 0))
unfolding hairpin fig.hairpin
hairpin_in = entry_in (pos 0) (pos 6600) hairpin tt

pub mismatch_in : (k : ℕ) → In (negsuc 799) (pos 0) (get_or mismatch k (pos 0))
unfolding mismatch fig.mismatch
mismatch_in = entry_in (negsuc 799) (pos 0) mismatch tt

pub bulge_in : (k : ℕ) → In (pos 0) (pos 6000) (get_or bulge k (pos 0))
unfolding bulge fig.bulge
bulge_in = entry_in (pos 0) (pos 6000) bulge tt

pub internal_in : (k : ℕ) → In (pos 0) (pos 3600) (get_or internal k (pos 0))
unfolding internal fig.internal
internal_in = entry_in (pos 0) (pos 3600) internal tt

pub stack_in : (k : ℕ) → In (negsuc 3399) (pos 0) (get_or stack k (pos 0))
unfolding stack fig.stack
stack_in = entry_in (negsuc 3399) (pos 0) stack tt

pub long_in : (k : ℕ) → In (pos 0) (pos term_most) (get_or long k (pos 0))
unfolding long term_most fig.long
long_in = entry_in (pos 0) (pos term_most) long tt

-- ---- and of each charge
pub sized_in : (t : List ℤ) (f n h : ℕ) → ((k : ℕ) → In (pos 0) (pos h) (get_or t k (pos 0))) → In (pos 0) (pos (h + term_most)) (sized t f n)
unfolding sized
sized_in t f n h b = grind (ints, b (n - f), b (tabled - f), long_in (n - suc tabled))

pub sized_hairpin : (n : ℕ) → In (pos 0) (pos (6600 + term_most)) (sized hairpin smallest_hairpin n)
sized_hairpin n = sized_in hairpin smallest_hairpin n 6600 hairpin_in

pub sized_bulge : (n : ℕ) → In (pos 0) (pos (6000 + term_most)) (sized bulge 1 n)
sized_bulge n = sized_in bulge 1 n 6000 bulge_in

pub sized_internal : (n : ℕ) → In (pos 0) (pos (3600 + term_most)) (sized internal 2 n)
sized_internal n = sized_in internal 2 n 3600 internal_in

pub hairpin_small : (k : ℕ) → Small (get_or hairpin k (pos 0))
hairpin_small k = grind (ints, hairpin_in k)

pub bulge_small : (k : ℕ) → Small (get_or bulge k (pos 0))
bulge_small k = grind (ints, bulge_in k)

pub internal_small : (k : ℕ) → Small (get_or internal k (pos 0))
internal_small k = grind (ints, internal_in k)

pub hairpin_of_in : (n p : ℕ) → In (negsuc 799) (pos figure_most) (hairpin_of n p)
unfolding hairpin_of figure_most
hairpin_of_in n p = grind (ints, sized_hairpin n, mismatch_in p)

pub stack_at_in : (o i : ℕ) → In (negsuc 3399) (pos 0) (stack_at o i)
unfolding stack_at
stack_at_in o i = stack_in (o * 6 + i)

pub bulge_of_in : (n o i : ℕ) → In (negsuc 3399) (pos figure_most) (bulge_of n o i)
unfolding bulge_of figure_most
bulge_of_in n o i = grind (ints, sized_bulge n, stack_at_in o i)

pub slant_le : (a b : ℕ) → slant a b ≤ 3000
unfolding slant
slant_le a b = omega arith

pub internal_of_in : (a b : ℕ) → In (pos 0) (pos figure_most) (internal_of a b)
unfolding internal_of figure_most
internal_of_in a b = omega (ints, sized_internal (a + b), slant_le a b)

-- a charge lies from −3400 to `charge_most`
pub charge_in : (l : Loop) (o i p : ℕ) → Figured l o i p → In (negsuc 3399) (pos charge_most) (charge_of l o i p)
unfolding charge_most many_of figure_most
charge_in (Hairpin n) o i p h = let b = hairpin_of_in n p in omega ints
charge_in Stack o i p h = let b = stack_at_in o i in omega ints
charge_in (Bulge n) o i p h = let b = bulge_of_in n o i in omega ints
charge_in (Internal a c) o i p h = let b = internal_of_in a c in omega ints
charge_in (Many m) o i p h = omega ints
