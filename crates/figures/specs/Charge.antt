-- What a loop costs, by its kind and sizes, in thousandths of kcal/mol. Assumes nothing: these are definitions.
use Rattle.std.specs.Prelude.{cond, List, map, ℕ, suc, ◌+◌, ◌-◌, ◌*◌, ◌<◌, ◌≤◌, min, leb, eqb, ℤ, pos, neg_ℤ, ◌+ℤ◌, length, get_or}
use Rattle.figures.specs.Figures as fig
use Rattle.figures.specs.Figures.{smallest_hairpin, tabled, longest, longest_side, fewest_arms}
use Rattle.figures.specs.declared.Loop.{Loop}
use Rattle.figures.specs.declared.Loop.TheVariants.{Hairpin, Stack, Bulge, Internal, Many}

-- tenths as thousandths, above zero and below
abbrev above : List ℕ → List ℤ
above = map (λ (t : ℕ). pos (100 * t))

abbrev below : List ℕ → List ℤ
below = map (λ (t : ℕ). neg_ℤ (pos (100 * t)))

unfoldable pub hairpin : List ℤ
hairpin = above fig.hairpin

unfoldable pub mismatch : List ℤ
mismatch = below fig.mismatch

unfoldable pub bulge : List ℤ
bulge = above fig.bulge

unfoldable pub internal : List ℤ
internal = above fig.internal

unfoldable pub stack : List ℤ
stack = below fig.stack

unfoldable pub long : List ℤ
long = map pos fig.long

-- a figure by size, of a table that begins at the size `first`; above 30 the term of the long table is added to the figure of 30
unfoldable pub sized : List ℤ → ℕ → ℕ → ℤ
sized t first n =
    cond (leb n tabled) (get_or t (n - first) (pos 0)) (get_or t (tabled - first) (pos 0) +ℤ get_or long (n - suc tabled) (pos 0))

-- a hairpin of n bases, p of the two just inside its closing pair purines: these count from the next size on
unfoldable pub hairpin_of : ℕ → ℕ → ℤ
hairpin_of n p =
    cond (eqb n smallest_hairpin) (sized hairpin smallest_hairpin n) (sized hairpin smallest_hairpin n +ℤ get_or mismatch p (pos 0))

-- the inner pair i, by its number, straight on the outer pair o
unfoldable pub stack_at : ℕ → ℕ → ℤ
stack_at o i = get_or stack (o * 6 + i) (pos 0)

-- a bulge of n bases: one of size 1 has its stack too
unfoldable pub bulge_of : ℕ → ℕ → ℕ → ℤ
bulge_of n o i = cond (eqb n 1) (sized bulge 1 n +ℤ stack_at o i) (sized bulge 1 n)

-- what the difference of the sides adds
unfoldable pub slant : ℕ → ℕ → ℕ
slant a b = 100 * min (fig.slope * ((a - b) + (b - a))) fig.slope_most

-- an internal loop with the sides a and b
unfoldable pub internal_of : ℕ → ℕ → ℤ
internal_of a b = sized internal 2 (a + b) +ℤ pos (slant a b)

-- a many-armed loop with m inner pairs
unfoldable pub many_of : ℕ → ℤ
many_of m = pos (100 * fig.closing + 100 * fig.arm * m)

-- the kind of a loop with one inner pair and the sides l and r, by its sides alone
unfoldable pub between : ℕ → ℕ → Loop
between l r = cond (eqb l 0) (cond (eqb r 0) Stack (Bulge r)) (cond (eqb r 0) (Bulge l) (Internal l r))

-- the charge of a loop: o is the number of its closing pair and i that of its one inner pair,
-- and p of the two bases just inside a hairpin are purines
abbrev pub charge_of : Loop → ℕ → ℕ → ℕ → ℤ
charge_of (Hairpin n) o i p = hairpin_of n p
charge_of Stack o i p = stack_at o i
charge_of (Bulge n) o i p = bulge_of n o i
charge_of (Internal a b) o i p = internal_of a b
charge_of (Many m) o i p = many_of m

-- the loops that have a figure
abbrev pub Figured : Loop → ℕ → ℕ → ℕ → Type 0
Figured (Hairpin n) o i p = (smallest_hairpin ≤ n) × (n ≤ longest) × (p ≤ 2)
Figured Stack o i p = (o < 6) × (i < 6)
Figured (Bulge n) o i p = (1 ≤ n) × (n ≤ longest_side) × (o < 6) × (i < 6)
Figured (Internal a b) o i p = (1 ≤ a) × (a ≤ longest_side) × (1 ≤ b) × (b ≤ longest_side)
Figured (Many m) o i p = (fewest_arms ≤ m) × (m ≤ longest)

-- the largest term of long loops: that of the longest
unfoldable pub term_most : ℕ
term_most = get_or fig.long (length fig.long - 1) 0

-- no hairpin and no loop with one inner pair of its own figure costs more
unfoldable pub figure_most : ℕ
figure_most = 6600 + term_most

-- no loop costs more
unfoldable pub charge_most : ℕ
charge_most = figure_most + 100 * fig.arm * longest
