-- Signed numbers: `omega ints` proves what is linear in them, by std's rules: orders, equations, sums, tests, ranges, and numbers read back from their bits.
-- Beside these rules: a number read back from its bits that stands within a term, and the cases of a test.
use mathlib.Core.Path.{◌≡◌, refl, ◌∙◌}
use mathlib.Core.Bool.{Bool, true, false}
use Prim.Native.Nat.{ℕ, ◌+◌, ◌^◌, ◌<◌, ◌≤◌}
use native.Mathlib.Omega.{arith}
use lib.IntN.{ℤ, neg_ℤ, ◌+ℤ◌, ◌-ℤ◌}
use lib.Signed.{mag, lt_z, le_z}
use mir.Syntax.{w32}
use mir.Val.{to_z, of_z}
use mir.Facts.{to_z-of_z}
use Rattle.std.proofs.lemmas.Int as std
use borrow.Author.Differences as std_parts

-- what a number is above 0, and below it
abbrev pub up : ℤ → ℕ
up = std_parts.up

abbrev pub dn : ℤ → ℕ
dn = std_parts.down

pub ruleset ints = (arith, std.ints)

-- a test is true or false
pub either : {C : Type 0} (t : Bool) → (t ≡ true → C) → (t ≡ false → C) → C
either true f g = f refl
either false f g = g refl

pub lt_no : (a b : ℤ) → lt_z a b ≡ false → up b + dn a ≤ up a + dn b
lt_no a b e = omega ints

pub le_yes : (a b : ℤ) → le_z a b ≡ true → up a + dn b ≤ up b + dn a
le_yes a b e = omega ints

pub le_no : (a b : ℤ) → le_z a b ≡ false → up b + dn a < up a + dn b
le_no a b e = omega ints

-- ---- sums, opposites and differences
pub sum : (a b : ℤ) → up (a +ℤ b) + (dn a + dn b) ≡ dn (a +ℤ b) + (up a + up b)
sum a b = omega ints

pub neg : (b : ℤ) → (up (neg_ℤ b) ≡ dn b) × (dn (neg_ℤ b) ≡ up b)
neg b = omega ints

pub diff : (a b : ℤ) → up (a -ℤ b) + (dn a + up b) ≡ dn (a -ℤ b) + (up a + dn b)
diff a b = omega ints

-- ---- a signed local holds bits: what is read back from the bits of z is z
abbrev pub bk : ℤ → ℤ
bk z = to_z w32 (of_z w32 z)

pub plain : (z : ℤ) → mag z < 2 ^ 31 → bk z ≡ z
plain z h = to_z-of_z {w = w32} {z = z} (record { sfits = h })

-- what a call returned, or a slice held, with what is known of it
pub is : (z : ℤ) {y : ℤ} → mag z < 2 ^ 31 → z ≡ y → bk z ≡ y
is z h e = plain z h ∙ e

-- the same as a fact for `omega`
pub back : (z : ℤ) → mag z < 2 ^ 31 → up (bk z) + dn z ≡ up z + dn (bk z)
back z h = omega ints
