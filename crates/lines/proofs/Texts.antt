-- Each text is short, and the lines of the rules are what the definitions give. Assumes nothing.
use Rattle.std.proofs.Common.{◌≡◌, refl, ℕ, zero, suc, ◌/◌, ◌≤◌, [], ◌∷◌, Option, None, Some, ℤ, pos, negsuc, nat_abs, length, length-append, arith}
use Rattle.std.proofs.lemmas.Grind.{common_steps}
use Rattle.refusals.specs.Refusals.{number, place}
use Rattle.refusals.specs.declared.Refusal.{Refusal}
use Rattle.refusals.specs.declared.Refusal.TheVariants.{NoBase}
use Rattle.lines.specs.Text.{shown, decimal, sign_of, place_text, pairs_text, energy_text, refused_text}

shown_short : (f n : ℕ) → length (shown f n) ≤ f
unfolding shown
shown_short zero n = omega arith
shown_short (suc f) n = grind (arith, common_steps, shown_short f (n / 10))

decimal_short : (n : ℕ) → length (decimal n) ≤ 20
unfolding decimal
decimal_short n = shown_short 20 n

sign_short : (z : ℤ) → length (sign_of z) ≤ 1
sign_short (pos n) = omega arith
sign_short (negsuc n) = omega arith

place_short : (p : Option ℕ) → length (place_text p) ≤ 24
place_short None = omega arith
place_short (Some k) = omega (arith, decimal_short k)

pub pairs_short : (n : ℕ) → length (pairs_text n) ≤ 26
unfolding pairs_text
pairs_short n = omega (arith, decimal_short n)

pub energy_short : (z : ℤ) → length (energy_text z) ≤ 32
unfolding energy_text
energy_short z = omega (arith, sign_short z, decimal_short (nat_abs z / 1000), length-append {A = ℕ})

pub refused_short : (q : Refusal) → length (refused_text q) ≤ 52
unfolding refused_text
refused_short q = omega (arith, decimal_short (number q), place_short (place q), length-append {A = ℕ})

-- `pairs 3`, `energy -1.200`, `refused 2 at 4`; and `energy 0.000`
pub pairs_of_3 : pairs_text 3 ≡ 112 ∷ 97 ∷ 105 ∷ 114 ∷ 115 ∷ 32 ∷ 51 ∷ []
unfolding pairs_text decimal shown
pairs_of_3 = refl

pub energy_of_1200 : energy_text (negsuc 1199) ≡ 101 ∷ 110 ∷ 101 ∷ 114 ∷ 103 ∷ 121 ∷ 32 ∷ 45 ∷ 49 ∷ 46 ∷ 50 ∷ 48 ∷ 48 ∷ []
unfolding energy_text decimal shown
energy_of_1200 = refl

pub energy_of_0 : energy_text (pos 0) ≡ 101 ∷ 110 ∷ 101 ∷ 114 ∷ 103 ∷ 121 ∷ 32 ∷ 48 ∷ 46 ∷ 48 ∷ 48 ∷ 48 ∷ []
unfolding energy_text decimal shown
energy_of_0 = refl

pub refused_2_at_4 : refused_text (NoBase 4) ≡ 114 ∷ 101 ∷ 102 ∷ 117 ∷ 115 ∷ 101 ∷ 100 ∷ 32 ∷ 50 ∷ 32 ∷ 97 ∷ 116 ∷ 32 ∷ 52 ∷ []
unfolding refused_text decimal shown
refused_2_at_4 = refl
