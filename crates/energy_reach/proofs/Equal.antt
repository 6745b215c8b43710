-- A comparison of two numbers by their bits is that of the definition. Assumes nothing.
use mathlib.Core.Path.{◌≡◌, sym, ap, ◌∙◌}
use mathlib.Core.Bool.{true, false}
use Prim.Native.Nat.{◌<◌, ◌^◌}
use lib.Dec.{eqb}
use lib.IntN.{ℤ}
use lib.Signed.{mag, le_z}
use mir.Syntax.{w32}
use mir.Val.{to_z, of_z}
use borrow.Author.Tests.{eq-eqb}
use Rattle.std.proofs.lemmas.Bool.{eqb-true}
use Rattle.ints.proofs.Ints.{ints, either, plain}
use Rattle.energy_reach.specs.Reach.{same}

same_true : (a b : ℤ) → a ≡ b → same a b ≡ true
unfolding same
same_true a b e =
    either (le_z a b) (λ y. either (le_z b a) (λ z. rw (y, z)) (λ z. absurd (omega ints))) (λ y. absurd (omega ints))

same_not : (a b : ℤ) → (a ≡ b → ⊥) → same a b ≡ false
unfolding same
same_not a b n =
    either (le_z a b) (λ y. either (le_z b a) (λ z. absurd (n (omega ints))) (λ z. rw (y, z))) (λ y. rw y)

-- the bits of numbers that fit tell them
pub same_bits : (a b : ℤ) {a' b' : ℤ} → mag a < 2 ^ 31 → mag b < 2 ^ 31 → a ≡ a' → b ≡ b' → eqb (of_z w32 a) (of_z w32 b) ≡ same a' b'
same_bits a b p q e f =
    rw (← e, ← f)
    (either (eqb (of_z w32 a) (of_z w32 b))
    (λ y. y ∙ sym (same_true a b (sym (plain a p) ∙ ap (to_z w32) (eqb-true _ _ y) ∙ plain b q)))
    (λ y. y ∙ sym (same_not a b (λ d. let t = eq-eqb _ _ (ap (of_z w32) d) in cc))))
