-- Each call has one permitted answer for its input, and one permitted content of lent memory. Assumes nothing.
-- What is due decides between acceptance and refusal, and which refusal; a sound table is decided by its brackets.
use mathlib.Core.Path.{◌≡◌, refl, sym, ap, ◌∙◌}
use mathlib.Core.Bool.{true≢false}
use mathlib.Core.List.{List}
use Prim.Native.Nat.{ℕ}
use Rattle.std.proofs.Common.{Bool, Option, None, Some, Result, Ok, Err}
use Rattle.refusals.specs.declared.Refusal.{Refusal}
use Rattle.refusals.proofs.Laws.{one_of, one_refusal}
use Rattle.queries.specs.Calls.{Lists, Pairs, Partners, Counts}

pub one_list : (t o o' o'' : List ℕ) (a a' : Result ℕ Refusal) → Lists t o o' a → Lists t o o'' a' → (a ≡ a') × (o' ≡ o'')
one_list t o o' o'' (Ok n) (Ok m) f g = (ap Ok (f.1 ∙ sym g.1), f.2 ∙ sym g.2)
one_list t o o' o'' (Ok n) (Err q) f g = absurd (one_of q f.0 g.0)
one_list t o o' o'' (Err q) (Ok m) f g = absurd (one_of q g.0 f.0)
one_list t o o' o'' (Err q) (Err r) f g = (ap Err (one_refusal q r f.0 g.0), f.1 ∙ sym g.1)

pub one_pairing : (t : List ℕ) (i : ℕ) (a a' : Result Bool Refusal) → Pairs t i a → Pairs t i a' → a ≡ a'
one_pairing t i (Ok v) (Ok w) f g = ap Ok (f.1 ∙ sym g.1)
one_pairing t i (Ok v) (Err q) f g = absurd (one_of q f.0 g)
one_pairing t i (Err q) (Ok w) f g = absurd (one_of q g.0 f)
one_pairing t i (Err q) (Err r) f g = ap Err (one_refusal q r f g)

pub one_partner : (t : List ℕ) (i : ℕ) (a a' : Result (Option ℕ) Refusal) → Partners t i a → Partners t i a' → a ≡ a'
one_partner t i (Ok (Some j)) (Ok (Some k)) f g = ap (λ k. Ok (Some k)) (f.2 ∙ sym g.2)
one_partner t i (Ok (Some j)) (Ok None) f g = absurd (true≢false (sym f.1 ∙ g.1))
one_partner t i (Ok (Some j)) (Err q) f g = absurd (one_of q f.0 g)
one_partner t i (Ok None) (Ok (Some k)) f g = absurd (true≢false (sym g.1 ∙ f.1))
one_partner t i (Ok None) (Ok None) f g = refl
one_partner t i (Ok None) (Err q) f g = absurd (one_of q f.0 g)
one_partner t i (Err q) (Ok (Some k)) f g = absurd (one_of q g.0 f)
one_partner t i (Err q) (Ok None) f g = absurd (one_of q g.0 f)
one_partner t i (Err q) (Err r) f g = ap Err (one_refusal q r f g)

pub one_count : (t : List ℕ) (a a' : Result ℕ Refusal) → Counts t a → Counts t a' → a ≡ a'
one_count t (Ok n) (Ok m) f g = ap Ok (f.1 ∙ sym g.1)
one_count t (Ok n) (Err q) f g = absurd (one_of q f.0 g)
one_count t (Err q) (Ok m) f g = absurd (one_of q g.0 f)
one_count t (Err q) (Err r) f g = ap Err (one_refusal q r f g)
