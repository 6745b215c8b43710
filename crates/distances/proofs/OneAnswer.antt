-- Each call has one permitted answer for its input, and one permitted content of lent memory. Assumes nothing.
-- What is due decides between acceptance and refusal, and which refusal; a sound table is decided by its brackets.
use mathlib.Core.Path.{◌≡◌, sym, ap, ◌∙◌}
use mathlib.Core.List.{List}
use Prim.Native.Nat.{ℕ}
use Rattle.std.proofs.Common.{Result, Ok, Err}
use Rattle.refusals.specs.declared.Refusal.{Refusal}
use Rattle.refusals.proofs.Laws.{one_of, one_refusal}
use Rattle.distances.specs.Distance.{Measures}

pub one_measure : (s t : List ℕ) (d : ℕ) (a a' : Result ℕ Refusal) → Measures s t d a → Measures s t d a' → a ≡ a'
one_measure s t d (Ok n) (Ok m) f g = ap Ok (f.1 ∙ sym g.1)
one_measure s t d (Ok n) (Err q) f g = absurd (one_of q f.0 g)
one_measure s t d (Err q) (Ok m) f g = absurd (one_of q g.0 f)
one_measure s t d (Err q) (Err r) f g = ap Err (one_refusal q r f g)
