-- Each call has one permitted answer for its input, and one permitted content of lent memory. Assumes nothing.
-- What is due decides between acceptance and refusal, and which refusal; a sound table is decided by its brackets.
use mathlib.Core.Path.{◌≡◌, sym, ap, ◌∙◌}
use mathlib.Core.List.{List, ◌++◌}
use Prim.Native.Nat.{ℕ}
use lib.ListN.{length, take, drop, take-append-drop}
use Rattle.refusals.proofs.Laws.{one_of, one_refusal}
use Rattle.refusals.specs.declared.Refusal.{Refusal}
use Rattle.std.proofs.Common.{Result, Ok, Err}
use Rattle.brackets.specs.Calls.{Written, Parses, Spells}
use Rattle.brackets.proofs.Glyphs.{one_table}

-- memory that holds the same text's sound table, and the same surplus, is the same memory
one_memory : (s o o' o'' : List ℕ) → Written s o o' → Written s o o'' → o' ≡ o''
one_memory s o o' o'' w v =
    let n = length s in
    sym (take-append-drop n o')
    ∙ ap (λ (x : List ℕ). x ++ drop n o') (one_table (take n o') (take n o'') w.sound v.sound (w.text ∙ sym v.text))
    ∙ ap (λ (x : List ℕ). take n o'' ++ x) (w.surplus ∙ sym v.surplus)
    ∙ take-append-drop n o''

pub one_parse : (s o o' o'' : List ℕ) (a a' : Result ℕ Refusal) → Parses s o o' a → Parses s o o'' a' → (a ≡ a') × (o' ≡ o'')
one_parse s o o' o'' (Ok n) (Ok m) f g = (ap Ok (f.1 ∙ sym g.1), one_memory s o o' o'' f.2 g.2)
one_parse s o o' o'' (Ok n) (Err q) f g = absurd (one_of q f.0 g.0)
one_parse s o o' o'' (Err q) (Ok m) f g = absurd (one_of q g.0 f.0)
one_parse s o o' o'' (Err q) (Err r) f g = (ap Err (one_refusal q r f.0 g.0), f.1 ∙ sym g.1)

pub one_spelling : (t o o' o'' : List ℕ) (a a' : Result ℕ Refusal) → Spells t o o' a → Spells t o o'' a' → (a ≡ a') × (o' ≡ o'')
one_spelling t o o' o'' (Ok n) (Ok m) f g = (ap Ok (f.1 ∙ sym g.1), f.2 ∙ sym g.2)
one_spelling t o o' o'' (Ok n) (Err q) f g = absurd (one_of q f.0 g.0)
one_spelling t o o' o'' (Err q) (Ok m) f g = absurd (one_of q g.0 f.0)
one_spelling t o o' o'' (Err q) (Err r) f g = (ap Err (one_refusal q r f.0 g.0), f.1 ∙ sym g.1)
