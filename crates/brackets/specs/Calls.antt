-- What each public call answers and leaves in lent memory: o as it came, o' as it is left. Assumes nothing: these are definitions.
use Rattle.std.specs.Prelude.{◌≡◌, List, ◌++◌, ℕ, length, take, drop, Result, Ok, Err}
use Rattle.refusals.specs.Refusals.{clear, due_of}
use Rattle.refusals.specs.declared.Refusal.{Refusal}
use Rattle.structure.specs.Table.{Sound}
use Rattle.structure.specs.Soundness.{write_due}
use Rattle.brackets.specs.Brackets.{brackets}
use Rattle.brackets.specs.Text.{text_due}

-- the first entries of the memory are the sound table with that text, and the rest is as it was
pub record Written (s o o' : List ℕ) : Type 0 where
  pub sound : Sound (take (length s) o')
  pub text : brackets (take (length s) o') ≡ s
  pub surplus : drop (length s) o' ≡ drop (length s) o

-- `from_dot_bracket` of the text s
abbrev pub Parses : List ℕ → List ℕ → List ℕ → Result ℕ Refusal → Type 0
Parses s o o' (Ok n) = (text_due s (length o) ≡ clear) × (n ≡ length s) × Written s o o'
Parses s o o' (Err q) = (text_due s (length o) ≡ due_of q) × (o' ≡ o)

-- `to_dot_bracket` of the table t
abbrev pub Spells : List ℕ → List ℕ → List ℕ → Result ℕ Refusal → Type 0
Spells t o o' (Ok n) = (write_due t (length o) (length t) ≡ clear) × (n ≡ length t) × (o' ≡ brackets t ++ drop (length t) o)
Spells t o o' (Err q) = (write_due t (length o) (length t) ≡ due_of q) × (o' ≡ o)
