-- The lines of the bench sheet that are proved: one table, of everything that a public call's contract permits.
-- Assumes nothing: these are definitions.
use Rattle.std.specs.Prelude.{◌≡◌, List, [], ◌∷◌, ℕ, ◌≤◌, ℤ, pos, neg_ℤ, length, take, Some, Result, Ok, Err}
use Rattle.refusals.specs.Refusals.{number, place}
use Rattle.refusals.specs.declared.Refusal.{Refusal}
use Rattle.structure.specs.Table.{unpaired}
use Rattle.brackets.specs.Brackets.{brackets}
use Rattle.brackets.specs.Calls.{Parses}
use Rattle.cells.specs.Tri.{tri}
use Rattle.counting.specs.declared.Record.{Record}
use Rattle.counting.specs.Calls.{record_of, Folds}
use Rattle.charges.specs.Loops.{energy_of}
use Rattle.energy.specs.Calls.{Folds as EnergyFolds}

-- a line: a call's input, and what it comes to; of a charge, the bases and the pair table, its text and its energy
pub data Line : Type 0 where
  text_accepted : List ℕ → Line
  text_refused : List ℕ → ℕ → ℕ → Line
  count : List ℕ → ℕ → ℕ → List ℕ → Line
  energy : List ℕ → ℤ → List ℕ → Line
  charged : List ℕ → List ℕ → List ℕ → ℤ → Line

-- what a line says of every answer that the contract permits, whatever memory with room is lent
abbrev pub Says : Line → Type 0
Says (text_accepted s) = (o o' : List ℕ) (a : Result ℕ Refusal) → length s ≤ length o → Parses s o o' a → a ≡ Ok (length s)
Says (text_refused s num k) =
    (o o' : List ℕ) (a : Result ℕ Refusal) → Parses s o o' a → (q : Refusal) × (a ≡ Err q) × (number q ≡ num) × (place q ≡ Some k)
Says (count s gap m text) =
    (b b' t t' o o' : List ℕ) (a : Result (Record × ℕ) Refusal) →
    length s ≤ length b → tri (length s) ≤ length t → length s ≤ length o → Folds s gap b b' t t' o o' a →
    (a ≡ Ok (record_of (length s) gap, m)) × (brackets (take (length s) o') ≡ text)
Says (energy s z text) =
    (b b' : List ℕ) (v w m v' w' m' : List ℤ) (o o' : List ℕ) (a : Result ℤ Refusal) →
    length s ≤ length b → tri (length s) ≤ length v → tri (length s) ≤ length w → tri (length s) ≤ length m → length s ≤ length o →
    EnergyFolds s b b' v w m v' w' m' o o' a → (a ≡ Ok z) × (brackets (take (length s) o') ≡ text)
Says (charged s p text z) = (brackets p ≡ text) × (energy_of s p ≡ z)

-- the table
abbrev pub table : List Line
table =
    -- bracket text: empty, `)(`, `(.x`, `.(()`
    text_accepted []
    ∷ text_refused (41 ∷ 40 ∷ []) 5 0
    ∷ text_refused (40 ∷ 46 ∷ 120 ∷ []) 6 2
    ∷ text_refused (46 ∷ 40 ∷ 40 ∷ 41 ∷ []) 7 1
    -- counts: `A` at gap 3, `GC` at gaps 0 and 1, `GGGGCCCC` at gap 3, with `.`, `()`, `..`, `.((...))`
    ∷ count (65 ∷ []) 3 0 (46 ∷ [])
    ∷ count (71 ∷ 67 ∷ []) 0 1 (40 ∷ 41 ∷ [])
    ∷ count (71 ∷ 67 ∷ []) 1 0 (46 ∷ 46 ∷ [])
    ∷ count (71 ∷ 71 ∷ 71 ∷ 71 ∷ 67 ∷ 67 ∷ 67 ∷ 67 ∷ []) 3 2 (46 ∷ 40 ∷ 40 ∷ 46 ∷ 46 ∷ 46 ∷ 41 ∷ 41 ∷ [])
    -- energies: `GGAAACC`, `GGGAAACCC`, `GGGAAAACCC`, with `.......`, `(((...)))`, `(((....)))`
    ∷ energy (71 ∷ 71 ∷ 65 ∷ 65 ∷ 65 ∷ 67 ∷ 67 ∷ []) (pos 0) (46 ∷ 46 ∷ 46 ∷ 46 ∷ 46 ∷ 46 ∷ 46 ∷ [])
    ∷ energy (71 ∷ 71 ∷ 71 ∷ 65 ∷ 65 ∷ 65 ∷ 67 ∷ 67 ∷ 67 ∷ []) (neg_ℤ (pos 1200)) (40 ∷ 40 ∷ 40 ∷ 46 ∷ 46 ∷ 46 ∷ 41 ∷ 41 ∷ 41 ∷ [])
    ∷ energy (71 ∷ 71 ∷ 71 ∷ 65 ∷ 65 ∷ 65 ∷ 65 ∷ 67 ∷ 67 ∷ 67 ∷ []) (neg_ℤ (pos 1800))
    (40 ∷ 40 ∷ 40 ∷ 46 ∷ 46 ∷ 46 ∷ 46 ∷ 41 ∷ 41 ∷ 41 ∷ [])
    -- `GGGAAAAAAGGGAAACCCCCC` with `(((......(((...))))))`: what it is charged, and that nothing is charged less
    ∷ charged (71 ∷ 71 ∷ 71 ∷ 65 ∷ 65 ∷ 65 ∷ 65 ∷ 65 ∷ 65 ∷ 71 ∷ 71 ∷ 71 ∷ 65 ∷ 65 ∷ 65 ∷ 67 ∷ 67 ∷ 67 ∷ 67 ∷ 67 ∷ 67 ∷ [])
    (20 ∷ 19 ∷ 18 ∷ unpaired ∷ unpaired ∷ unpaired ∷ unpaired ∷ unpaired ∷ unpaired
    ∷ 17 ∷ 16 ∷ 15 ∷ unpaired ∷ unpaired ∷ unpaired ∷ 11 ∷ 10 ∷ 9 ∷ 2 ∷ 1 ∷ 0 ∷ [])
    (40 ∷ 40 ∷ 40 ∷ 46 ∷ 46 ∷ 46 ∷ 46 ∷ 46 ∷ 46 ∷ 40 ∷ 40 ∷ 40 ∷ 46 ∷ 46 ∷ 46 ∷ 41 ∷ 41 ∷ 41 ∷ 41 ∷ 41 ∷ 41 ∷ []) (neg_ℤ (pos 3600))
    ∷ energy (71 ∷ 71 ∷ 71 ∷ 65 ∷ 65 ∷ 65 ∷ 65 ∷ 65 ∷ 65 ∷ 71 ∷ 71 ∷ 71 ∷ 65 ∷ 65 ∷ 65 ∷ 67 ∷ 67 ∷ 67 ∷ 67 ∷ 67 ∷ 67 ∷ [])
    (neg_ℤ (pos 3600))
    (40 ∷ 40 ∷ 40 ∷ 46 ∷ 46 ∷ 46 ∷ 46 ∷ 46 ∷ 46 ∷ 40 ∷ 40 ∷ 40 ∷ 46 ∷ 46 ∷ 46 ∷ 41 ∷ 41 ∷ 41 ∷ 41 ∷ 41 ∷ 41 ∷ [])
    ∷ []
