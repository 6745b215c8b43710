-- Answers as structs of numbers. Assumes nothing: these are definitions.
use Rattle.std.specs.Prelude.{◌≡◌, Bool, cond, ℕ, ◌-◌, ◌^◌, ℤ, pos, Option, None, Some, Result, Ok, Err}
use Rattle.refusals.specs.Refusals.{number, place}
use Rattle.refusals.specs.declared.Refusal.{Refusal}
use Rattle.bases.specs.Bases.{Spelt, kept, refused}
use Rattle.counting.specs.declared.Record.{Record}
use Rattle.flat.specs.declared.YkmBase.{YkmBase}
use Rattle.flat.specs.declared.YkmAnswer.{YkmAnswer}
use Rattle.flat.specs.declared.YkmRecord.{YkmRecord}
use Rattle.flat.specs.declared.YkmCounted.{YkmCounted}
use Rattle.flat.specs.declared.YkmLeast.{YkmLeast}

-- no place is the largest number of 64 bits
abbrev pub flat_place : Option ℕ → ℕ
flat_place None = 2 ^ 64 - 1
flat_place (Some k) = k

-- a base: 0, no place and its letter; no base: the refusal's number and place 0
abbrev pub flat_base : Spelt → YkmBase
flat_base (kept y) = record { number = 0; place = flat_place None; letter = y }
flat_base (refused num) = record { number = num; place = flat_place (Some 0); letter = 0 }

-- a refusal: its number and place, and the value 0
abbrev pub flat_refusal : Refusal → YkmAnswer
flat_refusal q = record { number = number q; place = flat_place (place q); value = 0 }

-- a number: 0, no place and the number
abbrev pub flat_answer : Result ℕ Refusal → YkmAnswer
flat_answer (Ok n) = record { number = 0; place = flat_place None; value = n }
flat_answer (Err q) = flat_refusal q

-- paired is 1, not paired is 0
abbrev pub flat_pairing : Result Bool Refusal → YkmAnswer
flat_pairing (Ok v) = flat_answer (Ok (cond v 1 0))
flat_pairing (Err q) = flat_refusal q

-- no partner is no place
abbrev pub flat_partner : Result (Option ℕ) Refusal → YkmAnswer
flat_partner (Ok j) = flat_answer (Ok (flat_place j))
flat_partner (Err q) = flat_refusal q

-- a record for C, and the library's record of one from C
abbrev pub record_out : Record → YkmRecord
record_out k = record { length = k.length; gap = k.gap }

abbrev pub record_in : YkmRecord → Record
record_in k = record { length = k.length; gap = k.gap }

-- a fold or an edit that was made: 0, no place, its record and its count
abbrev pub flat_made : Record → ℕ → YkmCounted
flat_made k m = record { number = 0; place = flat_place None; kept = record_out k; count = m }

-- one that was refused: the refusal's number and place, the record that goes back, and the count 0
abbrev pub flat_unmade : Refusal → YkmRecord → YkmCounted
flat_unmade q k = record { number = number q; place = flat_place (place q); kept = k; count = 0 }

-- a fold; a refused one has the record 0, 0
abbrev pub flat_counted : Result (Record × ℕ) Refusal → YkmCounted
flat_counted (Ok (k, m)) = flat_made k m
flat_counted (Err q) = flat_unmade q (record { length = 0; gap = 0 })

-- an edit; a refused one gives the record back
abbrev pub flat_edited : Result (Record × ℕ) (Refusal × Record) → YkmCounted
flat_edited (Ok (k, m)) = flat_made k m
flat_edited (Err (q, k)) = flat_unmade q (record_out k)

-- an energy fold: 0, no place and the energy; a refusal: its number and place, and 0
abbrev pub flat_least : Result ℤ Refusal → YkmLeast
flat_least (Ok z) = record { number = 0; place = flat_place None; energy = z }
flat_least (Err q) = record { number = number q; place = flat_place (place q); energy = pos 0 }

-- the struct is an answer that the library's call permits
abbrev pub Flat : {A B : Type 0} → (A → B) → (A → Type 0) → B → Type 0
Flat {A} flat meets r = (a : A) × meets a × (r ≡ flat a)
