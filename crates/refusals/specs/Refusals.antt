-- The rules' table of refusals, rows of checks, and the limits. Assumes nothing: these are definitions.
use Rattle.std.specs.Prelude.{Bool, true, false, ◌||◌, ℕ, zero, suc, Option, None, Some, Result, Ok, Err, ⊤}
use Rattle.refusals.specs.declared.Refusal.{Refusal}
use Rattle.refusals.specs.declared.Refusal.TheVariants.{Empty, NoBase, TooLong, TooShort, Unopened, NoBracket}
use Rattle.refusals.specs.declared.Refusal.TheVariants.{Unclosed, Unsound, Unequal, Outside, Unbelievable}

-- the most bases that a fold takes
abbrev pub fold_limit : ℕ
fold_limit = 256

-- the most positions that a structure or a bracket text has
abbrev pub structure_limit : ℕ
structure_limit = 4096

-- the most bases that the program folds
abbrev pub program_limit : ℕ
program_limit = 80

-- a refusal's number in the table
abbrev pub number : Refusal → ℕ
number Empty = 1
number (NoBase k) = 2
number TooLong = 3
number TooShort = 4
number (Unopened k) = 5
number (NoBracket k) = 6
number (Unclosed k) = 7
number (Unsound k) = 8
number Unequal = 9
number Outside = 10
number Unbelievable = 11

-- the place that the table returns with it
abbrev pub place : Refusal → Option ℕ
place Empty = None
place (NoBase k) = Some k
place TooLong = None
place TooShort = None
place (Unopened k) = Some k
place (NoBracket k) = Some k
place (Unclosed k) = Some k
place (Unsound k) = Some k
place Unequal = None
place Outside = None
place Unbelievable = None

-- what a call is due: nothing, or the refusal with a number and a place of the table
pub data Due : Type 0 where
  clear : Due
  refuse : ℕ → Option ℕ → Due

-- one check: where its test is true, that number and place are due
abbrev pub check : Bool → ℕ → Option ℕ → Due
check true num at = refuse num at
check false num at = clear

-- the checks of the first row, and only where these find nothing those of the second
abbrev pub then : Due → Due → Due
then clear later = later
then (refuse num at) later = refuse num at

-- the checks at the places 0, 1, .., n − 1, in that order
abbrev pub each : (ℕ → Due) → ℕ → Due
each f zero = clear
each f (suc n) = then (each f n) (f n)

-- a test is true at some place below n
abbrev pub some : (ℕ → Bool) → ℕ → Bool
some f zero = false
some f (suc n) = some f n || f n

-- a refusal, and what a row of checks came to, in the table's terms
abbrev pub due_of : Refusal → Due
due_of q = refuse (number q) (place q)

abbrev pub told : Result ⊤ Refusal → Due
told (Ok _) = clear
told (Err q) = due_of q
