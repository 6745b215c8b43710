-- A kind of fold that edits follow, and what it is that a state is a sequence's. Assumes nothing: these are definitions.
use Rattle.std.specs.Prelude.{◌≡◌, Bool, true, false, List, ℕ, ◌+◌, ◌-◌, ◌≤◌, ◌<◌, length, get_or}
use Rattle.cells.specs.Rule.{Bases, Rule, Local, Right}
use Rattle.cells.specs.Fill.{at, Keeps, Columns}
use Rattle.edits.specs.Edits.{Edit, replace, add, erase, size_after}
use Rattle.edits.specs.Runs.{State}

-- R is a record, G what sets the rule, F a figure, T tables, A a cell of them
pub record Kind (R G F T A : Type 0) : Type 1 where
  -- of a record: its length, and what sets the rule
  pub size : R → ℕ
  pub setting : R → G
  -- the tables by place, and their cells' rule, with what is believable of a cell
  pub look : T → ℕ → A
  pub rule : G → Rule A
  pub Ok : Bases → ℕ → ℕ → A → Type 0
  pub loc : (g : G) → Local (rule g)
  pub keeps : (g : G) → Keeps (rule g) Ok
  -- which bytes are bases, and the letter that is kept of one
  pub Base : ℕ → Type 0
  pub letter : ℕ → ℕ
  pub letter_base : (x : ℕ) → Base x → Base (letter x)
  pub letter_again : (x : ℕ) → letter (letter x) ≡ letter x
  -- the figure that the cell of the whole span tells
  pub tells : A → F
  -- lent memory has room for so many bases
  pub Room : ℕ → List ℕ → T → Type 0

-- n bases and their table are those of the sequence s: each base by its letter, each cell by the rule
pub record Kept {A : Type 0} (rule : Rule A) (letter : ℕ → ℕ) (s : List ℕ) (b : Bases) (g : ℕ → A) (n : ℕ) : Type 0 where
  pub long : n ≡ length s
  pub spelt : (k : ℕ) → k < n → b k ≡ letter (get_or s k 0)
  pub right : Right rule b (at g) n

-- b' is b with x at the place p
pub record Put (b b' : Bases) (p x : ℕ) : Type 0 where
  pub here : b' p ≡ x
  pub off : (k : ℕ) → (k ≡ p → ⊥) → b k ≡ b' k

-- what an accepted edit of n bases writes: the letter of its base and, by the rule, the cells over it
abbrev pub Writes : {R G F T A : Type 0} → Kind R G F T A → G → Edit → ℕ → (b b' : Bases) (c c' : ℕ → A) → Type 0
Writes K g (replace p x) n b b' c c' = (p < n) × K.Base x × Put b b' p (K.letter x) × Columns (K.rule g) K.Ok b' c c' p p n
Writes K g (add x) n b b' c c' = K.Base x × Put b b' n (K.letter x) × Columns (K.rule g) K.Ok b' c c' n n (n + 1)
Writes K g erase n b b' c c' = (1 < n) × (b' ≡ b) × (c' ≡ c)

-- the kept bases, place by place
abbrev pub bases_of : {R F T : Type 0} → State R F T → Bases
bases_of s k = get_or s.bases k 0

-- the state s is that of the sequence q, its rule set by g
pub record Good {R G F T A : Type 0} (K : Kind R G F T A) (g : G) (q : List ℕ) (s : State R F T) : Type 0 where
  pub set : K.setting s.kept ≡ g
  pub table : Kept (K.rule g) K.letter q (bases_of s) (K.look s.cells) (K.size s.kept)
  pub figure : s.figure ≡ K.tells (at (K.look s.cells) 0 (K.size s.kept - 1))
  pub some : 0 < K.size s.kept
  pub each : (k : ℕ) → k < length q → K.Base (get_or q k 0)
  pub room : K.Room (K.size s.kept) s.bases s.cells

-- an edit was accepted, from s to s'
pub record Made {R G F T A : Type 0} (K : Kind R G F T A) (e : Edit) (s s' : State R F T) : Type 0 where
  pub size : K.size s'.kept ≡ size_after e (K.size s.kept)
  pub setting : K.setting s'.kept ≡ K.setting s.kept
  pub writes : Writes K (K.setting s.kept) e (K.size s.kept) (bases_of s) (bases_of s') (K.look s.cells) (K.look s'.cells)
  pub figure : s'.figure ≡ K.tells (at (K.look s'.cells) 0 (K.size s'.kept - 1))
  pub room : K.Room (K.size s'.kept) s'.bases s'.cells

-- or it was refused
abbrev pub Does : {R G F T A : Type 0} → Kind R G F T A → Edit → Bool → State R F T → State R F T → Type 0
Does K e true s s' = Made K e s s'
Does K e false s s' = s' ≡ s

-- two states tell the same: length and setting, figure, kept bases and used cells
pub record Alike {R G F T A : Type 0} (K : Kind R G F T A) (s s' : State R F T) : Type 0 where
  pub size : K.size s.kept ≡ K.size s'.kept
  pub setting : K.setting s.kept ≡ K.setting s'.kept
  pub figure : s.figure ≡ s'.figure
  pub bases : (k : ℕ) → k < K.size s'.kept → bases_of s k ≡ bases_of s' k
  pub cells : (i j : ℕ) → i ≤ j → j < K.size s'.kept → at (K.look s.cells) i j ≡ at (K.look s'.cells) i j
