-- What filling a triangle by a rule leaves behind. A table is read by place: `g k` is what stands at the place k, of one
-- list or of several together. `Ok b i j v`, that v is a believable value of the cell (i, j) of the bases b, is what keeps sums in range.
use Rattle.std.specs.Prelude.{◌≡◌, List, get_or, ℕ, ◌+◌, ◌≤◌, ◌<◌}
use Rattle.cells.specs.Tri.{tri, place}
use Rattle.cells.specs.Rule.{Bases, Cells, Rule}

abbrev pub at : {A : Type 0} → (ℕ → A) → Cells A
at g i j = g (place i j)

-- three lists together, as one table of triples
abbrev pub trio : {A : Type 0} → A → List A → List A → List A → ℕ → A × A × A
trio d t u w k = (get_or t k d, get_or u k d, get_or w k d)

-- the spans inside i .. j that are shorter than it are believable
abbrev pub FineInside : {A : Type 0} → (ℕ → ℕ → A → Type 0) → Cells A → ℕ → ℕ → Type 0
FineInside Ok c i j = (k l : ℕ) → i ≤ k → k ≤ l → l ≤ j → l + i < j + k → Ok k l (c k l)

-- the columns before j are believable, and column j from row i on
abbrev pub FineFrom : {A : Type 0} → (ℕ → ℕ → A → Type 0) → Cells A → ℕ → ℕ → Type 0
FineFrom Ok c i j = (k l : ℕ) → k ≤ l → l ≤ j → (l ≡ j → i ≤ k) → Ok k l (c k l)

-- every cell of the first n columns is believable
abbrev pub Fine : {A : Type 0} → (ℕ → ℕ → A → Type 0) → Cells A → ℕ → Type 0
Fine Ok c n = (i j : ℕ) → i ≤ j → j < n → Ok i j (c i j)

-- a rule gives believable values from believable ones
abbrev pub Keeps : {A : Type 0} → Rule A → (Bases → ℕ → ℕ → A → Type 0) → Type 0
Keeps {A} rule Ok = (b : Bases) (c : Cells A) (i j : ℕ) → i ≤ j → FineInside (Ok b) c i j → Ok b i j (rule b c i j)

-- From g₀ to g, the rows i .. from of column j were rewritten by the rule, and nothing else.
pub record Rows {A : Type 0} (rule : Rule A) (Ok : Bases → ℕ → ℕ → A → Type 0) (b : Bases) (g₀ g : ℕ → A) (j from i : ℕ) : Type 0 where
  pub left : (k : ℕ) → k < tri j → g k ≡ g₀ k
  pub right : (k : ℕ) → tri j + from < k → g k ≡ g₀ k
  pub fresh : (k : ℕ) → i ≤ k → k ≤ from → at g k j ≡ rule b (at g) k j
  pub fine : FineFrom (Ok b) (at g) i j

-- From g₀ to g, the rows up to `top` of the columns from `first` to before `n` were rewritten by the rule, and nothing else.
pub record Columns {A : Type 0} (rule : Rule A) (Ok : Bases → ℕ → ℕ → A → Type 0) (b : Bases) (g₀ g : ℕ → A)
    (first top n : ℕ) : Type 0 where
  pub kept : (k : ℕ) → ((i j : ℕ) → i ≤ j → first ≤ j → j < n → i ≤ top → k ≡ place i j → ⊥) → g k ≡ g₀ k
  pub fresh : (i j : ℕ) → i ≤ j → first ≤ j → j < n → i ≤ top → at g i j ≡ rule b (at g) i j
  pub fine : Fine (Ok b) (at g) n

-- what filling those columns asks of the cells that it does not write
abbrev pub FineElse : {A : Type 0} → (ℕ → ℕ → A → Type 0) → Cells A → ℕ → ℕ → ℕ → Type 0
FineElse Ok c first top n = (i j : ℕ) → i ≤ j → j < n → (first ≤ j → top < i) → Ok i j (c i j)
