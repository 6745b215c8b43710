-- What the functions inside know of a pair table on their way over it. Assumes nothing: these are definitions.
use Rattle.std.specs.Prelude.{◌≡◌, ◌≢◌, ◌⊎◌, Bool, true, false, cond, ℕ, suc, ◌<◌, ◌≤◌, ltb, leb, eqb, Option, None, Some}
use Rattle.structure.specs.Table.{unpaired, Fold}
use Rattle.structure.specs.Soundness.{named}

-- entry k of n is 65535, or a position other than k that names k back
pub record Named (p : ℕ → ℕ) (n k : ℕ) : Type 0 where
  pub back : p k ≢ unpaired → (p k < n) × (p k ≢ k) × (p (p k) ≡ k)

-- each of the n entries is
abbrev pub AllNamed : (ℕ → ℕ) → ℕ → Type 0
AllNamed p n = (k : ℕ) → k < n → Named p n k

-- r is the first place whose entry isn't, or n
pub record FirstUnnamed (p : ℕ → ℕ) (n r : ℕ) : Type 0 where
  pub within : r ≤ n
  pub before : (k : ℕ) → k < r → named p n k ≡ true
  pub here : r < n → named p n r ≡ false

-- the pair that opens at a is crossed by the pair that opens at b, further right
pub record Over (p : ℕ → ℕ) (n a b : ℕ) : Type 0 where
  pub right : a < b
  pub within : b < p a
  pub past : p a < p b
  pub pair : p b < n

-- the pair that opens at a is crossed by one further right
pub data Crossed (p : ℕ → ℕ) (n a : ℕ) : Type 0 where
  crossed_by : (b : ℕ) → Over p n a b → Crossed p n a

-- some pair is
pub data Crossing (p : ℕ → ℕ) (n : ℕ) : Type 0 where
  crossing : (a : ℕ) → Crossed p n a → Crossing p n

-- each pair that opens at i or further right folds
abbrev pub Shut : (ℕ → ℕ) → ℕ → ℕ → Type 0
Shut p n i = (x : ℕ) → i ≤ x → x < p x → p x < n → Fold p x (suc (p x))

-- some position from lo up to, but not including, hi has its partner elsewhere
pub data Escapes (p : ℕ → ℕ) (lo hi : ℕ) : Type 0 where
  escapes : (x : ℕ) → lo ≤ x → x < hi → p x ≢ unpaired → (p x < lo) ⊎ (hi ≤ p x) → Escapes p lo hi

-- a test's answer: what it means where it holds, and where it fails
pub record Tells (r : Bool) (A B : Type 0) : Type 0 where
  pub holds : r ≡ true → A
  pub fails : r ≡ false → B

-- the place after x, whose entry is v, on a walk that jumps over pairs and stays below hi; none where it can't
abbrev pub hop_to : ℕ → ℕ → ℕ → Option ℕ
hop_to x v hi = cond (eqb v unpaired) (Some (suc x)) (cond (ltb v x) None (cond (leb hi v) None (Some (suc v))))
