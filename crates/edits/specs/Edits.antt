-- Edits of a sequence, what they spell and what they may write. Assumes nothing: these are definitions.
use Rattle.std.specs.Prelude.{◌≡◌, Bool, true, false, List, [], ◌∷◌, ◌++◌, ℕ, ◌+◌, ◌-◌, ◌≤◌, ◌<◌, max, length, set, take}

-- the base at a place becomes that of a byte; that of a byte is added at the end; the last base is erased
pub data Edit : Type 0 where
  replace : ℕ → ℕ → Edit
  add : ℕ → Edit
  erase : Edit

-- the sequence after an edit
abbrev pub spell : Edit → List ℕ → List ℕ
spell (replace p x) s = set s p x
spell (add x) s = s ++ (x ∷ [])
spell erase s = take (length s - 1) s

-- an edit that was refused spells nothing
abbrev pub after : Bool → Edit → List ℕ → List ℕ
after true e s = spell e s
after false e s = s

-- the sequence that the accepted edits of a run spell; each edit is with whether it was accepted
unfoldable pub spelled : List (Edit × Bool) → List ℕ → List ℕ
spelled [] s = s
spelled (x ∷ l) s = spelled l (after x.1 x.0 s)

-- the length of the longest sequence on the way
unfoldable pub longest : List (Edit × Bool) → List ℕ → ℕ
longest [] s = length s
longest (x ∷ l) s = max (length s) (longest l (after x.1 x.0 s))

-- how many bases an edit of n leaves
abbrev pub size_after : Edit → ℕ → ℕ
size_after (replace p x) n = n
size_after (add x) n = n + 1
size_after erase n = n - 1

-- of n bases, the byte k that an edit may write
abbrev pub Byte : Edit → ℕ → ℕ → Type 0
Byte (replace p x) n k = k ≡ p
Byte (add x) n k = k ≡ n
Byte erase n k = ⊥

-- and the cells (i, j), those over that byte
abbrev pub Cell : Edit → ℕ → ℕ → ℕ → Type 0
Cell (replace p x) n i j = (i ≤ p) × (p ≤ j) × (j < n)
Cell (add x) n i j = j ≡ n
Cell erase n i j = ⊥
