-- What stands in a table that was cleared, and in one where two positions were joined: what was written there, elsewhere what stood there.
-- Assumes nothing.
use mathlib.Core.Path.{◌≡◌, ap, ◌∙◌}
use mathlib.Core.Logic.{◌≢◌}
use mathlib.Core.List.{List}
use Prim.Native.Nat.{ℕ, ◌+◌, ◌-◌, ◌≤◌, ◌<◌}
use native.Mathlib.Omega.{arith}
use lib.ListN.{length, set, drop, replicate, length-set, length-append, length-drop, length-replicate, get_or-replicate, get_or-append}
use lib.Seq.{get_or-append-add, get_or-drop, get_or-set_same, get_or-set_other}
use Rattle.structure.specs.Table.{unpaired, view}
use Rattle.tables.specs.Writing.{cleared, joined}

-- the cleared table: as long, unpaired below n, and as it was from n on
module _ (n : ℕ) (o : List ℕ) where
  pub cleared_long : n ≤ length o → length (cleared n o) ≡ length o
  cleared_long h = simp (length-append, length-replicate, length-drop) (omega arith)

  pub cleared_below : (k : ℕ) → k < n → view (cleared n o) k ≡ unpaired
  cleared_below k l = get_or-append (replicate n unpaired) (drop n o) 0 k (rw length-replicate l) ∙ get_or-replicate n k unpaired 0 l

  pub cleared_above : (k : ℕ) → n ≤ k → view (cleared n o) k ≡ view o k
  cleared_above k h =
      let e : k ≡ n + (k - n) = omega arith in
      let long : k ≡ length (replicate n unpaired) + (k - n) = rw length-replicate e in
      ap (view (cleared n o)) long
      ∙ get_or-append-add (replicate n unpaired) (drop n o) (k - n) 0
      ∙ get_or-drop n o (k - n) 0
      ∙ rw (← e)

-- the joined table: as long, the two name each other, and the others are as they were
module _ (o : List ℕ) (i j : ℕ) where
  pub joined_long : length (joined o i j) ≡ length o
  joined_long = simp length-set

  pub joined_other : (k : ℕ) → k ≢ i → k ≢ j → view (joined o i j) k ≡ view o k
  joined_other k n m = get_or-set_other (set o i j) j k i 0 m ∙ get_or-set_other o i k j 0 n

  pub joined_first : i < j → j < length o → view (joined o i j) i ≡ j
  joined_first h l = get_or-set_other (set o i j) j i i 0 (omega arith) ∙ get_or-set_same o i j 0 (omega arith)

  pub joined_last : j < length o → view (joined o i j) j ≡ i
  joined_last l = get_or-set_same (set o i j) j i 0 (rw length-set l)
