-- Writing a table out, at the front of lent memory: its brackets, and its pairs one after another. Assumes nothing.
use mathlib.Core.Path.{◌≡◌, refl, ◌∙◌}
use mathlib.Core.List.{List, [], ◌∷◌, ◌++◌}
use Prim.Native.Nat.{ℕ, ◌+◌, ◌<◌, ◌≤◌}
use native.Mathlib.Omega.{arith}
use native.Mathlib.Numerals.{add-one}
use lib.ListN.{length, get_or, drop, take, set, length-append, length-drop, length-set}
use lib.Seq.{sets, sets-eq, take_at, drop-append-add, drop-drop, take-suc, length-take-le, take_all}

-- ---- a front w of n numbers over the memory o
front_long : (w o : List ℕ) (n : ℕ) → length w ≡ n → n ≤ length o → length (w ++ drop n o) ≡ length o
front_long w o n e h = simp (length-append, length-drop) (omega arith)

front_drop : (w o : List ℕ) (n m : ℕ) → length w ≡ n → drop (n + m) (w ++ drop n o) ≡ drop (n + m) o
front_drop w o n m e = rw (← e) (drop-append-add w (drop (length w) o) m ∙ drop-drop m (length w) o)

-- numbers stored where it ends make it longer
pub front_more : (w xs o : List ℕ) (n : ℕ) → length w ≡ n → n + length xs ≤ length o → sets (w ++ drop n o) n xs ≡ (w ++ xs) ++ drop (n + length xs) o
front_more w xs o n e h =
    let long = front_long w o n e (omega arith) in
    sets-eq xs (w ++ drop n o) n (omega arith) ∙ rw (take_at w (drop n o) n e, front_drop w o n (length xs) e)

-- ---- the memory o₀ after the first i numbers of w are written to its front
pub record Front (w o₀ o : List ℕ) (i : ℕ) : Type 0 where
  pub long : length o ≡ length o₀
  pub memory : o ≡ take i w ++ drop i o₀

pub front_start : (w o : List ℕ) → Front w o o 0
front_start w o = record { long = refl; memory = refl }

pub front_step : (w o₀ o : List ℕ) (i v : ℕ) → Front w o₀ o i → i < length w → length w ≤ length o₀ → v ≡ get_or w i 0 → Front w o₀ (set o i v) (i + 1)
front_step w o₀ o i v s h r e =
    let more = front_more (take i w) (v ∷ []) o₀ i (length-take-le i w (omega arith)) (omega arith) in
    record {
      long = length-set o i v ∙ s.long;
      memory = rw (s.memory, add-one i, take-suc w i 0 h, ← e) (rw (add-one i) at more);
    }

pub front_end : (w o₀ o : List ℕ) → Front w o₀ o (length w) → o ≡ w ++ drop (length w) o₀
front_end w o₀ o s = s.memory ∙ rw (take_all (length w) w (omega arith))
