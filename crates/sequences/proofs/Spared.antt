-- Lent memory after the letters of a sequence were written to its front: they stand there, and its length and all from a place on is left.
use mathlib.Core.Path.{◌≡◌, sym, ap, ◌∙◌}
use mathlib.Core.List.{List, map, ◌++◌}
use Prim.Native.Nat.{ℕ, ◌+◌, ◌-◌, ◌≤◌, ◌<◌}
use native.Mathlib.Omega.{arith}
use lib.ListN.{length, drop, length-map, get_or-append}
use lib.Seq.{get_or-append-add, get_or-drop, length_front, length-take-le}
use Rattle.bases.specs.Bases.{normal}
use Rattle.structure.specs.Table.{view}

-- from l to l', the length and all from the place n on is left
pub record Spared (n : ℕ) (l l' : List ℕ) : Type 0 where
  pub long : length l' ≡ length l
  pub spare : (k : ℕ) → n ≤ k → view l' k ≡ view l k

pub untouched : (n : ℕ) (l l' : List ℕ) → l' ≡ l → Spared n l l'
untouched n l l' e = record { long = ap length e; spare = λ k h. ap (λ (x : List ℕ). view x k) e }

-- the letters of a sequence at the front leave the rest
pub letters_spared : (s b : List ℕ) → length s ≤ length b → Spared (length s) b (map normal s ++ drop (length s) b)
letters_spared s b room =
    let n = length s in
    let size = length-map s normal in
    record {
      long = length_front b (map normal s) n (size ∙ sym (length-take-le n b room));
      spare = λ k h.
          let at : k ≡ length (map normal s) + (k - n) = omega (arith, size) in
          let back : n + (k - n) ≡ k = omega arith in
          ap (view (map normal s ++ drop n b)) at ∙ get_or-append-add (map normal s) (drop n b) (k - n) 0 ∙ get_or-drop n b (k - n) 0 ∙ ap (view b) back;
    }

-- and are what is read there
pub letters_front : (s b : List ℕ) (k : ℕ) → k < length s → view (map normal s ++ drop (length s) b) k ≡ view (map normal s) k
letters_front s b k h = get_or-append (map normal s) (drop (length s) b) 0 k (rw (length-map s normal) h)
