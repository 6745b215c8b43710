-- Pairs that may not close a loop: where none is found, a sound table is a candidate.
use mathlib.Core.Path.{◌≡◌, refl}
use mathlib.Core.Logic.{◌≢◌}
use mathlib.Core.Bool.{true, false}
use mathlib.Core.List.{List}
use Prim.Native.Nat.{ℕ, zero, suc, ◌+◌, ◌<◌, ◌≤◌}
use native.Mathlib.Omega.{arith}
use lib.ListN.{length}
use Rattle.structure.specs.Table.{unpaired, view, Sound}
use Rattle.closing.specs.Closing.{may_close}
use Rattle.charges.specs.Loops.{bars, barred, first_barred, Candidate}

module _ (b p : ℕ → ℕ) where
  pub barred_here : (n k : ℕ) → 0 < n → bars b p k ≡ true → barred b p n k ≡ k
  unfolding barred
  barred_here zero k h e = absurd (omega arith)
  barred_here (suc n) k h e = rw e

  pub barred_next : (n m k : ℕ) → n ≡ suc m → bars b p k ≡ false → barred b p n k ≡ barred b p m (suc k)
  unfolding barred
  barred_next n m k h e = rw (h, e)

  pub barred_none : (n k : ℕ) → n ≡ 0 → barred b p n k ≡ k
  unfolding barred
  barred_none zero k h = refl
  barred_none (suc n) k h = absurd (omega arith)

  -- it is in the table, or its end
  pub barred_most : (n k : ℕ) → barred b p n k ≤ k + n
  unfolding barred
  barred_most zero k = omega arith
  barred_most (suc n) k = grind (arith, barred_most n (suc k))

  -- none of the positions before the first does
  pub barred_before : (n k i : ℕ) → k ≤ i → i < barred b p n k → i < k + n → bars b p i ≡ false
  unfolding barred
  barred_before zero k i l h m = absurd (omega arith)
  barred_before (suc n) k i l h m = grind (arith, barred_before n (suc k) i)

  bars_not : (k : ℕ) → k < p k → p k ≢ unpaired → bars b p k ≡ false → may_close b k (p k) ≡ true
  unfolding bars
  bars_not k h n e = grind arith

pub candidate : (b t : List ℕ) → Sound t → first_barred b t ≡ length t → Candidate (view b) (view t) 0 (length t)
candidate b t s e =
    record {
      fold = s;
      each = λ k l h u n. bars_not (view b) (view t) k u n (barred_before (view b) (view t) (length t) 0 k l (omega arith) (omega arith));
    }
