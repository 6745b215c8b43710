-- The traceback's steps as its calls make them, and the room that they need.
-- Assumes nothing.
use mathlib.Core.Path.{◌≡◌, refl, ◌∙◌}
use mathlib.Core.Bool.{Bool}
use mathlib.Core.List.{List}
use Prim.Native.Nat.{ℕ, zero, suc, ◌+◌, ◌-◌, ◌≤◌, ◌<◌}
use native.Mathlib.Nat.{le_trans}
use native.Mathlib.Omega.{arith}
use borrow.Author.Tests.{lt-ltb, le-ltb}
use lib.ListN.{length}
use Rattle.cells.specs.Rule.{Cells}
use Rattle.cells.proofs.Places.{tri_mono}
use Rattle.tables.specs.Writing.{joined}
use Rattle.count_trace.specs.Choosing.{choice}
use Rattle.count_trace.specs.Trace.{trace_of, Traced, Room}
use Rattle.count_trace.specs.declared.choice.Choice.{Choice}
use Rattle.count_trace.specs.declared.choice.Choice.TheVariants.{FirstUnpaired, Paired, Split, LastUnpaired}
use Rattle.count_trace.proofs.Choosing.{split_inside}

module _ (c : Cells ℕ) (p : ℕ → ℕ → Bool) (lo hi : ℕ) (o : List ℕ) where
  pub traced_done : hi - lo < 2 → Traced c p lo hi o o
  unfolding trace_of
  traced_done h zero l = refl
  traced_done h (suc f) l = simp (lt-ltb _ _ h)

  module _ (h : 2 ≤ hi - lo) (ch : Choice) (e : ch ≡ choice c p lo (hi - 1)) where
    pub traced_first : (o' : List ℕ) → ch ≡ FirstUnpaired → Traced c p (lo + 1) hi o o' → Traced c p lo hi o o'
    unfolding trace_of
    traced_first o' q r zero l = absurd (omega arith)
    traced_first o' q r (suc f) l = r f (omega arith) ∙ simp (le-ltb _ _ h, ← e, q)

    pub traced_both :
        (o₁ o' : List ℕ) → ch ≡ Paired → o₁ ≡ joined o lo (hi - 1) →
        Traced c p (lo + 1) (hi - 1) o₁ o' → Traced c p lo hi o o'
    unfolding trace_of
    traced_both o₁ o' q w r zero l = absurd (omega arith)
    traced_both o₁ o' q w r (suc f) l = r f (omega arith) ∙ simp (le-ltb _ _ h, ← e, q, w)

    pub traced_split :
        (o₁ o' : List ℕ) (k : ℕ) → ch ≡ Split k → Traced c p lo (k + 1) o o₁ → Traced c p (k + 1) hi o₁ o' →
        Traced c p lo hi o o'
    unfolding trace_of
    traced_split o₁ o' k q r s zero l = absurd (omega arith)
    traced_split o₁ o' k q r s (suc f) l =
        let b = split_inside c p lo (hi - 1) e q in
        s f (omega arith) ∙ simp (le-ltb _ _ h, ← e, q, ← r f (omega arith))

    pub traced_last : (o' : List ℕ) → ch ≡ LastUnpaired → Traced c p lo (hi - 1) o o' → Traced c p lo hi o o'
    unfolding trace_of
    traced_last o' q r zero l = absurd (omega arith)
    traced_last o' q r (suc f) l = r f (omega arith) ∙ simp (le-ltb _ _ h, ← e, q)

-- the room of a span has that of every span in it
pub room_in :
    (b t o o' : List ℕ) (lo hi lo' hi' : ℕ) → Room b t o lo hi → length o' ≡ length o → lo' ≤ hi' → hi' ≤ hi → Room b t o' lo' hi'
room_in b t o o' lo hi lo' hi' r e h l = record {
  order = h;
  short = omega arith;
  bases = omega arith;
  cells = le_trans (tri_mono hi' hi l) r.cells;
  out = omega arith;
}
