-- The surplus of every lent buffer is left, and so is its length, whatever a fold answers. Assumes nothing.
use mathlib.Core.List.{List}
use Prim.Native.Nat.{ℕ}
use lib.ListN.{length}
use Rattle.sequences.proofs.Spared.{Spared, untouched, letters_spared}
use Rattle.cells.specs.Tri.{tri}
use Rattle.count_trace.proofs.Reached.{traced_long, traced_outside}
use Rattle.counting.specs.declared.Record.{Record}
use Rattle.refusals.specs.declared.Refusal.{Refusal}
use Rattle.std.proofs.Common.{Result, Ok, Err}
use Rattle.counting.specs.Calls.{Folds}
use Rattle.counting.proofs.Accepted.{foldable}

pub fold_spare :
    (s : List ℕ) (gap : ℕ) (b b' t t' o o' : List ℕ) (a : Result (Record × ℕ) Refusal) → Folds s gap b b' t t' o o' a →
    Spared (length s) b b' × Spared (tri (length s)) t t' × Spared (length s) o o'
fold_spare s gap b b' t t' o o' (Ok (r, m)) f =
    let n = length s in
    let u = foldable s b t o f.0 in
    let d = f.2 in (
      rw d.bases (letters_spared s b u.bases),
      record { long = d.cells.long; spare = d.cells.spare },
      rw d.pairs (record { long = traced_long b' t' gap n o u.pairs; spare = traced_outside b' t' gap n o }),
    )
fold_spare s gap b b' t t' o o' (Err q) f =
    (untouched (length s) b b' f.1, untouched (tri (length s)) t t' f.2, untouched (length s) o o' f.3)
