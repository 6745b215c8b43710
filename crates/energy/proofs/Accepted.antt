-- What an accepted fold was found to have: the row of checks, taken apart. Assumes nothing.
use mathlib.Core.Path.{◌≡◌}
use mathlib.Core.Bool.{◌||◌}
use mathlib.Core.Logic.{◌≢◌}
use mathlib.Core.List.{List}
use Prim.Native.Nat.{ℕ, ◌≤◌, ◌<◌}
use native.Mathlib.Omega.{arith}
use lib.Dec.{ltb, eqb}
use lib.IntN.{ℤ}
use lib.ListN.{length}
use borrow.Author.Tests.{ltb-false, le-ltb, eqb-false, ne_eqb}
use Rattle.refusals.specs.Refusals.{clear, check, then, fold_limit}
use Rattle.std.proofs.Common.{None}
use Rattle.refusals.proofs.Laws.{check_clear, then_clear, neither}
use Rattle.sequences.specs.Sequences.{bases_due}
use Rattle.cells.specs.Tri.{tri}
use Rattle.energy.specs.Checks.{no_room, fold_due}

-- a sequence that is folded: some bases and not too many, each of them one, with room for what is written
pub record Foldable (s b : List ℕ) (v w m : List ℤ) (o : List ℕ) : Type 0 where
  pub short : length s ≤ fold_limit
  pub some : 0 < length s
  pub each : bases_due s ≡ clear
  pub bases : length s ≤ length b
  pub paired : tri (length s) ≤ length v
  pub any : tri (length s) ≤ length w
  pub arms : tri (length s) ≤ length m
  pub pairs : length s ≤ length o

pub foldable : (s b : List ℕ) (v w m : List ℤ) (o : List ℕ) → fold_due s b v w m o ≡ clear → Foldable s b v w m o
unfolding fold_due
foldable s b v w m o e =
    let n = length s in
    let long = ltb fold_limit n in
    let small = no_room b v w m o n in
    let later = then (bases_due s) (check small 4 None) in
    let c₁ = then_clear (check long 3 None) (then (check (eqb n 0) 1 None) later) e in
    let c₂ = then_clear (check (eqb n 0) 1 None) later c₁.1 in
    let c₃ = then_clear (bases_due s) (check small 4 None) c₂.1 in
    let r₁ = neither (ltb (length b) n) (ltb (length v) (tri n) || (ltb (length w) (tri n) || (ltb (length m) (tri n) || ltb (length o) n))) (check_clear small 4 None c₃.1) in
    let r₂ = neither (ltb (length v) (tri n)) (ltb (length w) (tri n) || (ltb (length m) (tri n) || ltb (length o) n)) r₁.1 in
    let r₃ = neither (ltb (length w) (tri n)) (ltb (length m) (tri n) || ltb (length o) n) r₂.1 in
    let r₄ = neither (ltb (length m) (tri n)) (ltb (length o) n) r₃.1 in
    let none : n ≢ 0 = eqb-false n 0 (check_clear (eqb n 0) 1 None c₂.0) in
    record {
      short = ltb-false fold_limit n (check_clear long 3 None c₁.0);
      some = omega arith;
      each = c₃.0;
      bases = ltb-false (length b) n r₁.0;
      paired = ltb-false (length v) (tri n) r₂.0;
      any = ltb-false (length w) (tri n) r₃.0;
      arms = ltb-false (length m) (tri n) r₄.0;
      pairs = ltb-false (length o) n r₄.1;
    }

-- and such a sequence is folded
pub accepted : (s b : List ℕ) (v w m : List ℤ) (o : List ℕ) → Foldable s b v w m o → fold_due s b v w m o ≡ clear
unfolding fold_due
accepted s b v w m o f =
    rw (
      le-ltb fold_limit (length s) f.short,
      ne_eqb (length s) 0 (omega arith),
      f.each,
      le-ltb (length b) (length s) f.bases,
      le-ltb (length v) (tri (length s)) f.paired,
      le-ltb (length w) (tri (length s)) f.any,
      le-ltb (length m) (tri (length s)) f.arms,
      le-ltb (length o) (length s) f.pairs,
    )
