-- The laws of `span`, half-open reading of a cell: a span that is not empty holds its cell, an empty one 0. Assumes nothing.
use mathlib.Core.Path.{◌≡◌, refl}
use mathlib.Core.Bool.{Bool, true, false, cond}
use Prim.Native.Nat.{ℕ, ◌-◌, ◌≤◌, ◌<◌}
use native.Mathlib.Omega.{arith}
use lib.Dec.{ltb}
use borrow.Author.Tests.{ltb-true, lt-ltb, le-ltb}
use Rattle.cells.specs.Rule.{Cells, span}

pub span_some : (c : Cells ℕ) (lo hi : ℕ) → lo < hi → span c lo hi ≡ c lo (hi - 1)
unfolding span
span_some c lo hi h = rw (lt-ltb lo hi h)

pub span_none : (c : Cells ℕ) (lo hi : ℕ) → hi ≤ lo → span c lo hi ≡ 0
unfolding span
span_none c lo hi h = rw (le-ltb lo hi h)

-- a span depends on its own cell alone
pub span_same : (c c' : Cells ℕ) (lo hi : ℕ) → (lo < hi → c lo (hi - 1) ≡ c' lo (hi - 1)) → span c lo hi ≡ span c' lo hi
unfolding span
span_same c c' lo hi e = go (ltb lo hi) (λ p. e (ltb-true lo hi p))
  where
    go : (t : Bool) → (t ≡ true → c lo (hi - 1) ≡ c' lo (hi - 1)) → cond t (c lo (hi - 1)) 0 ≡ cond t (c' lo (hi - 1)) 0
    go true f = f refl
    go false f = refl

-- a bound of its own cell bounds a span
pub span_under : (c : Cells ℕ) (lo hi v : ℕ) → (lo < hi → c lo (hi - 1) ≤ v) → span c lo hi ≤ v
unfolding span
span_under c lo hi v e = go (ltb lo hi) (λ p. e (ltb-true lo hi p))
  where
    go : (t : Bool) → (t ≡ true → c lo (hi - 1) ≤ v) → cond t (c lo (hi - 1)) 0 ≤ v
    go true f = f refl
    go false f = omega arith
