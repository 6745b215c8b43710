-- A move stays among the n bases and goes to shorter spans, on any tables, right or wrong: so the tracebacks end. Assumes nothing.
use mathlib.Core.Path.{◌≡◌, refl, subst}
use mathlib.Core.Bool.{true}
use Prim.Native.Nat.{ℕ, ◌+◌, ◌-◌, ◌<◌, ◌≤◌}
use native.Mathlib.Omega.{arith}
use borrow.Author.Tests.{ltb-true}
use lib.Dec.{ltb}
use lib.IntN.{pos}
use lib.Signed.{lt_z}
use Rattle.std.proofs.Common.{Option, None, Some}
use Rattle.cells.specs.Rule.{Bases}
use Rattle.ints.specs.Ints.{mark, add_e}
use Rattle.ints.proofs.Ints.{either}
use Rattle.closing.specs.Closing.{may_close, hairpin_at}
use Rattle.closing.proofs.Closing.{close_far}
use Rattle.energy_rule.specs.Rule.{Table, closing_charge, arm_charge}
use Rattle.energy_reach.specs.Reach.{same, reaches}
use Rattle.energy_search.specs.Search.{Places, splitting, inside}
use Rattle.energy_search.proofs.Searching.{splitting_in, inside_in}
use Rattle.energy_trace.specs.Choosing.{or_split, shorter, any_move, arms_move, or_arms, closed_move, move_of}
use Rattle.energy_trace.specs.Trace.{Spot}
use Rattle.energy_trace.specs.declared.choice.Job.{Job}
use Rattle.energy_trace.specs.declared.choice.Job.TheVariants.{Any, Arms, Closed}
use Rattle.energy_trace.specs.declared.choice.Move.{Move}
use Rattle.energy_trace.specs.declared.choice.Move.TheVariants.{Stop, Go, Close, Twice}

-- where a move from the span leads
pub data Falls (n lo hi : ℕ) : Move → Type 0 where
  stops : Falls n lo hi Stop
  goes : {job : Job} {from to : ℕ} → Spot job from to n → to - from < hi - lo → Falls n lo hi (Go job from to)
  closes : {i j : ℕ} → i < j → j < n → j - i < hi - lo → Falls n lo hi (Close i j)
  parts : {job : Job} {from k to : ℕ} → Spot job from k n → Spot job k to n → k - from < hi - lo → to - k < hi - lo → Falls n lo hi (Twice job from k to)

-- ---- what it says of each move
module _ {n lo hi : ℕ} {r : Move} (f : Falls n lo hi r) where
  pub falls_go : {job : Job} {from to : ℕ} → r ≡ Go job from to → Spot job from to n × (to - from < hi - lo)
  falls_go {job} {from} {to} e = go (subst (Falls n lo hi) e f)
    where
      go : Falls n lo hi (Go job from to) → Spot job from to n × (to - from < hi - lo)
      go (goes s h) = (s, h)

  pub falls_close : {i j : ℕ} → r ≡ Close i j → (i < j) × (j < n) × (j - i < hi - lo)
  falls_close {i} {j} e = go (subst (Falls n lo hi) e f)
    where
      go : Falls n lo hi (Close i j) → (i < j) × (j < n) × (j - i < hi - lo)
      go (closes h l s) = (h, l, s)

  pub falls_twice :
      {job : Job} {from k to : ℕ} → r ≡ Twice job from k to →
      Spot job from k n × Spot job k to n × (k - from < hi - lo) × (to - k < hi - lo)
  falls_twice {job} {from} {k} {to} e = go (subst (Falls n lo hi) e f)
    where
      go : Falls n lo hi (Twice job from k to) → Spot job from k n × Spot job k to n × (k - from < hi - lo) × (to - k < hi - lo)
      go (parts s u h l) = (s, u, h, l)

-- ---- each job's moves
module _ (n lo hi : ℕ) where
  -- a span of two or more bases, of either kind: `at` says that a job of that kind may stand on it
  module _ (job : Job) (at : (from to : ℕ) → from < to → to ≤ n → Spot job from to n) (h : lo + 1 < hi) (l : hi ≤ n) where
    split_falls : (c : Table) (f : Option ℕ) → splitting c lo (hi - 1) ≡ f → Falls n lo hi (or_split job lo hi f)
    split_falls c (Some k) q =
        let s = splitting_in c lo (hi - 1) q in
        parts {job = job} {from = lo} {k = k + 1} {to = hi} (at lo (k + 1) (omega arith) (omega arith)) (at (k + 1) hi (omega arith) (omega arith))
        (omega arith) (omega arith)
    split_falls c None q = stops

    shorter_falls : (c : Table) → Falls n lo hi (shorter job c lo hi)
    unfolding shorter
    shorter_falls c =
        either (same (c (lo + 1) (hi - 1)) (c lo (hi - 1)))
        (λ d. rw d (goes {job = job} {from = lo + 1} {to = hi} (at (lo + 1) hi (omega arith) l) (omega arith)))
        (λ d. either (same (c lo (hi - 1 - 1)) (c lo (hi - 1)))
        (λ f. rw (d, f) (goes {job = job} {from = lo} {to = hi - 1} (at lo (hi - 1) (omega arith) (omega arith)) (omega arith)))
        (λ f. rw (d, f) (split_falls c (splitting c lo (hi - 1)) refl)))

  last_falls : lo + 1 < hi → hi ≤ n → Falls n lo hi (Close lo (hi - 1))
  last_falls h l = closes {i = lo} {j = hi - 1} (omega arith) (omega arith) (omega arith)

  any_falls : (v w : Table) → hi ≤ n → Falls n lo hi (any_move v w lo hi)
  unfolding any_move
  any_falls v w l =
      either (ltb (lo + 1) hi)
      (λ t. let h = ltb-true (lo + 1) hi t in
      either (same (w lo (hi - 1)) (pos 0))
      (λ a. rw (t, a) stops)
      (λ a. either (same (v lo (hi - 1)) (w lo (hi - 1)))
      (λ c. rw (t, a, c) (last_falls h l))
      (λ c. rw (t, a, c) (shorter_falls Any (λ from to p q. (p, q)) h l w))))
      (λ t. rw t stops)

  arms_falls : (v m : Table) → hi ≤ n → Falls n lo hi (arms_move v m lo hi)
  unfolding arms_move
  arms_falls v m l =
      either (ltb (lo + 1) hi)
      (λ t. let h = ltb-true (lo + 1) hi t in
      either (lt_z (m lo (hi - 1)) mark)
      (λ a. either (same (add_e (v lo (hi - 1)) arm_charge) (m lo (hi - 1)))
      (λ c. rw (t, a, c) (last_falls h l))
      (λ c. rw (t, a, c) (shorter_falls Arms (λ from to p q. (p, q)) h l m)))
      (λ a. rw (t, a) stops))
      (λ t. rw t stops)

-- the inside of a pair
module _ (b : Bases) (v m : Table) (n i j : ℕ) (l : j < n) where
  inside_falls : may_close b i j ≡ true → (z : Option Places) → inside b v i j ≡ z → Falls n i j (or_arms v m i j z)
  inside_falls g (Some (x, y)) q =
      let s = inside_in b v i j q in
      closes {i = x} {j = y} s.1 (omega arith) (omega arith)
  inside_falls g None q =
      let f = close_far b i j g in
      either (same (add_e (m (i + 1) (j - 1)) closing_charge) (v i j))
      (λ a. rw a (goes {job = Arms} {from = i + 1} {to = j} (omega arith, omega arith) (omega arith)))
      (λ a. rw a stops)

  closed_falls : Falls n i j (closed_move b v m i j)
  unfolding closed_move
  closed_falls =
      either (may_close b i j)
      (λ g. let f = close_far b i j g in
      either (lt_z (v i j) mark)
      (λ p. either (same (hairpin_at b i j) (v i j))
      (λ a. rw (g, p, a) stops)
      (λ a. either (reaches b v i j (i + 1) (j - 1))
      (λ c. rw (g, p, a, c) (closes {i = i + 1} {j = j - 1} (omega arith) (omega arith) (omega arith)))
      (λ c. rw (g, p, a, c) (inside_falls g (inside b v i j) refl))))
      (λ p. rw (g, p) stops))
      (λ g. rw g stops)

pub move_falls : (b : Bases) (v w m : Table) (n lo hi : ℕ) (job : Job) → Spot job lo hi n → Falls n lo hi (move_of b v w m job lo hi)
unfolding move_of
move_falls b v w m n lo hi Any s = any_falls n lo hi v w s.1
move_falls b v w m n lo hi Arms s = arms_falls n lo hi v m s.1
move_falls b v w m n lo hi Closed s = closed_falls b v m n lo hi s.1
