-- Two tables that agree on their first n positions: so they do when both are written alike, and when both are cleared, whatever they held.
-- Assumes nothing.
use mathlib.Core.Path.{◌≡◌, sym, subst, ◌∙◌}
use mathlib.Core.Logic.{by_cases}
use mathlib.Core.List.{List}
use Prim.Native.Nat.{ℕ, ◌≤◌, ◌<◌}
use native.Mathlib.Decide.{ℕ_discrete}
use native.Mathlib.Omega.{arith}
use lib.ListN.{length, set, length-set}
use lib.Seq.{get_or-set_same, get_or-set_other}
use Rattle.structure.specs.Table.{view}
use Rattle.tables.specs.Writing.{cleared, joined}
use Rattle.tables.proofs.Written.{cleared_long, cleared_below}

pub record Agree (n : ℕ) (o o' : List ℕ) : Type 0 where
  pub room : n ≤ length o
  pub room' : n ≤ length o'
  pub same : (k : ℕ) → k < n → view o k ≡ view o' k

agree_set : (n : ℕ) (o o' : List ℕ) (i v : ℕ) → Agree n o o' → Agree n (set o i v) (set o' i v)
agree_set n o o' i v a =
    let h = a.room in
    let h' = a.room' in
    record {
      room = simp length-set h;
      room' = simp length-set h';
      same = λ k l.
          by_cases (ℕ_discrete k i)
          (λ q.
          subst (λ (x : ℕ). view (set o x v) k ≡ view (set o' x v) k) q
          (get_or-set_same o k v 0 (omega arith) ∙ sym (get_or-set_same o' k v 0 (omega arith))))
          (λ q. get_or-set_other o i k v 0 q ∙ a.same k l ∙ sym (get_or-set_other o' i k v 0 q));
    }

pub agree_joined : (n : ℕ) (o o' : List ℕ) (i j : ℕ) → Agree n o o' → Agree n (joined o i j) (joined o' i j)
agree_joined n o o' i j a = agree_set n (set o i j) (set o' i j) j i (agree_set n o o' i j a)

pub agree_cleared : (n : ℕ) (o o' : List ℕ) → n ≤ length o → n ≤ length o' → Agree n (cleared n o) (cleared n o')
agree_cleared n o o' h h' = record {
  room = omega (arith, cleared_long n o h);
  room' = omega (arith, cleared_long n o' h');
  same = λ k l. cleared_below n o k l ∙ sym (cleared_below n o' k l);
}
