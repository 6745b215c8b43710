-- The pairs of a table, written one after another to the front of lent memory. Assumes nothing.
use mathlib.Core.Path.{◌≡◌, refl, sym, ap, ◌∙◌}
use mathlib.Core.Logic.{by_cases}
use mathlib.Core.List.{List, ◌++◌}
use Prim.Native.Nat.{ℕ, zero, suc, ◌+◌, ◌*◌, ◌<◌, ◌≤◌}
use native.Mathlib.Omega.{arith}
use native.Mathlib.Numerals.{add-one}
use native.Mathlib.Decide.{ℕ_discrete}
use lib.ListN.{length, drop, length-append}
use lib.Seq.{sets, length-sets}
use borrow.Author.Tests.{eq-eqb, ne_eqb}
use Rattle.structure.specs.Table.{opens, opened}
use Rattle.structure.proofs.Counts.{opens_le, opened_le}
use Rattle.structure.proofs.Checking.{table_clear}
use Rattle.structure.proofs.Fronts.{front_more}
use Rattle.queries.specs.Calls.{listed, listed_at}

-- ---- the memory o₀ after the pairs that open before position i are written, n numbers
pub record Listing (p : ℕ → ℕ) (o₀ o : List ℕ) (n i : ℕ) : Type 0 where
  pub so_far : n ≡ 2 * opened p i
  pub long : length o ≡ length o₀
  pub memory : o ≡ listed p i ++ drop n o₀

listed_at_long : (k v : ℕ) → length (listed_at k v) ≡ 2 * opens k v
listed_at_long k v = by_cases (ℕ_discrete (opens k v) 1)
    (λ e. rw (eq-eqb (opens k v) 1 e, e))
    (λ n. let z : opens k v ≡ 0 = omega (arith, opens_le k v) in rw (ne_eqb (opens k v) 1 n, z))

listed_long : (p : ℕ → ℕ) (i : ℕ) → length (listed p i) ≡ 2 * opened p i
listed_long p zero = refl
listed_long p (suc i) = length-append (listed p i) (listed_at i (p i)) ∙ omega (arith, listed_long p i, listed_at_long i (p i))

opened_rises : (p : ℕ → ℕ) (i n : ℕ) → i ≤ n → opened p i ≤ opened p n
opened_rises p i zero h = let e : i ≡ 0 = omega arith in omega (arith, ap (opened p) e)
opened_rises p i (suc n) h = by_cases (ℕ_discrete i (suc n))
    (λ e. omega (arith, ap (opened p) e))
    (λ ne. omega (arith, opened_rises p i n (omega arith)))

pub listing_start : (p : ℕ → ℕ) (o : List ℕ) → Listing p o o 0 0
listing_start p o = record { so_far = refl; long = refl; memory = refl }

-- memory for all the pairs has room for the next
pub listing_room : (p : ℕ → ℕ) (o₀ o : List ℕ) (n i k : ℕ) → Listing p o₀ o n i → i < k → 2 * opened p k ≤ length o₀ → n + 2 * opens i (p i) ≤ length o₀
listing_room p o₀ o n i k s h r = let so_far = s.so_far in omega (arith, opened_rises p (suc i) k h)

pub listing_step : (p : ℕ → ℕ) (o₀ o o' : List ℕ) (n m i : ℕ) → Listing p o₀ o n i → n + 2 * opens i (p i) ≤ length o₀
    → m ≡ n + 2 * opens i (p i) → o' ≡ sets o n (listed_at i (p i)) → Listing p o₀ o' m (i + 1)
listing_step p o₀ o o' n m i s r e w =
    let so_far = s.so_far in
    let at_long = listed_at_long i (p i) in
    let more = front_more (listed p i) (listed_at i (p i)) o₀ n (listed_long p i ∙ sym so_far) (omega arith) in
    record {
      so_far = rw (add-one i) (omega arith);
      long = rw w (length-sets o n (listed_at i (p i)) ∙ s.long);
      memory = rw (w, s.memory, add-one i, e, ← at_long) more;
    }

pub listing_end : (p : ℕ → ℕ) (o₀ o : List ℕ) (n i : ℕ) → Listing p o₀ o n i → o ≡ listed p i ++ drop (2 * opened p i) o₀
listing_end p o₀ o n i s = rw (← s.so_far) s.memory

-- what the room for all pairs is judged by: there are no more pairs than positions, and a table that is due nothing is short enough
pub ruleset room_laws = (opened_le, table_clear)
