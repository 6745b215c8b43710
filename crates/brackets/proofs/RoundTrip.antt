-- The two round trips: a sound table's brackets are accepted as text, and text and table come back as they were. Assumes nothing.
-- What is open before a place of the brackets is what opened less what closed, so nothing closes too early and nothing is left open.
use mathlib.Core.Path.{◌≡◌, refl, sym, ap, subst, ◌∙◌}
use mathlib.Core.Logic.{◌≢◌, by_cases}
use mathlib.Core.List.{List, ◌++◌}
use Prim.Native.Nat.{ℕ, zero, suc, ◌+◌, ◌<◌, ◌≤◌}
use native.Mathlib.Omega.{arith}
use native.Mathlib.Decide.{dec_lt, ℕ_discrete}
use lib.Dec.{ltb}
use lib.ListN.{length, take, drop}
use lib.Seq.{take_at}
use borrow.Author.Tests.{le-ltb, ltb-false}
use Rattle.refusals.specs.Refusals.{clear, each, structure_limit}
use Rattle.std.proofs.Common.{None}
use Rattle.refusals.proofs.Laws.{one_of, check_clear, then_clear, clear_each}
use Rattle.refusals.specs.declared.Refusal.{Refusal}
use Rattle.std.proofs.Common.{Result, Ok, Err}
use Rattle.structure.specs.Table.{unpaired, view, Sound, opens, opened, closes, closed}
use Rattle.structure.proofs.Counts.{opens_none, opens_low, opens_high}
use Rattle.structure.proofs.Levels.{closes_none, closes_low, closes_high, closed_below, closed_level}
use Rattle.structure.proofs.Checking.{table_clear, clear_table, write_clear, written_clear}
use Rattle.brackets.specs.Brackets.{glyph, brackets}
use Rattle.brackets.specs.Text.{next, depth, offence, text_due}
use Rattle.brackets.specs.Calls.{Parses, Spells}
use Rattle.brackets.proofs.Glyphs.{glyph_none, glyph_high, glyph_low, brackets_at, brackets_long, one_table}
use Rattle.brackets.proofs.Scan.{offends_open, offends_dot, offends_close, shut_row}
use Rattle.brackets.proofs.OneAnswer.{one_spelling}

-- ---- table to text

-- a bracket opens and closes as its entry does
next_glyph : (k v d : ℕ) → k < unpaired → v ≢ k → closes k v ≤ d + opens k v → next (glyph k v) d + closes k v ≡ d + opens k v
next_glyph k v d h ne c =
    by_cases (ℕ_discrete v unpaired)
    (λ e. omega (arith, ap (λ (g : ℕ). next g d) (glyph_none k v e), opens_none k v e, closes_none k v e))
    (λ n. by_cases (dec_lt k v)
    (λ l. omega (arith, ap (λ (g : ℕ). next g d) (glyph_high k v l n), opens_high k v l n, closes_high k v (omega arith) n))
    (λ l. omega (arith, ap (λ (g : ℕ). next g d) (glyph_low k v (omega arith) h), opens_low k v (omega arith) h, closes_low k v (omega arith) n)))

module _ (t : List ℕ) (f : Sound t) where
  other : (k : ℕ) → k < length t → view t k ≢ k
  other k h e = let w = f.fits in let m = f.mate k (omega arith) h (omega arith) in m.2 e

  -- what is open in the brackets is the mountain's height
  open_height : (k : ℕ) → k ≤ length t → depth (view (brackets t)) k + closed (view t) k ≡ opened (view t) k
  open_height zero h = refl
  open_height (suc k) h =
      let w = f.fits in
      let r = open_height k (omega arith) in
      let c = closed_below (view t) {k = suc k} f (omega arith) h in
      let d = depth (view (brackets t)) k in
      omega (arith, ap (λ (g : ℕ). next g d) (brackets_at t k h), next_glyph k (view t k) d (omega arith) (other k h) (omega arith))

  -- no bracket offends
  spelt_row : each (offence (view (brackets t))) (length t) ≡ clear
  spelt_row = clear_each (offence (view (brackets t))) (length t) (λ k h.
      let w = f.fits in
      let v = view t k in
      let b = view (brackets t) in
      let at = brackets_at t k h in
      by_cases (ℕ_discrete v unpaired)
      (λ e. offends_dot (b k) (depth b k) k (at ∙ glyph_none k v e))
      (λ n. by_cases (dec_lt k v)
      (λ l. offends_open (b k) (depth b k) k (at ∙ glyph_high k v l n))
      (λ l. let r = open_height k (omega arith) in
      let c = closed_below (view t) {k = suc k} f (omega arith) h in
      offends_close (b k) (depth b k) k (at ∙ glyph_low k v (omega arith) (omega arith))
      (λ z. omega (arith, opens_low k v (omega arith) (omega arith), closes_low k v (omega (arith, other k h)) n)))))

  -- and none is left open
  spelt_shut : depth (view (brackets t)) (length t) ≡ 0
  spelt_shut = omega (arith, open_height (length t) (omega arith), closed_level (view t) f (omega arith))

-- a sound table's brackets are due nothing
pub spelt_clear : (t : List ℕ) (room : ℕ) → Sound t → length t ≤ structure_limit → length t ≤ room → text_due (brackets t) room ≡ clear
unfolding text_due
spelt_clear t room f l h =
    rw (brackets_long t, le-ltb structure_limit (length t) l, spelt_row t f, shut_row (view (brackets t)) (length t) (spelt_shut t f), le-ltb room (length t) h)

-- ---- both ways

-- a text that is accepted is short enough
accepted_short : (s : List ℕ) (room : ℕ) → text_due s room ≡ clear → length s ≤ structure_limit
unfolding text_due
accepted_short s room e = ltb-false structure_limit (length s) (check_clear (ltb structure_limit (length s)) 3 None (then_clear _ _ e).0)

pub text_table_text : (s o o' u u' : List ℕ) (n : ℕ) (a : Result ℕ Refusal) → Parses s o o' (Ok n) → Spells (take n o') u u' a → length s ≤ length u
    → (a ≡ Ok n) × (take n u' ≡ s)
text_table_text s o o' u u' n a p w room =
    let t = take n o' in
    let fold : Sound t = rw p.1 p.2.sound in
    let text : brackets t ≡ s = rw p.1 p.2.text in
    let long : length t ≡ n = sym (brackets_long t) ∙ ap length text ∙ sym p.1 in
    let small = accepted_short s (length o) p.0 in
    let due = write_clear t (length u) (length t) (clear_table t (omega arith) fold) (omega arith) in
    let r = one_spelling t u u' (brackets t ++ drop (length t) u) a (Ok (length t)) w (due, refl, refl) in (
      r.0 ∙ ap Ok long,
      ap (take n) r.1 ∙ take_at (brackets t) (drop (length t) u) n (brackets_long t ∙ long) ∙ text,
    )

-- a table's brackets are parsed to that table
parsed_back : (t u u' : List ℕ) (a : Result ℕ Refusal) → Sound t → length t ≤ structure_limit → length t ≤ length u → Parses (brackets t) u u' a
    → (a ≡ Ok (length t)) × (take (length t) u' ≡ t)
parsed_back t u u' (Ok m) f l h p =
    let e = brackets_long t in (
      ap Ok (p.1 ∙ e),
      ap (λ (x : ℕ). take x u') (sym e) ∙ one_table (take (length (brackets t)) u') t p.2.sound f p.2.text,
    )
parsed_back t u u' (Err q) f l h p = absurd (one_of q (spelt_clear t (length u) f l h) p.0)

pub table_text_table : (t o o' u u' : List ℕ) (n : ℕ) (a : Result ℕ Refusal) → Spells t o o' (Ok n) → Parses (take n o') u u' a → length t ≤ length u
    → (a ≡ Ok n) × (take n u' ≡ t)
table_text_table t o o' u u' n a w p room =
    let due = table_clear t (written_clear t (length o) (length t) w.0) in
    let text : take n o' ≡ brackets t = ap (take n) w.2 ∙ take_at (brackets t) (drop (length t) o) n (brackets_long t ∙ sym w.1) in
    rw w.1 (parsed_back t u u' a due.1 due.0 room (subst (λ (x : List ℕ). Parses x u u' a) text p))
