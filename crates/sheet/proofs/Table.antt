-- Every proved line of the bench sheet holds: what the call is due is computed, and a contract permits no other answer. Assumes nothing.
use mathlib.Core.Path.{◌≡◌, refl, sym, ap, ◌∙◌}
use mathlib.Core.List.{List, [], ◌∷◌}
use Prim.Native.Nat.{ℕ, ◌≤◌}
use native.Mathlib.Omega.{arith}
use lib.ListN.{length}
use Rattle.std.proofs.Common.{Some, Ok, Err}
use borrow.Author.Tests.{le-ltb}
use lib.Dec.{lit<, lit≤}
use Rattle.refusals.specs.Refusals.{clear, refuse, due_of}
use Rattle.refusals.proofs.Laws.{one_of}
use Rattle.bases.specs.Bases.{reads, no_base, normal, can_pair}
use Rattle.structure.specs.Table.{unpaired}
use Rattle.brackets.specs.Brackets.{glyphs, brackets}
use Rattle.brackets.specs.Text.{text_due, unmatched}
use Rattle.searches.specs.First.{first_passing}
use Rattle.sequences.specs.Sequences.{bases_due}
use Rattle.cells.specs.Tri.{tri}
use Rattle.cells.specs.Rule.{span}
use Rattle.cells.specs.Solve.{every}
use Rattle.count_rule.specs.Rule.{may_pair, best, paired, split, nussinov}
use Rattle.count_trace.specs.Choosing.{closes_of, split_at, split_of, choice}
use Rattle.count_trace.specs.Trace.{trace_of, traced_of}
use Rattle.counting.specs.Calls.{count_of}
use Rattle.charges.proofs.KindTable.{Every}
use Rattle.sheet.specs.Lines.{text_accepted, text_refused, Says, table}
use Rattle.sheet.proofs.Counts.{counted}
use Rattle.sheet.proofs.Vectors.{seven, nine, ten, twenty_one, charged_so}

accepted : (s : List ℕ) → ((room : ℕ) → length s ≤ room → text_due s room ≡ clear) → Says (text_accepted s)
accepted s due o o' (Ok n) room p = ap Ok p.1
accepted s due o o' (Err q) room p = absurd (one_of q (due (length o) room) p.0)

denied : (s : List ℕ) (num k : ℕ) → ((room : ℕ) → text_due s room ≡ refuse num (Some k)) → Says (text_refused s num k)
denied s num k due o o' (Ok n) p = let e = sym p.0 ∙ due (length o) in let z : ◌≡◌ {A = ℕ} 0 1 = cc in absurd (omega arith)
denied s num k due o o' (Err q) p = let e : due_of q ≡ refuse num (Some k) = sym p.0 ∙ due (length o) in (q, refl, cc, cc)

-- the certificate of GGGGCCCC, and its pair table
eight : List ℕ
eight =
    0 ∷ 0 ∷ 0 ∷ 0 ∷ 0 ∷ 0 ∷ 0 ∷ 0 ∷ 0 ∷ 0 ∷ 1 ∷ 0 ∷ 0 ∷ 0 ∷ 0 ∷ 1 ∷ 1 ∷ 0 ∷ 0 ∷ 0 ∷ 0 ∷ 2 ∷ 1 ∷ 1 ∷ 0 ∷ 0 ∷ 0 ∷ 0 ∷ 2 ∷ 2 ∷ 1 ∷ 1 ∷ 0 ∷ 0 ∷ 0 ∷ 0 ∷ []

nested : List ℕ
nested = unpaired ∷ 7 ∷ 6 ∷ unpaired ∷ unpaired ∷ unpaired ∷ 2 ∷ 1 ∷ []

pub bench_sheet : Every Says table
unfolding text_due unmatched eight nested reads no_base normal bases_due can_pair may_pair span best paired split nussinov tri every first_passing closes_of split_at split_of choice trace_of traced_of count_of glyphs brackets
bench_sheet = (
  accepted [] (λ room h. rw (le-ltb room 0 h)),
  (
    denied (41 ∷ 40 ∷ []) _ _ (λ room. refl),
    (
      denied (40 ∷ 46 ∷ 120 ∷ []) _ _ (λ room. refl),
      (
        denied (46 ∷ 40 ∷ 40 ∷ 41 ∷ []) _ _ (λ room. refl),
        (
          counted _ (0 ∷ []) (unpaired ∷ []) _ _ _ (lit< tt) (lit≤ tt) refl refl tt refl refl refl refl,
          (
            counted _ (0 ∷ 1 ∷ 0 ∷ []) (1 ∷ 0 ∷ []) _ _ _ (lit< tt) (lit≤ tt) refl refl tt refl refl refl refl,
            (
              counted _ (0 ∷ 0 ∷ 0 ∷ []) (unpaired ∷ unpaired ∷ []) _ _ _ (lit< tt) (lit≤ tt) refl refl tt refl refl refl refl,
              (
                counted _ eight nested _ _ _ (lit< tt) (lit≤ tt) refl refl tt refl refl refl refl,
                (seven, (nine, (ten, (charged_so, (twenty_one, tt))))),
              ),
            ),
          ),
        ),
      ),
    ),
  ),
)
