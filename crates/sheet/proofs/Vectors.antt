-- The lines on energies, each settled by its certificate: the three tables, column by column, as runs of equal cells.
-- Assumes nothing.
use mathlib.Core.Path.{refl}
use mathlib.Core.List.{List, [], ◌∷◌, ◌++◌}
use Prim.Native.Nat.{ℕ}
use lib.Dec.{lit<, lit≤}
use lib.IntN.{ℤ, pos, negsuc, neg_ℤ}
use lib.ListN.{replicate}
use Rattle.bases.specs.Bases.{reads, no_base, normal, can_pair, pair_index, is_purine}
use Rattle.structure.specs.Table.{unpaired}
use Rattle.brackets.specs.Brackets.{glyphs, brackets}
use Rattle.searches.specs.First.{first_passing}
use Rattle.sequences.specs.Sequences.{bases_due}
use Rattle.cells.specs.Tri.{tri}
use Rattle.cells.specs.Solve.{every}
use Rattle.ints.specs.Ints.{mark, minℤ, add_e, min_from}
use Rattle.figures.specs.Figures as fig
use Rattle.figures.specs.Charge.{hairpin, mismatch, bulge, internal, stack, long, sized, hairpin_of, stack_at, bulge_of, slant, internal_of, many_of, between}
use Rattle.closing.specs.Closing.{may_close, own, purines, hairpin_at}
use Rattle.charges.specs.Loops.{arms, first, single, kind_by, kind, charge_by, charge_at, total}
use Rattle.energy_rule.specs.Rule.{inner_at, lowest, inner_from, interior, paired, splits, any, armed, energies}
use Rattle.energy_reach.specs.Reach.{same, split_at, reaches}
use Rattle.energy_search.specs.Search.{first_row, splitting, inner_row, inside}
use Rattle.energy_trace.specs.Choosing.{shorter, any_move, arms_move, closed_move, move_of}
use Rattle.energy_trace.specs.Trace.{trace_of, traced_of}
use Rattle.energy.specs.Calls.{energy_at}
use Rattle.sheet.specs.Lines.{Says, energy, charged}
use Rattle.sheet.proofs.Energies.{settled}

-- so many equal cells, and so on
abbrev runs : List (ℕ × ℤ) → List ℤ
runs [] = []
runs (r ∷ rest) = replicate r.0 r.1 ++ runs rest

-- GGAAACC: 0, .......
pub seven : Says (energy (71 ∷ 71 ∷ 65 ∷ 65 ∷ 65 ∷ 67 ∷ 67 ∷ []) (pos 0) (46 ∷ 46 ∷ 46 ∷ 46 ∷ 46 ∷ 46 ∷ 46 ∷ []))
unfolding fig.hairpin fig.mismatch fig.bulge fig.internal fig.stack fig.long hairpin mismatch bulge internal stack long sized hairpin_of stack_at bulge_of slant internal_of can_pair pair_index is_purine may_close between own purines hairpin_at minℤ add_e min_from inner_at lowest inner_from interior paired splits any armed energies tri every same first_passing first_row split_at splitting reaches inner_row inside shorter any_move arms_move closed_move move_of trace_of traced_of energy_at reads no_base normal bases_due glyphs brackets
seven =
    settled _
    (runs ((15, mark) ∷ (1, pos 4800) ∷ (1, pos 5400) ∷ (4, mark) ∷ (1, pos 2100) ∷ (1, pos 5200) ∷ (5, mark) ∷ []))
    (runs ((28, pos 0) ∷ []))
    (runs ((15, mark) ∷ (1, pos 5200) ∷ (1, pos 5800) ∷ (4, mark) ∷ (1, pos 2500) ∷ (1, pos 5600) ∷ (5, mark) ∷ []))
    (unpaired ∷ unpaired ∷ unpaired ∷ unpaired ∷ unpaired ∷ unpaired ∷ unpaired ∷ []) _ _ (lit< tt) (lit≤ tt) refl refl tt refl refl refl refl

-- GGGAAACCC: −1200, (((...)))
pub nine : Says (energy (71 ∷ 71 ∷ 71 ∷ 65 ∷ 65 ∷ 65 ∷ 67 ∷ 67 ∷ 67 ∷ []) (neg_ℤ (pos 1200)) (40 ∷ 40 ∷ 40 ∷ 46 ∷ 46 ∷ 46 ∷ 41 ∷ 41 ∷ 41 ∷ []))
unfolding fig.hairpin fig.mismatch fig.bulge fig.internal fig.stack fig.long hairpin mismatch bulge internal stack long sized hairpin_of stack_at bulge_of slant internal_of can_pair pair_index is_purine may_close between own purines hairpin_at minℤ add_e min_from inner_at lowest inner_from interior paired splits any armed energies tri every same first_passing first_row split_at splitting reaches inner_row inside shorter any_move arms_move closed_move move_of trace_of traced_of energy_at reads no_base normal bases_due glyphs brackets
nine =
    settled _
    (runs ((21, mark) ∷ (1, pos 4900) ∷ (1, pos 4800) ∷ (1, pos 5400) ∷ (4, mark) ∷ (1, pos 1500) ∷ (1, pos 2100) ∷ (1, pos 5200) ∷ (5, mark)
    ∷ (1, negsuc 1199) ∷ (1, pos 1900) ∷ (1, pos 5300) ∷ (6, mark) ∷ []))
    (runs ((36, pos 0) ∷ (1, negsuc 1199) ∷ (8, pos 0) ∷ []))
    (runs ((21, mark) ∷ (2, pos 5200) ∷ (1, pos 5800) ∷ (4, mark) ∷ (1, pos 1900) ∷ (1, pos 2500) ∷ (1, pos 5600) ∷ (5, mark) ∷ (1, negsuc 799)
    ∷ (1, pos 2300) ∷ (1, pos 5600) ∷ (6, mark) ∷ []))
    (8 ∷ 7 ∷ 6 ∷ unpaired ∷ unpaired ∷ unpaired ∷ 2 ∷ 1 ∷ 0 ∷ []) _ _ (lit< tt) (lit≤ tt) refl refl tt refl refl refl refl

-- GGGAAAACCC: −1800, (((....)))
pub ten : Says (energy (71 ∷ 71 ∷ 71 ∷ 65 ∷ 65 ∷ 65 ∷ 65 ∷ 67 ∷ 67 ∷ 67 ∷ []) (neg_ℤ (pos 1800)) (40 ∷ 40 ∷ 40 ∷ 46 ∷ 46 ∷ 46 ∷ 46 ∷ 41 ∷ 41 ∷ 41 ∷ []))
unfolding fig.hairpin fig.mismatch fig.bulge fig.internal fig.stack fig.long hairpin mismatch bulge internal stack long sized hairpin_of stack_at bulge_of slant internal_of can_pair pair_index is_purine may_close between own purines hairpin_at minℤ add_e min_from inner_at lowest inner_from interior paired splits any armed energies tri every same first_passing first_row split_at splitting reaches inner_row inside shorter any_move arms_move closed_move move_of trace_of traced_of energy_at reads no_base normal bases_due glyphs brackets
ten =
    settled _
    (runs ((28, mark) ∷ (1, pos 4600) ∷ (1, pos 4900) ∷ (1, pos 4800) ∷ (5, mark) ∷ (1, pos 1600) ∷ (1, pos 1500) ∷ (1, pos 5300) ∷ (6, mark)
    ∷ (1, negsuc 1799) ∷ (1, pos 2000) ∷ (1, pos 5000) ∷ (7, mark) ∷ []))
    (runs ((45, pos 0) ∷ (1, negsuc 1799) ∷ (9, pos 0) ∷ []))
    (runs ((28, mark) ∷ (1, pos 5000) ∷ (2, pos 5200) ∷ (5, mark) ∷ (2, pos 1900) ∷ (1, pos 5200) ∷ (6, mark) ∷ (1, negsuc 1399) ∷ (1, pos 1900)
    ∷ (1, pos 5200) ∷ (7, mark) ∷ []))
    (9 ∷ 8 ∷ 7 ∷ unpaired ∷ unpaired ∷ unpaired ∷ unpaired ∷ 2 ∷ 1 ∷ 0 ∷ []) _ _ (lit< tt) (lit≤ tt) refl refl tt refl refl refl refl

-- GGGAAAAAAGGGAAACCCCCC: −3600, (((......(((...))))))
pub twenty_one : Says (energy (71 ∷ 71 ∷ 71 ∷ 65 ∷ 65 ∷ 65 ∷ 65 ∷ 65 ∷ 65 ∷ 71 ∷ 71 ∷ 71 ∷ 65 ∷ 65 ∷ 65 ∷ 67 ∷ 67 ∷ 67 ∷ 67 ∷ 67 ∷ 67 ∷ []) (neg_ℤ (pos 3600)) (40 ∷ 40 ∷ 40 ∷ 46 ∷ 46 ∷ 46 ∷ 46 ∷ 46 ∷ 46 ∷ 40 ∷ 40 ∷ 40 ∷ 46 ∷ 46 ∷ 46 ∷ 41 ∷ 41 ∷ 41 ∷ 41 ∷ 41 ∷ 41 ∷ []))
unfolding fig.hairpin fig.mismatch fig.bulge fig.internal fig.stack fig.long hairpin mismatch bulge internal stack long sized hairpin_of stack_at bulge_of slant internal_of can_pair pair_index is_purine may_close between own purines hairpin_at minℤ add_e min_from inner_at lowest inner_from interior paired splits any armed energies tri every same first_passing first_row split_at splitting reaches inner_row inside shorter any_move arms_move closed_move move_of trace_of traced_of energy_at reads no_base normal bases_due glyphs brackets
twenty_one =
    settled _
    (runs ((120, mark) ∷ (2, pos 5100) ∷ (1, pos 5000) ∷ (6, mark) ∷ (1, pos 4900) ∷ (1, pos 4800) ∷ (1, pos 5400) ∷ (4, mark) ∷ (1, pos 1800)
    ∷ (1, pos 1700) ∷ (1, pos 5500) ∷ (6, mark) ∷ (1, pos 1500) ∷ (1, pos 2100) ∷ (1, pos 5200) ∷ (5, mark) ∷ (1, negsuc 1599) ∷ (1, pos 2200)
    ∷ (1, pos 5500) ∷ (6, mark) ∷ (1, negsuc 1199) ∷ (1, pos 1900) ∷ (1, pos 5300) ∷ (6, mark) ∷ (1, negsuc 1099) ∷ (1, pos 2200) ∷ (1, pos 3000)
    ∷ (6, mark) ∷ (1, negsuc 1399) ∷ (1, pos 2000) ∷ (1, pos 5000) ∷ (7, mark) ∷ (1, negsuc 1099) ∷ (1, negsuc 299) ∷ (1, pos 2400) ∷ (6, mark)
    ∷ (1, negsuc 1299) ∷ (1, pos 1700) ∷ (1, pos 5200) ∷ (8, mark) ∷ (1, negsuc 3599) ∷ (1, negsuc 899) ∷ (1, pos 2200) ∷ (6, mark)
    ∷ (1, negsuc 1599) ∷ (1, pos 1900) ∷ (1, pos 5300) ∷ (9, mark) ∷ []))
    (runs ((153, pos 0) ∷ (1, negsuc 1599) ∷ (9, negsuc 1199) ∷ (8, pos 0) ∷ (1, negsuc 1599) ∷ (9, negsuc 1399) ∷ (9, pos 0) ∷ (1, negsuc 1599)
    ∷ (9, negsuc 1399) ∷ (10, pos 0) ∷ (1, negsuc 3599) ∷ (9, negsuc 1599) ∷ (11, pos 0) ∷ []))
    (runs ((120, mark) ∷ (11, pos 5200) ∷ (1, pos 5800) ∷ (4, mark) ∷ (10, pos 1900) ∷ (1, pos 2500) ∷ (1, pos 5600) ∷ (5, mark) ∷ (1, negsuc 1199)
    ∷ (9, negsuc 799) ∷ (1, pos 2300) ∷ (1, pos 5600) ∷ (6, mark) ∷ (1, negsuc 1199) ∷ (9, negsuc 999) ∷ (1, pos 2300) ∷ (1, pos 5400) ∷ (7, mark)
    ∷ (1, negsuc 1199) ∷ (9, negsuc 999) ∷ (1, pos 2100) ∷ (1, pos 5400) ∷ (8, mark) ∷ (1, negsuc 3199) ∷ (9, negsuc 1199) ∷ (1, pos 2100)
    ∷ (1, pos 5400) ∷ (9, mark) ∷ []))
    (20 ∷ 19 ∷ 18 ∷ unpaired ∷ unpaired ∷ unpaired ∷ unpaired ∷ unpaired ∷ unpaired ∷ 17 ∷ 16 ∷ 15 ∷ unpaired ∷ unpaired ∷ unpaired ∷ 11 ∷ 10 ∷ 9 ∷ 2 ∷ 1 ∷ 0 ∷ []) _ _ (lit< tt) (lit≤ tt) refl refl tt refl refl refl refl

-- and what that structure is charged by the loop rules alone
pub charged_so : Says (charged (71 ∷ 71 ∷ 71 ∷ 65 ∷ 65 ∷ 65 ∷ 65 ∷ 65 ∷ 65 ∷ 71 ∷ 71 ∷ 71 ∷ 65 ∷ 65 ∷ 65 ∷ 67 ∷ 67 ∷ 67 ∷ 67 ∷ 67 ∷ 67 ∷ []) (20 ∷ 19 ∷ 18 ∷ unpaired ∷ unpaired ∷ unpaired ∷ unpaired ∷ unpaired ∷ unpaired ∷ 17 ∷ 16 ∷ 15 ∷ unpaired ∷ unpaired ∷ unpaired ∷ 11 ∷ 10 ∷ 9 ∷ 2 ∷ 1 ∷ 0 ∷ []) (40 ∷ 40 ∷ 40 ∷ 46 ∷ 46 ∷ 46 ∷ 46 ∷ 46 ∷ 46 ∷ 40 ∷ 40 ∷ 40 ∷ 46 ∷ 46 ∷ 46 ∷ 41 ∷ 41 ∷ 41 ∷ 41 ∷ 41 ∷ 41 ∷ []) (neg_ℤ (pos 3600)))
unfolding fig.hairpin fig.mismatch fig.bulge fig.internal fig.stack fig.long hairpin mismatch bulge internal stack long sized hairpin_of stack_at bulge_of slant internal_of many_of can_pair pair_index is_purine arms first between own single kind_by kind purines charge_by charge_at total glyphs brackets
charged_so = (refl, refl)
