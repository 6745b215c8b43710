-- Loops with their kinds and charges: one table, computed. Assumes nothing.
use mathlib.Core.Path.{◌≡◌, refl}
use mathlib.Core.List.{List, [], ◌∷◌, ◌++◌}
use Prim.Native.Nat.{ℕ, suc, ◌+◌}
use lib.IntN.{ℤ, pos, negsuc}
use lib.ListN.{replicate}
use Rattle.bases.specs.Bases.{can_pair, pair_index, is_purine}
use Rattle.structure.specs.Table.{unpaired, view}
use Rattle.figures.specs.Figures as fig
use Rattle.figures.specs.Charge.{hairpin, mismatch, bulge, internal, stack, long, sized, hairpin_of, stack_at, bulge_of, slant, internal_of, many_of, between, charge_of}
use Rattle.figures.specs.declared.Loop.{Loop}
use Rattle.figures.specs.declared.Loop.TheVariants.{Hairpin, Stack, Bulge, Internal, Many}
use Rattle.closing.specs.Closing.{own, purines}
use Rattle.charges.specs.Loops.{arms, first, single, kind_by, kind, charge_by, charge_at}

-- a line: bases, pair table, the kind of the loop that opens at 0 and its charge; a kind's own figure
pub data Line : Type 0 where
  loop : List ℕ → List ℕ → Loop → ℤ → Line
  figure : Loop → ℕ → ℕ → ℕ → ℤ → Line

-- what a line says
abbrev pub Says : Line → Type 0
Says (loop b t l z) = ◌≡◌ {A = Loop × ℤ} (kind (view b) (view t) 0, charge_at (view b) (view t) 0) (l, z)
Says (figure l o i p z) = charge_of l o i p ≡ z

-- every line of a table, by what a line says
abbrev pub Every : {L : Type 0} → (L → Type 0) → List L → Type 0
Every says [] = Unit {0}
Every says (line ∷ rest) = says line × Every says rest

-- G, the bases of a hairpin, C
abbrev hairpins : ℕ → List ℕ → Loop → ℤ → Line
hairpins n s = loop (71 ∷ (s ++ (67 ∷ []))) (suc n ∷ (replicate n unpaired ++ (0 ∷ [])))

-- the outer pair a .. z around the inner hairpin GAAAC, with l bases A before it and r after it
abbrev sides : ℕ → ℕ → ℕ → ℕ → Loop → ℤ → Line
sides a z l r =
    loop (a ∷ (replicate l 65 ++ (71 ∷ 65 ∷ 65 ∷ 65 ∷ 67 ∷ (replicate r 65 ++ (z ∷ [])))))
    ((l + r + 6) ∷ (replicate l unpaired ++ ((l + 5) ∷ unpaired ∷ unpaired ∷ unpaired ∷ suc l ∷ (replicate r unpaired ++ (0 ∷ [])))))

-- the table
abbrev pub table : List Line
table =
    -- hairpins: the smallest has no mismatch; two, one and no purines; one longer than 30
    hairpins 3 (65 ∷ 65 ∷ 65 ∷ []) (Hairpin 3) (pos 5400)
    ∷ hairpins 4 (65 ∷ 67 ∷ 67 ∷ 71 ∷ []) (Hairpin 4) (pos 4800)
    ∷ hairpins 4 (65 ∷ 67 ∷ 67 ∷ 67 ∷ []) (Hairpin 4) (pos 5200)
    ∷ hairpins 4 (67 ∷ 65 ∷ 65 ∷ 85 ∷ []) (Hairpin 4) (pos 5600)
    ∷ hairpins 40 (replicate 40 65) (Hairpin 40) (pos 6110)
    -- stacks, by the outer pair first
    ∷ sides 65 85 0 0 Stack (negsuc 2199)
    ∷ sides 67 71 0 0 Stack (negsuc 2399)
    -- bulges on either side: size 1 has its stack, size 5 is the last that is cheaper than a many-armed loop
    ∷ sides 71 67 1 0 (Bulge 1) (pos 500)
    ∷ sides 65 85 0 1 (Bulge 1) (pos 1600)
    ∷ sides 71 67 5 0 (Bulge 5) (pos 4000)
    ∷ sides 71 67 6 0 (Many 1) (pos 4200)
    -- internal loops, the exact ties, and what is above
    ∷ sides 71 67 1 1 (Internal 1 1) (pos 0)
    ∷ sides 71 67 2 3 (Internal 2 3) (pos 2300)
    ∷ sides 71 67 6 10 (Internal 6 10) (pos 4200)
    ∷ sides 71 67 9 12 (Internal 9 12) (pos 4200)
    ∷ sides 71 67 14 16 (Internal 14 16) (pos 4200)
    ∷ sides 71 67 6 11 (Many 1) (pos 4200)
    ∷ sides 71 67 29 29 (Many 1) (pos 4200)
    ∷ sides 71 67 30 30 (Many 1) (pos 4200)
    ∷ sides 71 67 0 30 (Many 1) (pos 4200)
    -- two arms
    ∷ loop (71 ∷ 71 ∷ 65 ∷ 65 ∷ 65 ∷ 67 ∷ 71 ∷ 65 ∷ 65 ∷ 65 ∷ 67 ∷ 67 ∷ []) (11 ∷ 5 ∷ unpaired ∷ unpaired ∷ unpaired ∷ 1 ∷ 10 ∷ unpaired ∷ unpaired ∷ unpaired ∷ 6 ∷ 0 ∷ []) (Many 2) (pos 4600)
    -- own figures that no loop above shows: the longest side, the cap on the slant, a long internal loop
    ∷ figure (Bulge 29) 0 0 0 (pos 6000)
    ∷ figure (Internal 1 12) 0 0 0 (pos 5800)
    ∷ figure (Internal 29 29) 0 0 0 (pos 4311)
    ∷ []

-- each line computes
pub kinds : Every Says table
unfolding fig.hairpin fig.mismatch fig.bulge fig.internal fig.stack fig.long hairpin mismatch bulge internal stack long sized hairpin_of stack_at bulge_of slant internal_of many_of can_pair pair_index is_purine arms first between own single kind_by kind purines charge_by charge_at
kinds = (refl, (refl, (refl, (refl, (refl, (refl, (refl, (refl, (refl, (refl, (refl, (refl, (refl, (refl, (refl, (refl, (refl, (refl, (refl, (refl, (refl, (refl, (refl, (refl, tt))))))))))))))))))))))))
