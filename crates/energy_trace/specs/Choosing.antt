-- What a traceback takes at a span: the first, in the original's order, of what reaches the cell's value. v, w and m are the cells with i
-- and j paired, of any structure, and as arms. Spans are from lo up to, but not including, hi. Assumes nothing: these are definitions.
use Rattle.std.specs.Prelude.{cond, ℕ, ◌+◌, ◌-◌, ltb, pos, Option, None, Some}
use Rattle.std.specs.Int.Signed.{lt_z}
use Rattle.structure.specs.Table.{view}
use Rattle.cells.specs.Rule.{Bases}
use Rattle.ints.specs.Ints.{mark, add_e}
use Rattle.closing.specs.Closing.{may_close, hairpin_at}
use Rattle.energy_rule.specs.Rule.{Table, closing_charge, arm_charge}
use Rattle.energy_rule.specs.Memory.{table}
use Rattle.energy_reach.specs.Reach.{same, reaches}
use Rattle.energy_reach.specs.declared.Tables.{Tables}
use Rattle.energy_search.specs.Search.{Places, splitting, inside}
use Rattle.energy_trace.specs.declared.choice.Job.{Job}
use Rattle.energy_trace.specs.declared.choice.Job.TheVariants.{Any, Arms, Closed}
use Rattle.energy_trace.specs.declared.choice.Move.{Move}
use Rattle.energy_trace.specs.declared.choice.Move.TheVariants.{Stop, Go, Close, Twice}

-- ---- a span, of any structure or of arms
-- its two parts; where there is no split, no choice is left
abbrev pub or_split : Job → ℕ → ℕ → Option ℕ → Move
or_split job lo hi (Some k) = Twice job lo (k + 1) hi
or_split job lo hi None = Stop

-- the first unpaired; the last unpaired; the smallest split
unfoldable pub shorter : Job → Table → ℕ → ℕ → Move
shorter job c lo hi =
    cond (same (c (lo + 1) (hi - 1)) (c lo (hi - 1))) (Go job (lo + 1) hi)
    (cond (same (c lo (hi - 1 - 1)) (c lo (hi - 1))) (Go job lo (hi - 1))
    (or_split job lo hi (splitting c lo (hi - 1))))

-- any structure: none; the first with the last; then as above
unfoldable pub any_move : Table → Table → ℕ → ℕ → Move
any_move v w lo hi =
    cond (ltb (lo + 1) hi)
    (cond (same (w lo (hi - 1)) (pos 0)) Stop
    (cond (same (v lo (hi - 1)) (w lo (hi - 1))) (Close lo (hi - 1))
    (shorter Any w lo hi)))
    Stop

-- arms: none where the cell holds the mark; the first with the last as one arm; then as above
unfoldable pub arms_move : Table → Table → ℕ → ℕ → Move
arms_move v m lo hi =
    cond (ltb (lo + 1) hi)
    (cond (lt_z (m lo (hi - 1)) mark)
    (cond (same (add_e (v lo (hi - 1)) arm_charge) (m lo (hi - 1))) (Close lo (hi - 1))
    (shorter Arms m lo hi))
    Stop)
    Stop

-- ---- the inside of a pair
-- the inner pair; where there is none, arms; where they don't reach the cell, no choice is left
abbrev pub or_arms : Table → Table → ℕ → ℕ → Option Places → Move
or_arms v m i j (Some (x, y)) = Close x y
or_arms v m i j None = cond (same (add_e (m (i + 1) (j - 1)) closing_charge) (v i j)) (Go Arms (i + 1) j) Stop

-- none where i and j may not close a loop or the cell holds the mark; a hairpin; a stack; the first inner pair; arms
unfoldable pub closed_move : Bases → Table → Table → ℕ → ℕ → Move
closed_move b v m i j =
    cond (may_close b i j)
    (cond (lt_z (v i j) mark)
    (cond (same (hairpin_at b i j) (v i j)) Stop
    (cond (reaches b v i j (i + 1) (j - 1)) (Close (i + 1) (j - 1))
    (or_arms v m i j (inside b v i j))))
    Stop)
    Stop

-- ---- the three together
-- a closed job has the pair's two ends
unfoldable pub move_of : Bases → Table → Table → Table → Job → ℕ → ℕ → Move
move_of b v w m Any lo hi = any_move v w lo hi
move_of b v w m Arms lo hi = arms_move v m lo hi
move_of b v w m Closed i j = closed_move b v m i j

-- of the tables of a traceback
abbrev pub moves : Tables → Job → ℕ → ℕ → Move
moves t = move_of (view t.bases.now) (table t.paired.cells.now) (table t.any.cells.now) (table t.arms.cells.now)
