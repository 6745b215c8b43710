-- A line on an energy: three tables that obey the rule by a computed test are those that every fold of the sequence leaves, so their last cell is the
-- answer's energy, and their traceback its structure. Assumes nothing.
use mathlib.Core.Path.{◌≡◌, ap, ◌∙◌}
use mathlib.Core.Bool.{Bool, ◌&&◌}
use mathlib.Core.List.{List, map}
use Prim.Native.Nat.{ℕ, ◌-◌, ◌≤◌, ◌<◌}
use native.Mathlib.Omega.{arith}
use Rattle.std.proofs.Common.{Ok, Err}
use lib.Dec.{T}
use lib.IntN.{ℤ}
use lib.ListN.{length}
use Rattle.refusals.specs.Refusals.{clear, fold_limit}
use Rattle.refusals.proofs.Laws.{one_of}
use Rattle.bases.specs.Bases.{normal}
use Rattle.structure.specs.Table.{view}
use Rattle.brackets.specs.Brackets.{brackets}
use Rattle.sequences.specs.Sequences.{bases_due}
use Rattle.cells.specs.Fill.{at}
use Rattle.cells.specs.Solve.{obeys}
use Rattle.cells.proofs.Rules.{unique}
use Rattle.cells.proofs.Solves.{obeys_right}
use Rattle.ints.proofs.Ints.{either}
use Rattle.energy_rule.specs.Rule.{Cell, energies}
use Rattle.energy_rule.specs.Memory.{three}
use Rattle.energy_rule.proofs.Ruling.{triple, energies_local}
use Rattle.energy_reach.specs.Reach.{same}
use Rattle.energy_trace.specs.Trace.{traced_of}
use Rattle.energy_trace.proofs.Kept.{traced_long}
use Rattle.energy_trace.proofs.Reached.{same_yes}
use Rattle.energy_trace.proofs.Same.{traced_same}
use Rattle.energy.specs.Calls.{energy_at}
use Rattle.energy.proofs.Accepted.{accepted}
use Rattle.energy.proofs.LeastEnergy.{fold_letters}
use Rattle.sheet.specs.Lines.{Says, energy}
use Rattle.sheet.proofs.Counts.{starts}

-- two cells are equal
abbrev alike : Cell → Cell → Bool
alike x y = same x.0 y.0 && (same x.1 y.1 && same x.2 y.2)

alike_is : (x y : Cell) → T (alike x y) → x ≡ y
alike_is x y t =
    either (same x.0 y.0)
    (λ p. either (same x.1 y.1)
    (λ q. either (same x.2 y.2)
    (λ r. triple (same_yes x.0 y.0 p) (same_yes x.1 y.1 q) (same_yes x.2 y.2 r))
    (λ r. absurd (rw (p, q, r) at t)))
    (λ q. absurd (rw (p, q) at t)))
    (λ p. absurd (rw p at t))

-- v, w and m are the certificate, p the pair table that their traceback writes
pub settled :
    (s : List ℕ) (v w m : List ℤ) (p : List ℕ) (z : ℤ) (text : List ℕ) → 0 < length s → length s ≤ fold_limit → bases_due s ≡ clear → map normal s ≡ s →
    T (obeys alike energies (view s) (at (three v w m)) (length s)) → energy_at w (length s) ≡ z → length p ≡ length s →
    traced_of s v w m (length s) p ≡ p → brackets p ≡ text → Says (energy s z text)
unfolding energy_at
settled s v w m p z text some short each own good reached long traced spelt b b' v₀ w₀ m₀ v' w' m' o o' (Err q) hb hv hw hm ho f =
    absurd
    (one_of q
    (accepted s b v₀ w₀ m₀ o (record { short = short; some = some; each = each; bases = hb; paired = hv; any = hw; arms = hm; pairs = ho }))
    f.0)
settled s v w m p z text some short each own good reached long traced spelt b b' v₀ w₀ m₀ v' w' m' o o' (Ok e) hb hv hw hm ho f =
    let n = length s in
    let bases : (k : ℕ) → k < n → view b' k ≡ view s k =
    λ k h. fold_letters s b b' v₀ w₀ m₀ v' w' m' o o' e f k h ∙ ap (λ (x : List ℕ). view x k) own in
    let cells = unique energies energies_local (view b') (view s) (at (three v' w' m')) (at (three v w m)) n bases f.1.cells.right
    (obeys_right alike alike_is energies (view s) (at (three v w m)) n good) in
    let size = ap length f.1.pairs ∙ traced_long b' v' w' m' n o some ho in
    let table = starts o' p n (omega arith) long (λ k l. ap (λ (x : List ℕ). view x k) f.1.pairs
    ∙ traced_same b' s v' v w' w m' m n o p some ho (omega arith) bases cells k l ∙ ap (λ (x : List ℕ). view x k) traced) in
    let figure : e ≡ z = f.2 ∙ ap (λ (x : Cell). x.1) (cells 0 (n - 1) (omega arith) (omega arith)) ∙ reached in
    (ap Ok figure, ap brackets table ∙ spelt)
