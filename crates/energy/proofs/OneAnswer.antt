-- The fold has one permitted answer for its input, and one permitted content of lent memory: right tables are the only ones of their bases,
-- and all that isn't a used cell is as it came. Assumes nothing.
use mathlib.Core.Path.{◌≡◌, sym, ap, subst, ◌∙◌}
use mathlib.Core.List.{List}
use Prim.Native.Nat.{ℕ}
use lib.IntN.{ℤ, pos}
use lib.ListN.{length}
use lib.Seq.{ext_get_or}
use Rattle.refusals.proofs.Laws.{one_of, one_refusal}
use Rattle.structure.specs.Table.{view}
use Rattle.cells.proofs.Fills.{right_one}
use Rattle.energy_rule.specs.Rule.{Cell, energies}
use Rattle.energy_rule.specs.Memory.{three}
use Rattle.energy_rule.proofs.Ruling.{energies_local}
use Rattle.energy_fill.specs.Filled.{Filled}
use Rattle.energy_trace.specs.Trace.{traced_of}
use Rattle.std.proofs.Common.{Result, Ok, Err}
use Rattle.refusals.specs.declared.Refusal.{Refusal}
use Rattle.energy.specs.Calls.{energy_at, Made, Folds}

one_filling :
    (b : List ℕ) (v w m v' w' m' v'' w'' m'' : List ℤ) (n : ℕ) → Filled b v w m v' w' m' n → Filled b v w m v'' w'' m'' n →
    (v' ≡ v'') × (w' ≡ w'') × (m' ≡ m'')
one_filling b v w m v' w' m' v'' w'' m'' n f g =
    let one = right_one energies energies_local (view b) (three v' w' m') (three v'' w'' m'') n f.right g.right (λ k l. f.spare k l ∙ sym (g.spare k l)) in (
      ext_get_or (pos 0) v' v'' (f.paired ∙ sym g.paired) (λ k h. ap (λ (x : Cell). x.0) (one k)),
      ext_get_or (pos 0) w' w'' (f.any ∙ sym g.any) (λ k h. ap (λ (x : Cell). x.1) (one k)),
      ext_get_or (pos 0) m' m'' (f.arms ∙ sym g.arms) (λ k h. ap (λ (x : Cell). x.2) (one k)),
    )

one_making :
    (s b b' b'' : List ℕ) (v w m v' w' m' v'' w'' m'' : List ℤ) (o o' o'' : List ℕ) →
    Made s b b' v w m v' w' m' o o' → Made s b b'' v w m v'' w'' m'' o o'' →
    (b' ≡ b'') × (v' ≡ v'') × (w' ≡ w'') × (m' ≡ m'') × (o' ≡ o'')
one_making s b b' b'' v w m v' w' m' v'' w'' m'' o o' o'' f g =
    let n = length s in
    let e : b' ≡ b'' = f.bases ∙ sym g.bases in
    let d = one_filling b'' v w m v' w' m' v'' w'' m'' n (subst (λ (l : List ℕ). Filled l v w m v' w' m' n) e f.cells) g.cells in
    let traced : traced_of b' v' w' m' n o ≡ traced_of b'' v'' w'' m'' n o = λ i. traced_of (e i) (d.0 i) (d.1 i) (d.2 i) n o in
    (e, d.0, d.1, d.2, f.pairs ∙ traced ∙ sym g.pairs)

pub one_fold :
    (s b b' b'' : List ℕ) (v w m v' w' m' v'' w'' m'' : List ℤ) (o o' o'' : List ℕ) (a a' : Result ℤ Refusal) →
    Folds s b b' v w m v' w' m' o o' a → Folds s b b'' v w m v'' w'' m'' o o'' a' →
    (a ≡ a') × (b' ≡ b'') × (v' ≡ v'') × (w' ≡ w'') × (m' ≡ m'') × (o' ≡ o'')
one_fold s b b' b'' v w m v' w' m' v'' w'' m'' o o' o'' (Ok z) (Ok z') f g =
    let e = one_making s b b' b'' v w m v' w' m' v'' w'' m'' o o' o'' f.1 g.1 in
    let same : z ≡ z' = f.2 ∙ ap (λ (l : List ℤ). energy_at l (length s)) e.2 ∙ sym g.2 in
    (ap Ok same, e.0, e.1, e.2, e.3, e.4)
one_fold s b b' b'' v w m v' w' m' v'' w'' m'' o o' o'' (Ok z) (Err q) f g = absurd (one_of q f.0 g.0)
one_fold s b b' b'' v w m v' w' m' v'' w'' m'' o o' o'' (Err q) (Ok z) f g = absurd (one_of q g.0 f.0)
one_fold s b b' b'' v w m v' w' m' v'' w'' m'' o o' o'' (Err q) (Err q') f g =
    (ap Err (one_refusal q q' f.0 g.0), f.1 ∙ sym g.1, f.2 ∙ sym g.2, f.3 ∙ sym g.3, f.4 ∙ sym g.4, f.5 ∙ sym g.5)
