-- What a call leaves alone, accepted or refused: every byte but the edited one, every place of the table that is no cell over the edited base,
-- and the memory's lengths. So spare memory stands too, through a whole run. Assumes nothing.
use mathlib.Core.Path.{◌≡◌, ap, ◌∙◌}
use mathlib.Core.Bool.{Bool, false}
use mathlib.Core.List.{List}
use Prim.Native.Nat.{ℕ, ◌≤◌}
use lib.ListN.{length, length-set}
use Rattle.std.proofs.Common.{Err, Ok}
use Rattle.count_edits.specs.Calls.{Edited}
use Rattle.structure.specs.Table.{view}
use Rattle.cells.specs.Tri.{tri, place}
use Rattle.edits.specs.Edits.{Edit, replace, add, erase, longest, Byte, Cell}
use Rattle.edits.specs.Runs.{Run}
use Rattle.edits.proofs.Elsewhere.{does_bytes, does_cells, run_bytes, run_cells}
use Rattle.counting.specs.declared.Record.{Record}
use Rattle.counting.specs.Calls.{Folds}
use Rattle.count_edits.specs.Histories.{State, state, Meets, Call}
use Rattle.count_edits.proofs.Good.{counts, does, good_fold}

-- ---- one call, on any memory

-- a refused call leaves all that the caller holds
pub elsewhere_refused : (e : Edit) (s s' : State) → Call e false s s' → s' ≡ s
elsewhere_refused e s s' c = does e false s s' c

-- the bytes, but the edited one
pub elsewhere_bytes :
    (e : Edit) (ok : Bool) (s s' : State) → Call e ok s s' → (k : ℕ) → (Byte e s.kept.length k → ⊥) →
    view s'.bases k ≡ view s.bases k
elsewhere_bytes e ok s s' c = does_bytes counts s s' e ok (does e ok s s' c)

-- the table, but the cells over the edited base
pub elsewhere_cells :
    (e : Edit) (ok : Bool) (s s' : State) → Call e ok s s' → (k : ℕ) →
    ((i j : ℕ) → i ≤ j → Cell e s.kept.length i j → k ≡ place i j → ⊥) → view s'.cells k ≡ view s.cells k
elsewhere_cells e ok s s' c = does_cells counts s s' e ok (does e ok s s' c)

long :
    (e : Edit) (s s' : State) (a : Edited) → Meets e s s' a →
    (length s'.bases ≡ length s.bases) × (length s'.cells ≡ length s.cells)
long (replace p x) s s' (Ok (r, m)) c = (ap length c.2.byte ∙ simp length-set, c.2.long)
long (replace p x) s s' (Err (q, r)) c = (ap length c.2, ap length c.3)
long (add x) s s' (Ok (r, m)) c = (ap length c.2.byte ∙ simp length-set, c.2.long)
long (add x) s s' (Err (q, r)) c = (ap length c.2, ap length c.3)
long erase s s' a c = (ap length c.1, ap length c.2)

pub elsewhere_long :
    (e : Edit) (ok : Bool) (s s' : State) → Call e ok s s' →
    (length s'.bases ≡ length s.bases) × (length s'.cells ≡ length s.cells)
elsewhere_long e ok s s' c = long e s s' c.answer c.meets

-- ---- a run: what is past the longest sequence on the way stands

module _
    -- an accepted fold of a sequence q
    (q : List ℕ) (gap : ℕ) (b₀ b t₀ t o₀ o : List ℕ) (r : Record) (m : ℕ) (f : Folds q gap b₀ b t₀ t o₀ o (Ok (r, m)))
    -- any run of edits from it
    (l : List (Edit × Bool)) (s : State) (run : Run Call l (state r m b t) s) (k : ℕ) where
  pub elsewhere_run_bytes : longest l q ≤ k → view s.bases k ≡ view b k
  elsewhere_run_bytes = run_bytes counts gap Call does k q run (good_fold q gap b₀ b t₀ t o₀ o r m f)

  pub elsewhere_run_cells : tri (longest l q) ≤ k → view s.cells k ≡ view t k
  elsewhere_run_cells = run_cells counts gap Call does k q run (good_fold q gap b₀ b t₀ t o₀ o r m f)
