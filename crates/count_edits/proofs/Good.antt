-- What every call keeps: the state is that of the sequence which was spelled. Pair counting is a kind of fold that edits follow; each
-- contract is read as an edit of that kind. Assumes nothing.
use mathlib.Core.Path.{◌≡◌, refl, ap, ◌∙◌, sym}
use mathlib.Core.Bool.{Bool, false}
use mathlib.Core.List.{List, map}
use Prim.Native.Nat.{ℕ, ◌+◌, ◌-◌, ◌≤◌, ◌<◌}
use native.Mathlib.Omega.{arith}
use lib.ListN.{length, drop, set, length-set, length-append, length-map, get_or-append}
use lib.Seq.{get_or-set_same, get_or-set_other}
use Rattle.std.proofs.Common.{Err, Ok, Some}
use Rattle.count_edits.specs.Calls.{Edited}
use Rattle.refusals.specs.Refusals.{clear, fold_limit}
use Rattle.refusals.proofs.Laws.{each_clear, clear_each, check_clear}
use Rattle.bases.specs.Bases.{no_base, normal}
use Rattle.bases.proofs.Laws.{normal_base, normal_again}
use Rattle.structure.specs.Table.{view}
use Rattle.sequences.specs.Sequences.{base_due, bases_due}
use Rattle.sequences.proofs.Letters.{letter_at}
use Rattle.cells.specs.Tri.{tri}
use Rattle.cells.proofs.Places.{tri_mono}
use Rattle.edits.specs.Edits.{Edit, replace, add, erase, spelled}
use Rattle.edits.specs.Runs.{Holds, accepted, Run}
use Rattle.edits.specs.Kinds.{Kind, Put, Good, Made, Does}
use Rattle.edits.proofs.Histories.{good_letters, good_runs}
use Rattle.count_rule.specs.Rule.{nussinov, Half}
use Rattle.count_rule.proofs.Laws.{nussinov_local, nussinov_keeps}
use Rattle.counting.specs.declared.Record.{Record}
use Rattle.counting.specs.Checks.{fold_due}
use Rattle.counting.specs.Calls.{count_of, Folds}
use Rattle.counting.proofs.Accepted.{foldable, accepted as allowed}
use Rattle.count_edits.specs.Histories.{State, state, Meets, outcome, Call}
use Rattle.count_edits.proofs.Accepted.{replace_clear, add_clear, erase_clear}

-- ---- pair counting as a kind of fold with edits

-- a length that is folded, with room for so many bases and their cells
pub record Fits (n : ℕ) (b t : List ℕ) : Type 0 where
  pub short : n ≤ fold_limit
  pub bases : n ≤ length b
  pub cells : tri n ≤ length t

-- the gap sets the rule, and the figure is the count, which the cell of the whole span holds
abbrev pub counts : Kind Record ℕ ℕ (List ℕ) ℕ
counts = record {
  size = λ r. r.length;
  setting = λ r. r.gap;
  look = view;
  rule = nussinov;
  Ok = Half;
  loc = nussinov_local;
  keeps = nussinov_keeps;
  Base = λ x. no_base x ≡ false;
  letter = normal;
  letter_base = normal_base;
  letter_again = normal_again;
  tells = λ m. m;
  Room = Fits;
}

-- ---- each accepted call is such an edit

module _ (s s' : State) where
  put : (p x : ℕ) → s'.bases ≡ set s.bases p x → p < length s.bases → Put (view s.bases) (view s'.bases) p x
  put p x e h = record {
    here = ap (λ (l : List ℕ). view l p) e ∙ get_or-set_same s.bases p x 0 h;
    off = λ k n. sym (ap (λ (l : List ℕ). view l k) e ∙ get_or-set_other s.bases p k x 0 n);
  }

  made : (e : Edit) (r : Record) (m : ℕ) → Meets e s s' (Ok (r, m)) → s'.kept ≡ r → s'.figure ≡ m → Made counts e s s'
  unfolding count_of
  made (replace p x) r m c k f =
      let n = s.kept.length in
      let u = replace_clear n s.bases s.cells p x c.0 in
      let w = c.2 in
      let long : length s'.bases ≡ length s.bases = ap length w.byte ∙ simp length-set in
      let size : s'.kept.length ≡ n = ap (λ (y : Record). y.length) (k ∙ c.1) in
      record {
        size = size;
        setting = ap (λ (y : Record). y.gap) (k ∙ c.1);
        writes = (u.1, u.2, put p (normal x) w.byte (omega (arith, u.0.bases, u.1)), w.cells);
        figure = rw size (f ∙ c.3);
        room = rw size (record { short = u.0.short; bases = omega (arith, u.0.bases); cells = omega (arith, u.0.cells, w.long) });
      }
  made (add x) r m c k f =
      let n = s.kept.length in
      let u = (add_clear n s.bases s.cells x c.0).1 in
      let w = c.2 in
      let long : length s'.bases ≡ length s.bases = ap length w.byte ∙ simp length-set in
      let size : s'.kept.length ≡ n + 1 = ap (λ (y : Record). y.length) (k ∙ c.1) in
      record {
        size = size;
        setting = ap (λ (y : Record). y.gap) (k ∙ c.1);
        writes = (u.base, put n (normal x) w.byte (omega (arith, u.bases)), w.cells);
        figure = rw size (f ∙ c.3);
        room = rw size (record { short = omega (arith, u.short); bases = omega (arith, u.bases); cells = omega (arith, u.cells, w.long) });
      }
  made erase r m c k f =
      let n = s.kept.length in
      let u = erase_clear n s.bases s.cells c.0.0 in
      let h = u.0 in
      let size : s'.kept.length ≡ n - 1 = ap (λ (y : Record). y.length) (k ∙ c.0.1) in
      record {
        size = size;
        setting = ap (λ (y : Record). y.gap) (k ∙ c.0.1);
        writes = (u.1, ap view c.1, ap view c.2);
        figure = rw (size, c.2) (f ∙ c.0.2);
        room = rw (size, c.1, c.2) (record { short = omega arith; bases = omega arith; cells = omega (arith, tri_mono (n - 1) n (omega arith)) });
      }

  -- ---- and each refused one leaves all as it was
  unmoved : s'.kept ≡ s.kept → s'.figure ≡ s.figure → s'.bases ≡ s.bases → s'.cells ≡ s.cells → s' ≡ s
  unmoved k f b c = λ i. record { kept = k i; figure = f i; bases = b i; cells = c i }

  met : (e : Edit) (a : Edited) → Meets e s s' a → Holds (outcome a) s s' → Does counts e (accepted (outcome a)) s s'
  met e (Ok (r, m)) c h = made e r m c h.0 h.1
  met (replace p x) (Err (q, r)) c h = unmoved (h.0 ∙ c.1) h.1 c.2 c.3
  met (add x) (Err (q, r)) c h = unmoved (h.0 ∙ c.1) h.1 c.2 c.3
  met erase (Err (q, r)) c h = unmoved (h.0 ∙ c.0.1) h.1 c.1 c.2

pub does : (e : Edit) (ok : Bool) (s s' : State) → Call e ok s s' → Does counts e ok s s'
does e ok s s' c = rw c.verdict (met s s' e c.answer c.meets c.holds)

-- ---- from a fold on

-- the state that a fold leaves
pub good_fold :
    (q : List ℕ) (gap : ℕ) (b b' t t' o o' : List ℕ) (r : Record) (m : ℕ) → Folds q gap b b' t t' o o' (Ok (r, m)) →
    Good counts gap q (state r m b' t')
unfolding count_of bases_due
good_fold q gap b b' t t' o o' r m f =
    let u = foldable q b t o f.0 in
    let d = f.2 in
    let long : length (map normal q) ≡ length q = length-map q normal in
    let all : length b' ≡ length (map normal q) + length (drop (length q) b) = ap length d.bases ∙ length-append (map normal q) (drop (length q) b) in
    rw f.1
    (record {
      set = refl;
      table = record {
        long = refl;
        spelt = λ k h. ap (λ (l : List ℕ). view l k) d.bases ∙ get_or-append (map normal q) (drop (length q) b) 0 k (omega arith) ∙ letter_at q k;
        right = d.cells.right;
      };
      figure = f.3;
      some = u.some;
      each = λ k h. check_clear (no_base (view q k)) 2 (Some k) (each_clear (base_due (view q)) (length q) u.each k h);
      room = record { short = u.short; bases = omega arith; cells = omega (arith, u.cells, d.cells.long) };
    })

-- and a fold of a good state's sequence is accepted, wherever there is room for it
pub good_accepted :
    (gap : ℕ) (q : List ℕ) (s : State) → Good counts gap q s → (b t o : List ℕ) → length q ≤ length b → tri (length q) ≤ length t →
    length q ≤ length o → fold_due q b t o ≡ clear
unfolding bases_due
good_accepted gap q s g b t o hb ht ho =
    let size : s.kept.length ≡ length q = g.table.long in
    allowed q b t o
    (record {
      short = omega (arith, g.room.short);
      some = omega (arith, g.some);
      each = clear_each (base_due (view q)) (length q) (λ k h. let e = g.each k h in rw e);
      bases = hb;
      cells = ht;
      pairs = ho;
    })

-- the state that any run of calls leaves: that of what was spelled, and so of its letters
module _
    (q : List ℕ) (gap : ℕ) (b₀ b t₀ t o₀ o : List ℕ) (r : Record) (m : ℕ) (f : Folds q gap b₀ b t₀ t o₀ o (Ok (r, m)))
    (l : List (Edit × Bool)) (s : State) (run : Run Call l (state r m b t) s) where
  pub good_run : Good counts gap (map normal (spelled l q)) s
  good_run =
      good_letters counts gap (spelled l q) s
      (good_runs counts gap Call does q run (good_fold q gap b₀ b t₀ t o₀ o r m f))
