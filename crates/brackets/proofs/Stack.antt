-- The invariant of the writing: what stands before place i is a stack of open places, with spans that fold between them. Assumes nothing.
use mathlib.Core.Path.{◌≡◌, refl, sym, ap, ◌∙◌}
use mathlib.Core.Logic.{◌≢◌, by_cases}
use mathlib.Core.List.{List}
use Prim.Native.Nat.{ℕ, suc, ◌+◌, ◌-◌, ◌<◌, ◌≤◌}
use native.Mathlib.Omega.{arith}
use native.Mathlib.Decide.{dec_lt, ℕ_discrete}
use native.Mathlib.Numerals.{add-one}
use lib.ListN.{length, set, length-set, take, drop, length-drop}
use lib.Seq.{get_or-set_same, get_or-set_other, get_or-take, get_or-drop, ext_get_or, length-take-le}
use borrow.Author.Tests.{eq-eqb, ne_eqb}
use Rattle.structure.specs.Table.{unpaired, view}
use Rattle.structure.proofs.Folds.{empty, one, join, wrap, moved}
use Rattle.brackets.specs.Brackets.{glyph, brackets}
use Rattle.brackets.specs.Text.{next, depth}
use Rattle.brackets.specs.Parsing.{Proper, Part, wrote, new_top}
use Rattle.brackets.specs.Calls.{Written}
use Rattle.brackets.proofs.Glyphs.{glyph_none, glyph_high, glyph_low, brackets_at, brackets_long}

module _ (b : ℕ → ℕ) where
  part_moved : {p q : ℕ → ℕ} {lo hi : ℕ} → ((k : ℕ) → lo ≤ k → k < hi → q k ≡ p k) → Part b p lo hi → Part b q lo hi
  part_moved s a = record {
    fold = moved s a.fold;
    spelt = λ k l r. a.spelt k l r ∙ ap (glyph k) (sym (s k l r));
  }

  part_join : {p : ℕ → ℕ} {i k j : ℕ} → Part b p i k → Part b p k j → i ≤ k → k ≤ j → Part b p i j
  part_join {p} {i} {k} {j} f g u v = record {
    fold = join p f.fold g.fold u v;
    spelt = λ x l r. by_cases (dec_lt x k) (λ s. f.spelt x l s) (λ s. g.spelt x (omega arith) r);
  }

  part_empty : (p : ℕ → ℕ) (i : ℕ) → i ≤ unpaired → Part b p i i
  part_empty p i h = record { fold = empty p i h; spelt = λ k l r. absurd (omega arith) }

  part_one : (p : ℕ → ℕ) (i : ℕ) → i < unpaired → p i ≡ unpaired → b i ≡ 46 → Part b p i (suc i)
  part_one p i h e v = record {
    fold = one p i h e;
    spelt = λ k l r. let q : i ≡ k = omega arith in rw (← q) (v ∙ sym (glyph_none i (p i) e));
  }

  part_wrap : {p : ℕ → ℕ} {i k : ℕ} → Part b p (suc i) k → i < k → k < unpaired → p i ≡ k → p k ≡ i → b i ≡ 40 → b k ≡ 41 → Part b p i (suc k)
  part_wrap {p} {i} {k} f h l e e' v v' = record {
    fold = wrap p f.fold h l e e';
    spelt = λ x u r. by_cases (ℕ_discrete i x)
        (λ q. rw (← q) (v ∙ sym (glyph_high i (p i) (omega arith) (omega arith))))
        (λ ni. by_cases (ℕ_discrete k x)
        (λ q. rw (← q) (v' ∙ sym (glyph_low k (p k) (omega arith) l)))
        (λ nk. f.spelt x (omega arith) (omega arith)));
  }

  -- d open places before i, the innermost at top, 65535 if there is none
  pub data Stacked (p : ℕ → ℕ) : ℕ → ℕ → ℕ → Type 0 where
    ground : {i : ℕ} → Part b p 0 i → Stacked p 0 unpaired i
    level : {d a i : ℕ} → Stacked p d (p a) a → b a ≡ 40 → a < i → Part b p (suc a) i → Stacked p (suc d) a i

  stack_moved : {p q : ℕ → ℕ} {d top i : ℕ} → ((k : ℕ) → k < i → q k ≡ p k) → Stacked p d top i → Stacked q d top i
  stack_moved s (ground f) = ground (part_moved (λ k l r. s k r) f)
  stack_moved {p} {q} s (level {d} {a} {i} r v h f) =
      level {d = d} {a = a} (rw (s a h) (stack_moved (λ k l. s k (omega arith)) r)) v h (part_moved (λ k l u. s k u) f)

  grow : {p : ℕ → ℕ} {d top i j : ℕ} → Part b p i j → i ≤ j → Stacked p d top i → Stacked p d top j
  grow g h (ground f) = ground (part_join f g (omega arith) h)
  grow {j = j} g h (level r v l f) = level {i = j} r v (omega arith) (part_join f g l h)

  pub top_small : {p : ℕ → ℕ} {d top i : ℕ} → Stacked p d top i → i ≤ unpaired → top ≤ unpaired
  top_small (ground f) h = omega arith
  top_small (level r v l f) h = omega arith

  top_below : {p : ℕ → ℕ} {d top i : ℕ} → Stacked p d top i → 0 < d → top < i
  top_below (ground f) h = absurd (omega arith)
  top_below (level r v l f) h = l

  bottom : {p : ℕ → ℕ} {d top i : ℕ} → Stacked p d top i → d ≡ 0 → Part b p 0 i
  bottom (ground f) h = f
  bottom (level r v l f) h = absurd (omega arith)

  start : (p : ℕ → ℕ) → Stacked p 0 unpaired 0
  start p = ground (part_empty p 0 (omega arith))

  -- ---- the three turns: `(`, `.`, `)`
  push : {p q : ℕ → ℕ} {d top i : ℕ} → ((k : ℕ) → k < i → q k ≡ p k) → q i ≡ top → b i ≡ 40 → i < unpaired → Stacked p d top i → Stacked q (suc d) i (suc i)
  push {p} {q} {d} {top} {i} s e v h r = level {d = d} {a = i} {i = suc i} (rw e (stack_moved s r)) v (omega arith) (part_empty q (suc i) h)

  leave : {p q : ℕ → ℕ} {d top i : ℕ} → ((k : ℕ) → k < i → q k ≡ p k) → q i ≡ unpaired → b i ≡ 46 → i < unpaired → Stacked p d top i → Stacked q d top (suc i)
  leave {p} {q} {d} {top} {i} s e v h r = grow (part_one q i h e v) (omega arith) (stack_moved s r)

  pop : {p q : ℕ → ℕ} {d top i : ℕ} → ((k : ℕ) → k < i → k ≢ top → q k ≡ p k) → q top ≡ i → q i ≡ top → b i ≡ 41 → i < unpaired → 0 < d → Stacked p d top i → Stacked q (d - 1) (p top) (suc i)
  pop s e e' v h z (ground f) = absurd (omega arith)
  pop {p} {q} s e e' v h z (level {d} {a} {i} r u l f) =
      let t : d ≡ suc d - 1 = omega arith in
      rw (← t) (grow
      (part_wrap (part_moved (λ k x y. s k y (omega arith)) f) l h e e' u v)
      (omega arith)
      (stack_moved (λ k x. s k (omega arith) (omega arith)) r))

-- one turn, at a byte that doesn't offend
module _ (b : ℕ → ℕ) (t : List ℕ) (d top i : ℕ) (h : i < length t) (l : i < unpaired) (r : Stacked b (view t) d top i) where
  turn : (b i ≢ 40 → b i ≢ 41 → b i ≡ 46) → (b i ≡ 41 → 0 < d)
      → Stacked b (view (wrote (b i) i top t)) (next (b i) d) (new_top (b i) i top t) (suc i)
  turn dot close = by_cases (ℕ_discrete (b i) 40)
      (λ e. simp (eq-eqb _ _ e) (push b (λ k x. get_or-set_other t i k top 0 (omega arith)) (get_or-set_same t i top 0 h) e l r))
      (λ n. by_cases (ℕ_discrete (b i) 41)
      (λ e. let z = close e in
      let w = top_below b r z in
      simp (ne_eqb _ _ n, eq-eqb _ _ e) (pop b
      (λ k x y. get_or-set_other (set t top i) i k top 0 (omega arith) ∙ get_or-set_other t top k i 0 y)
      (get_or-set_other (set t top i) i top top 0 (omega arith) ∙ get_or-set_same t top i 0 (omega arith))
      (get_or-set_same (set t top i) i top 0 (rw (length-set t top i) h))
      e l z r))
      (λ m. simp (ne_eqb _ _ n, ne_eqb _ _ m)
      (leave b (λ k x. get_or-set_other t i k unpaired 0 (omega arith)) (get_or-set_same t i unpaired 0 h) (dot n m) l r)))

wrote_long : (v i top : ℕ) (t : List ℕ) → length (wrote v i top t) ≡ length t
wrote_long v i top t = by_cases (ℕ_discrete v 40)
    (λ e. rw (eq-eqb v 40 e) (length-set t i top))
    (λ n. by_cases (ℕ_discrete v 41)
    (λ e. rw (ne_eqb v 40 n, eq-eqb v 41 e) (length-set (set t top i) i top ∙ length-set t top i))
    (λ m. rw (ne_eqb v 40 n, ne_eqb v 41 m) (length-set t i unpaired)))

wrote_above : (v i top : ℕ) (t : List ℕ) → (v ≡ 41 → top < i) → (k : ℕ) → i < k → view (wrote v i top t) k ≡ view t k
wrote_above v i top t h k l = by_cases (ℕ_discrete v 40)
    (λ e. rw (eq-eqb v 40 e) (get_or-set_other t i k top 0 (omega arith)))
    (λ n. by_cases (ℕ_discrete v 41)
    (λ e. let w = h e in rw (ne_eqb v 40 n, eq-eqb v 41 e) (get_or-set_other (set t top i) i k top 0 (omega arith) ∙ get_or-set_other t top k i 0 (omega arith)))
    (λ m. rw (ne_eqb v 40 n, ne_eqb v 41 m) (get_or-set_other t i k unpaired 0 (omega arith))))

-- ---- the state of the writing before place i: t₀ is the memory at the start, and t as it is
pub record Writing (s t₀ t : List ℕ) (top i : ℕ) : Type 0 where
  pub long : length t ≡ length t₀
  pub stack : Stacked (view s) (view t) (depth (view s) i) top i
  pub rest : (k : ℕ) → i ≤ k → view t k ≡ view t₀ k

pub writing_start : (s t : List ℕ) → Writing s t t unpaired 0
writing_start s t = record { long = refl; stack = start (view s) (view t); rest = λ k l. refl }

module _ (s t₀ t : List ℕ) (top i : ℕ) (w : Writing s t₀ t top i) where
  -- a `)` closes an earlier place
  pub writing_below : Proper (view s) i → view s i ≡ 41 → top < i
  writing_below c e = top_below (view s) w.stack (c.closing e)

  pub writing_step : (t' : List ℕ) (top' : ℕ) → i < length t → i < unpaired → Proper (view s) i
      → t' ≡ wrote (view s i) i top t → top' ≡ new_top (view s i) i top t → Writing s t₀ t' top' (i + 1)
  writing_step t' top' h l c e e' = record {
    long = ap length e ∙ wrote_long (view s i) i top t ∙ w.long;
    stack = rw (e, e', add-one i) (turn (view s) t (depth (view s) i) top i h l w.stack c.bracket c.closing);
    rest = λ k x. rw e (wrote_above (view s i) i top t (writing_below c) k (omega arith) ∙ w.rest k (omega arith));
  }

pub writing_end : (s t₀ t : List ℕ) (top : ℕ) → Writing s t₀ t top (length s) → depth (view s) (length s) ≡ 0 → length s ≤ length t → Written s t₀ t
writing_end s t₀ t top w z h =
    let n = length s in
    let u = take n t in
    let lu : length u ≡ n = length-take-le n t h in
    let p = bottom (view s) w.stack z in
    let lt = w.long in
    record {
      sound = rw lu (moved (λ k l r. get_or-take n t k 0 r) p.fold);
      text = ext_get_or 0 (brackets u) s (brackets_long u ∙ lu)
          (λ k l. let l' : k < n = rw (brackets_long u, lu) at l in
          brackets_at u k (omega arith) ∙ ap (glyph k) (get_or-take n t k 0 l') ∙ sym (p.spelt k (omega arith) l'));
      surplus = ext_get_or 0 (drop n t) (drop n t₀) (simp length-drop (omega arith))
          (λ k l. get_or-drop n t k 0 ∙ w.rest (n + k) (omega arith) ∙ sym (get_or-drop n t₀ k 0));
    }
