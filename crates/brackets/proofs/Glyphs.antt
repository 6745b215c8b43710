-- What a bracket tells of its entry, and that two sound tables with the same bracket text are the same table. Assumes nothing.
use mathlib.Core.Path.{◌≡◌, refl, sym, ap, ◌∙◌}
use mathlib.Core.Logic.{◌≢◌, by_cases}
use mathlib.Core.List.{List, [], ◌∷◌}
use Prim.Native.Nat.{ℕ, zero, suc, ◌+◌, ◌<◌, ◌≤◌}
use native.Mathlib.Nat.{zero-add}
use native.Mathlib.Omega.{arith}
use native.Mathlib.Decide.{dec_lt, ℕ_discrete}
use lib.ListN.{length, get_or}
use lib.Seq.{ext_get_or}
use borrow.Author.Tests.{lt-ltb, le-ltb, eq-eqb, ne_eqb}
use Rattle.structure.specs.Table.{unpaired, Fold, Sound, view}
use Rattle.brackets.specs.Brackets.{glyph, glyphs, brackets}

pub glyph_none : (k v : ℕ) → v ≡ unpaired → glyph k v ≡ 46
glyph_none k v e = rw (eq-eqb v unpaired e)

pub glyph_high : (k v : ℕ) → k < v → v ≢ unpaired → glyph k v ≡ 40
glyph_high k v h n = rw (ne_eqb v unpaired n, lt-ltb k v h)

pub glyph_low : (k v : ℕ) → v ≤ k → k < unpaired → glyph k v ≡ 41
glyph_low k v h l = rw (ne_eqb v unpaired (λ e. omega arith), le-ltb k v h)

-- which of the three an entry is, read off its byte
pub is_none : (k v : ℕ) → glyph k v ≡ 46 → v ≡ unpaired
is_none k v e = by_cases (ℕ_discrete v unpaired) (λ q. q)
    (λ n. by_cases (dec_lt k v) (λ h. absurd (omega (arith, glyph_high k v h n)))
    (λ h. by_cases (dec_lt k unpaired) (λ l. absurd (omega (arith, glyph_low k v (omega arith) l)))
    (λ l. absurd (omega (arith, low_far k v n (omega arith))))))
  where
    low_far : (k v : ℕ) → v ≢ unpaired → v ≤ k → glyph k v ≡ 41
    low_far k v n h = rw (ne_eqb v unpaired n, le-ltb k v h)

pub is_high : (k v : ℕ) → k < unpaired → glyph k v ≡ 40 → (k < v) × (v ≢ unpaired)
is_high k v s e =
    let n : v ≢ unpaired = λ q. omega (arith, glyph_none k v q) in
    (by_cases (dec_lt k v) (λ h. h) (λ h. absurd (omega (arith, glyph_low k v (omega arith) s))), n)

pub is_low : (k v : ℕ) → glyph k v ≡ 41 → (v ≤ k) × (v ≢ unpaired)
is_low k v e =
    let n : v ≢ unpaired = λ q. omega (arith, glyph_none k v q) in
    let h : ¬ (k < v) = λ h. omega (arith, glyph_high k v h n) in
    (omega arith, n)

half : (p q : ℕ → ℕ) (n b : ℕ) → Fold p 0 n → Fold q 0 n → b < n → p b < b → q b < b
    → ((z : ℕ) → z < b → p z < z → q z ≡ p z) → ((y : ℕ) → y < n → y < q y → q y ≢ unpaired → (y < p y) × (p y ≢ unpaired)) → ¬ (p b < q b)
half p q n b f g h x y ih op l =
    let w = f.fits in
    let mp = f.mate b (omega arith) h (omega arith) in
    let mq = g.mate b (omega arith) h (omega arith) in
    let e = mq.3 in
    let o = op (q b) (omega arith) (omega arith) (omega arith) in
    let my = f.mate (q b) (omega arith) (omega arith) o.1 in
    let e' = mp.3 in
    let cross : ¬ (b < p (q b)) = λ s. f.plain (p b) (q b) (omega arith) l (omega arith) (omega arith) my.1 in
    let ey = my.3 in
    let ne : p (q b) ≢ b = λ s. omega (arith, ap p s) in
    let i = ih (p (q b)) (omega arith) (omega arith) in
    let mz = g.mate (p (q b)) (omega arith) my.1 (omega arith) in
    let ez = mz.3 in
    omega (arith, ap q (i ∙ ey))

module _ (p q : ℕ → ℕ) (n : ℕ) (f : Fold p 0 n) (g : Fold q 0 n) (same : (k : ℕ) → k < n → glyph k (p k) ≡ glyph k (q k)) where
  closing : (m b : ℕ) → b < m → b < n → p b < b → q b ≡ p b
  closing zero b l h x = absurd (omega arith)
  closing (suc m) b l h x =
      let w = f.fits in
      let s = same b h in
      let y = is_low b (q b) (omega (arith, glyph_low b (p b) (omega arith) (omega arith))) in
      let mq = g.mate b (omega arith) h y.1 in
      let u = half p q n b f g h x (omega arith) (λ z l' o. closing m z (omega arith) (omega arith) o)
      (λ z l' o r. is_high z (p z) (omega arith) (omega (arith, same z l', glyph_high z (q z) o r))) in
      let v = half q p n b g f h (omega arith) x
      (λ z l' o. let r = is_low z (p z) (omega (arith, same z (omega arith), glyph_low z (q z) (omega arith) (omega arith))) in
      let mz = f.mate z (omega arith) (omega arith) r.1 in
      sym (closing m z (omega arith) (omega arith) (omega arith)))
      (λ z l' o r. is_high z (q z) (omega arith) (omega (arith, same z l', glyph_high z (p z) o r))) in
      omega arith

  pub agree : (k : ℕ) → k < n → p k ≡ q k
  agree k h =
      let w = f.fits in
      by_cases (ℕ_discrete (p k) unpaired)
      (λ e. e ∙ sym (is_none k (q k) (omega (arith, same k h, glyph_none k (p k) e))))
      (λ ne. let m = f.mate k (omega arith) h ne in
      let e = m.3 in
      by_cases (dec_lt (p k) k)
      (λ l. sym (closing n k h h l))
      (λ l. let c = closing n (p k) m.1 m.1 (omega arith) in
      let mq = g.mate (p k) (omega arith) m.1 (omega arith) in
      let eq = mq.3 in
      omega (arith, ap q (c ∙ e))))

glyphs_at : (i : ℕ) (t : List ℕ) (k : ℕ) → k < length t → get_or (glyphs i t) k 0 ≡ glyph (i + k) (view t k)
unfolding glyphs
glyphs_at i [] k h = absurd (omega arith)
glyphs_at i (v ∷ t) zero h = let e : i ≡ i + 0 = omega arith in ap (λ (x : ℕ). glyph x v) e
glyphs_at i (v ∷ t) (suc k) h = let e : suc i + k ≡ i + suc k = omega arith in glyphs_at (suc i) t k (omega arith) ∙ ap (λ (x : ℕ). glyph x (view t k)) e

glyphs_long : (i : ℕ) (t : List ℕ) → length (glyphs i t) ≡ length t
unfolding glyphs
glyphs_long i [] = refl
glyphs_long i (v ∷ t) = ap suc (glyphs_long (suc i) t)

pub brackets_at : (t : List ℕ) (k : ℕ) → k < length t → get_or (brackets t) k 0 ≡ glyph k (view t k)
unfolding brackets
brackets_at t k h = glyphs_at 0 t k h ∙ ap (λ (x : ℕ). glyph x (view t k)) (zero-add k)

pub brackets_long : (t : List ℕ) → length (brackets t) ≡ length t
unfolding brackets
brackets_long t = glyphs_long 0 t

pub one_table : (s t : List ℕ) → Sound s → Sound t → brackets s ≡ brackets t → s ≡ t
one_table s t f g e =
    let l : length s ≡ length t = sym (brackets_long s) ∙ ap length e ∙ brackets_long t in
    ext_get_or 0 s t l (agree (view s) (view t) (length s) f (rw l g)
    (λ k h. sym (brackets_at s k h) ∙ ap (λ (x : List ℕ). get_or x k 0) e ∙ brackets_at t k (omega arith)))
