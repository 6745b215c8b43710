-- Spans that fold: taking one apart, and putting one together.
use mathlib.Core.Path.{◌≡◌, sym, ap, ◌∙◌}
use mathlib.Core.Logic.{◌≢◌, by_cases}
use Prim.Native.Nat.{ℕ, suc, ◌<◌, ◌≤◌}
use native.Mathlib.Omega.{arith}
use native.Mathlib.Decide.{dec_lt, ℕ_discrete}
use Rattle.structure.specs.Table.{unpaired, Fold}

module _ (p : ℕ → ℕ) where
  -- ---- taking apart
  pub tail : {i hi : ℕ} → Fold p i hi → p i ≡ unpaired → Fold p (suc i) hi
  tail {i} {hi} f e = record {
    fits = f.fits;
    mate = λ k l h n.
        let m = f.mate k (omega arith) h n in
        let ne : p k ≢ i = λ q. omega (arith, ap p q) in
        (omega arith, m.1, m.2, m.3);
    plain = λ a b l. f.plain a b (omega arith);
  }

  -- where the first position pairs, what lies between the two
  pub inside : {i hi : ℕ} → Fold p i hi → i < p i → p i < hi → (x : ℕ) → i < x → x < p i → p x ≢ unpaired → (i < p x) × (p x < p i)
  inside {i} {hi} f o h x l r n =
      let w = f.fits in
      let mi = f.mate i (omega arith) (omega arith) (omega arith) in
      let m = f.mate x (omega arith) (omega arith) n in
      let ne : p x ≢ i = λ q. omega (arith, ap p q) in
      let ne' : p x ≢ p i = λ q. omega (arith, ap p q) in
      let cross : ¬ (p i < p x) = λ s. f.plain i x (omega arith) l r s m.1 in
      (omega arith, omega arith)

  pub after : {i hi : ℕ} → Fold p i hi → i < p i → p i < hi → (x : ℕ) → p i < x → x < hi → p x ≢ unpaired → p i < p x
  after {i} {hi} f o h x l r n =
      let w = f.fits in
      let mi = f.mate i (omega arith) (omega arith) (omega arith) in
      let m = f.mate x (omega arith) r n in
      let ne : p x ≢ i = λ q. omega (arith, ap p q) in
      let ne' : p x ≢ p i = λ q. omega (arith, ap p q) in
      let low : ¬ (p x < p i) = λ s.
      let e = m.3 in
      let t = inside f o h (p x) (omega arith) s (omega arith) in omega arith in
      omega arith

  pub inner : {i hi : ℕ} → Fold p i hi → i < p i → p i < hi → Fold p (suc i) (p i)
  inner {i} {hi} f o h = record {
    fits = let w = f.fits in omega arith;
    mate = λ k l r n.
        let m = f.mate k (omega arith) (omega arith) n in
        let s = inside f o h k l r n in
        (s.0, s.1, m.2, m.3);
    plain = λ a b l x y z t. f.plain a b (omega arith) x y z (omega arith);
  }

  pub outer : {i hi : ℕ} → Fold p i hi → i < p i → p i < hi → Fold p (suc (p i)) hi
  outer {i} {hi} f o h = record {
    fits = f.fits;
    mate = λ k l r n.
        let m = f.mate k (omega arith) r n in
        (after f o h k l r n, m.1, m.2, m.3);
    plain = λ a b l. f.plain a b (omega arith);
  }

  -- the first position of a span that folds pairs to the right
  pub first : {i hi : ℕ} → Fold p i hi → i < hi → p i ≢ unpaired → (i < p i) × (p i < hi) × (p (p i) ≡ i)
  first {i} {hi} f h n = let m = f.mate i (omega arith) h n in (omega arith, m.1, m.3)

  -- ---- putting together
  pub empty : (i : ℕ) → i ≤ unpaired → Fold p i i
  empty i h = record {
    fits = h;
    mate = λ k l r. absurd (omega arith);
    plain = λ a b l x y z t. omega arith;
  }

  pub one : (i : ℕ) → i < unpaired → p i ≡ unpaired → Fold p i (suc i)
  one i h e = record {
    fits = h;
    mate = λ k l r n.
        let q : k ≡ i = omega arith in absurd (n (ap p q ∙ e));
    plain = λ a b l x y z t. omega arith;
  }

  pub join : {i k j : ℕ} → Fold p i k → Fold p k j → i ≤ k → k ≤ j → Fold p i j
  join {i} {k} {j} f g u v = record {
    fits = g.fits;
    mate = λ x l r n. by_cases (dec_lt x k)
        (λ s. let m = f.mate x l s n in (m.0, omega arith, m.2, m.3))
        (λ s. let m = g.mate x (omega arith) r n in (omega arith, m.1, m.2, m.3));
    plain = λ a b l x y z t.
        let w = g.fits in
        by_cases (dec_lt b k)
        (λ s. let m = f.mate b (omega arith) s (omega arith) in f.plain a b l x y z m.1)
        (λ s. by_cases (dec_lt a k)
        (λ s'. let m = f.mate a l s' (omega arith) in omega arith)
        (λ s'. g.plain a b (omega arith) x y z t));
  }

  pub wrap : {i k : ℕ} → Fold p (suc i) k → i < k → k < unpaired → p i ≡ k → p k ≡ i → Fold p i (suc k)
  wrap {i} {k} f h b e e' = record {
    fits = b;
    mate = λ x l r n. by_cases (ℕ_discrete x i)
        (λ q. let e₁ : p x ≡ k = ap p q ∙ e in (omega arith, omega arith, omega arith, ap p e₁ ∙ e' ∙ sym q))
        (λ ni. by_cases (ℕ_discrete x k)
        (λ q. let e₁ : p x ≡ i = ap p q ∙ e' in (omega arith, omega arith, omega arith, ap p e₁ ∙ e ∙ sym q))
        (λ nk. let m = f.mate x (omega arith) (omega arith) n in (omega arith, omega arith, m.2, m.3)));
    plain = λ a c l x y z t. by_cases (ℕ_discrete a i)
        (λ q. omega (arith, ap p q))
        (λ ni. let m = f.mate c (omega arith) (omega arith) (omega arith) in f.plain a c (omega arith) x y z m.1);
  }

-- what a span says depends on its own entries alone
pub moved : {p q : ℕ → ℕ} {lo hi : ℕ} → ((k : ℕ) → lo ≤ k → k < hi → q k ≡ p k) → Fold p lo hi → Fold q lo hi
moved {p} {q} {lo} {hi} s f = record {
  fits = f.fits;
  mate = λ k l r n.
      let e = s k l r in
      let m = f.mate k l r (omega arith) in
      let e' = s (p k) m.0 m.1 in
      (omega arith, omega arith, omega arith, ap q e ∙ e' ∙ m.3);
  plain = λ a b l x y z t.
      let ea = s a l (omega arith) in
      let eb = s b (omega arith) (omega arith) in
      f.plain a b l x (omega arith) (omega arith) (omega arith);
}
