-- The steps by which a structure with as many pairs as the cells say is put together, span by span. Assumes nothing.
use mathlib.Core.Path.{◌≡◌, refl, sym, ap, ◌∙◌}
use mathlib.Core.Logic.{◌≢◌, by_cases}
use Prim.Native.Nat.{ℕ, ◌+◌, ◌<◌, ◌≤◌}
use native.Mathlib.Omega.{arith}
use native.Mathlib.Numerals.{add-one}
use native.Mathlib.Decide.{dec_lt, ℕ_discrete}
use Rattle.cells.specs.Rule.{Cells, span}
use Rattle.structure.specs.Table.{unpaired, opens, opened}
use Rattle.structure.proofs.Folds.{empty, one, join, wrap, moved}
use Rattle.structure.proofs.Counts.{opens_none, opens_low, opens_high, opened_moved, opened_step}
use Rattle.count_rule.specs.Allowed.{Allowed}
use Rattle.count_rule.specs.Counts.{Filled}
use Rattle.cells.proofs.Spans.{span_none}

-- one position more, counted
next : (p : ℕ → ℕ) (i : ℕ) → opened p (i + 1) ≡ opened p i + opens i (p i)
next p i = sym (opened_step p i (opened p i) (opens i (p i)) refl refl)

module _ (can : ℕ → ℕ → Type 0) where
  -- ---- allowed structures
  allowed_one : (p : ℕ → ℕ) (i : ℕ) → i < unpaired → p i ≡ unpaired → Allowed can p i (i + 1)
  allowed_one p i h e = record {
    fold = rw (add-one i) (one p i h e);
    each = λ k l r o n. let q : k ≡ i = omega arith in absurd (n (ap p q ∙ e));
  }

  allowed_join : {p : ℕ → ℕ} {i k j : ℕ} → Allowed can p i k → Allowed can p k j → i ≤ k → k ≤ j → Allowed can p i j
  allowed_join {p} {i} {k} {j} a b u v = record {
    fold = join p a.fold b.fold u v;
    each = λ x l r o n. by_cases (dec_lt x k) (λ s. a.each x l s o n) (λ s. b.each x (omega arith) r o n);
  }

  allowed_wrap :
      {p : ℕ → ℕ} {i k : ℕ} → Allowed can p (i + 1) k → i < k → k < unpaired → p i ≡ k → p k ≡ i → can i k → Allowed can p i (k + 1)
  allowed_wrap {p} {i} {k} a h b e e' y = record {
    fold = rw (add-one k) (wrap p (rw (add-one i) at a.fold) h b e e');
    each = λ x l r o n. by_cases (ℕ_discrete x i)
        (λ q. rw (q, e) y)
        (λ ni. let nk : x ≢ k = λ q. omega (arith, ap p q) in a.each x (omega arith) (omega arith) o n);
  }

  allowed_moved :
      {p q : ℕ → ℕ} {lo hi : ℕ} → ((k : ℕ) → lo ≤ k → k < hi → q k ≡ p k) → Allowed can p lo hi → Allowed can q lo hi
  allowed_moved {p} {q} {lo} {hi} s a = record {
    fold = moved s a.fold;
    each = λ k l r o n. let e = s k l r in rw e (a.each k l r (omega arith) (omega arith));
  }

  -- ---- with as many pairs as the cells say
  module _ (c : Cells ℕ) where
    pub filled_none : (p : ℕ → ℕ) (i : ℕ) → i ≤ unpaired → Filled can c p i i
    filled_none p i h = record {
      allowed = record { fold = empty p i h; each = λ k l r. absurd (omega arith) };
      count = omega (arith, span_none c i i (omega arith));
    }

    pub filled_one : (p : ℕ → ℕ) (i : ℕ) → i < unpaired → p i ≡ unpaired → span c i (i + 1) ≡ 0 → Filled can c p i (i + 1)
    filled_one p i h e v = record { allowed = allowed_one p i h e; count = omega (arith, next p i, opens_none i (p i) e) }

    -- the first position is unpaired
    pub filled_first :
        (p : ℕ → ℕ) (i e : ℕ) → i < e → p i ≡ unpaired → span c i e ≡ span c (i + 1) e → Filled can c p (i + 1) e → Filled can c p i e
    filled_first p i e h q v f =
        let b = f.allowed.fold.fits in
        record {
          allowed = allowed_join (allowed_one p i (omega arith) q) f.allowed (omega arith) (omega arith);
          count = omega (arith, f.count, next p i, opens_none i (p i) q);
        }

    -- the first position pairs with the last
    pub filled_both :
        (p : ℕ → ℕ) (i j : ℕ) → i < j → j < unpaired → p i ≡ j → p j ≡ i → can i j → span c i (j + 1) ≡ span c (i + 1) j + 1 →
        Filled can c p (i + 1) j → Filled can c p i (j + 1)
    filled_both p i j h b q r y v f = record {
      allowed = allowed_wrap f.allowed h b q r y;
      count = omega (arith, f.count, next p i, next p j, opens_high i (p i) (omega arith) (omega arith), opens_low j (p j) (omega arith) b);
    }

    -- two neighbouring spans
    pub filled_split :
        (p : ℕ → ℕ) (i m e : ℕ) → i ≤ m → m ≤ e → span c i e ≡ span c i m + span c m e → Filled can c p i m → Filled can c p m e → Filled can c p i e
    filled_split p i m e h l v f g = record {
      allowed = allowed_join f.allowed g.allowed h l;
      count = omega (arith, f.count, g.count);
    }

    -- it depends on the span's own entries alone
    pub filled_moved :
        (p q : ℕ → ℕ) (lo hi : ℕ) → lo ≤ hi → ((k : ℕ) → lo ≤ k → k < hi → q k ≡ p k) → Filled can c p lo hi → Filled can c q lo hi
    filled_moved p q lo hi h s f = record {
      allowed = allowed_moved s f.allowed;
      count = omega (arith, f.count, opened_moved p q lo hi h s);
    }
