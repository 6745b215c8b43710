-- The steps of filling a triangle by a local rule, column after column, each from its last row up to row 0.
-- Assumes nothing.
use mathlib.Core.Path.{◌≡◌, refl, ◌∙◌, sym, subst}
use mathlib.Core.Logic.{⊎_elim}
use mathlib.Core.List.{List}
use Prim.Native.Nat.{ℕ, zero, suc, ◌+◌, ◌-◌, ◌≤◌, ◌<◌, min}
use native.Mathlib.Omega.{arith}
use lib.ListN.{length, get_or, set}
use lib.Seq.{get_or-set_same, get_or-set_other}
use Rattle.cells.specs.Tri.{tri, place}
use Rattle.cells.specs.Rule.{Bases, Cells, Rule, SameInside, Local, Right}
use Rattle.cells.specs.Fill.{at, FineFrom, Fine, Keeps, Rows, Columns, FineElse}
use Rattle.cells.proofs.Places.{less_or, three, tri_mono, tri_below, place_column, place_row, cell_at}
use Rattle.cells.proofs.Rules.{unique, untouched, replaced, added}

-- g' is g but for what stands at the place p, which is v
pub record Put {A : Type 0} (g g' : ℕ → A) (p : ℕ) (v : A) : Type 0 where
  pub here : g' p ≡ v
  pub off : (k : ℕ) → (k ≡ p → ⊥) → g' k ≡ g k

-- a store to a list
pub put_set : {A : Type 0} (d : A) (t : List A) (p : ℕ) (v : A) → p < length t → Put (λ k. get_or t k d) (λ k. get_or (set t p v) k d) p v
put_set d t p v h = record { here = get_or-set_same t p v d h; off = λ k n. get_or-set_other t p k v d n }

-- a fold asks nothing of the other cells: it writes all
module _ {A : Type 0} (Ok : ℕ → ℕ → A → Type 0) (c : Cells A) (n : ℕ) where
  pub else_filled : FineElse Ok c 0 n n
  else_filled i j h l x = absurd (omega (arith, x (omega arith)))

module _ {A : Type 0} (rule : Rule A) (loc : Local rule) (Ok : Bases → ℕ → ℕ → A → Type 0) (keeps : Keeps rule Ok) (b : Bases) where
  -- a store at (i, j) leaves the other cells
  other : (g g' : ℕ → A) (i j : ℕ) (v : A) → i ≤ j → Put g g' (place i j) v → (k l : ℕ) → k ≤ l → (k ≡ i → l ≡ j → ⊥) → at g k l ≡ at g' k l
  other g g' i j v h put k l m n = sym (put.off (place k l) (λ e. n (place_row k l i j m h e) (place_column k l i j m h e)))

  rows_more :
      (g₀ g g' : ℕ → A) (j from i : ℕ) (v : A) → i ≤ from → from ≤ j → Put g g' (place i j) v → v ≡ rule b (at g) i j →
      Rows rule Ok b g₀ g j from (i + 1) → Rows rule Ok b g₀ g' j from i
  rows_more g₀ g g' j from i v h m put e r =
      record {
        left = λ k p. put.off k (λ q. omega arith) ∙ r.left k p;
        right = λ k p. put.off k (λ q. omega arith) ∙ r.right k p;
        fresh = λ k p q. three i k (older k q) (λ x. subst (λ (y : ℕ). at g' y j ≡ rule b (at g') y j) x newest) (λ x. absurd (omega arith));
        fine = λ k l p q x.
            three l j (λ y. stands k l p (λ z s. omega arith) (r.fine k l p q (λ z. absurd (omega arith))))
            (λ y.
            three i k (λ z. stands k l p (λ s w. omega arith) (r.fine k l p q (λ s. omega arith)))
            (λ z. subst (λ (w : ℕ). Ok b k w (at g' k w)) (sym y) (subst (λ (w : ℕ). Ok b w j (at g' w j)) z mine)) (λ z. absurd (omega (arith, x y))))
            (λ y. absurd (omega arith));
      }
    where
      o : (k l : ℕ) → k ≤ l → (k ≡ i → l ≡ j → ⊥) → at g k l ≡ at g' k l
      o = other g g' i j v (omega arith) put

      older : (k : ℕ) → k ≤ from → i < k → at g' k j ≡ rule b (at g') k j
      older k q x =
          untouched rule loc b b (at g) (at g') k j (omega arith) (λ y p w. refl) (λ y l p w u. o y l w (λ z s. omega arith))
          (r.fresh k (omega arith) q)

      newest : at g' i j ≡ rule b (at g') i j
      newest = put.here ∙ e ∙ loc b b (at g) (at g') i j (omega arith) (λ y p w. refl) (λ k l p w u s. o k l w (λ z y. omega arith))

      stands : (k l : ℕ) → k ≤ l → (k ≡ i → l ≡ j → ⊥) → Ok b k l (at g k l) → Ok b k l (at g' k l)
      stands k l p n = subst (Ok b k l) (o k l p n)

      mine : Ok b i j (at g' i j)
      mine =
          subst (Ok b i j) (sym (put.here ∙ e))
          (keeps b (at g) i j (omega arith) (λ k l p q u w. r.fine k l q u (λ z. omega arith)))

  -- what the rows of the next column ask
  pub columns_fine :
      (g₀ g : ℕ → A) (first top n j from : ℕ) → first ≤ j → j < n → from ≡ min top j → FineElse (Ok b) (at g₀) first top n →
      Columns rule Ok b g₀ g first top j → FineFrom (Ok b) (at g) (from + 1) j
  columns_fine g₀ g first top n j from a h least f r k l p q x = ⊎_elim (λ y. r.fine k l p y) (λ y. tail (omega arith)) (less_or l j)
    where
      tail : l ≡ j → Ok b k l (at g k l)
      tail y =
          subst (Ok b k l) (sym (r.kept (place k l) (λ i m s u w z e. absurd (omega (arith, place_column k l i m p s e)))))
          (f k l p (omega arith) (λ z. omega (arith, x y)))

  pub columns_more :
      (g₀ g g' : ℕ → A) (first top j from : ℕ) → first ≤ j → from ≡ min top j → Columns rule Ok b g₀ g first top j →
      Rows rule Ok b g g' j from 0 → Columns rule Ok b g₀ g' first top (j + 1)
  columns_more g₀ g g' first top j from a least r s =
      record {
        kept = λ k p. away k p ∙ r.kept k (λ i l u w x y. p i l u w (omega arith) y);
        fresh = λ i l p q u w. ⊎_elim (λ x. older i l p q x w) (λ x. newest i l (omega arith) p w) (less_or l j);
        fine = λ i l p q. s.fine i l p (omega arith) (λ x. omega arith);
      }
    where
      away : (k : ℕ) → ((i l : ℕ) → i ≤ l → first ≤ l → l < j + 1 → i ≤ top → k ≡ place i l → ⊥) → g' k ≡ g k
      away k p =
          ⊎_elim (λ x. s.left k x)
          (λ x.
          ⊎_elim (λ y. s.right k y)
          (λ y. absurd (p (k - tri j) j (omega arith) a (omega arith) (omega arith) (omega arith)))
          (less_or (tri j + from) k))
          (less_or k (tri j))

      older : (i l : ℕ) → i ≤ l → first ≤ l → l < j → i ≤ top → at g' i l ≡ rule b (at g') i l
      older i l p q x w =
          untouched rule loc b b (at g) (at g') i l p (λ k u y. refl)
          (λ k m u y z. sym (s.left (place k m) (omega (arith, tri_below m j (omega arith))))) (r.fresh i l p q x w)

      newest : (i l : ℕ) → l ≡ j → i ≤ l → i ≤ top → at g' i l ≡ rule b (at g') i l
      newest i l x p w = rw x (s.fresh i (omega arith) (omega arith))

  -- all columns filled: the table is right, whatever stood there
  pub filled_right : (g₀ g : ℕ → A) (top n : ℕ) → n ≤ top + 1 → Columns rule Ok b g₀ g 0 top n → Right rule b (at g) n
  filled_right g₀ g top n h r i j p q = r.fresh i j p (omega arith) q (omega arith)

  -- what is past the n columns is left
  pub columns_spare : (g₀ g : ℕ → A) (first top n : ℕ) → Columns rule Ok b g₀ g first top n → (k : ℕ) → tri n ≤ k → g k ≡ g₀ k
  columns_spare g₀ g first top n r k h = r.kept k (λ i j p q u w e. omega (arith, tri_below j n u))

  -- and so is each cell that is not among the written
  pub columns_else :
      (g₀ g : ℕ → A) (first top n : ℕ) → Columns rule Ok b g₀ g first top n → (i j : ℕ) → i ≤ j → (first ≤ j → i ≤ top → ⊥) → at g₀ i j ≡ at g i j
  columns_else g₀ g first top n r i j p x =
      sym
      (r.kept (place i j)
      (λ k l q u w y e. x (omega (arith, place_column i j k l p q e)) (omega (arith, place_row i j k l p q e))))

  -- the base at p is replaced and the columns from p on are rewritten up to row p: the table is right again
  pub replaced_right :
      (b₀ : Bases) (g₀ g : ℕ → A) (n p : ℕ) → ((k : ℕ) → (k ≡ p → ⊥) → b₀ k ≡ b k) →
      Columns rule Ok b g₀ g p p n → Right rule b₀ (at g₀) n → Right rule b (at g) n
  replaced_right b₀ g₀ g n p e r =
      replaced rule loc b₀ b (at g₀) (at g) n p e (λ i j h l x. columns_else g₀ g p p n r i j h (λ u w. x w u))
      (λ i j h l q. r.fresh i j (omega arith) l q h)

  -- one base more, and its column is written
  pub added_right :
      (b₀ : Bases) (g₀ g : ℕ → A) (n : ℕ) → ((k : ℕ) → k < n → b₀ k ≡ b k) →
      Columns rule Ok b g₀ g n n (n + 1) → Right rule b₀ (at g₀) n → Right rule b (at g) (n + 1)
  added_right b₀ g₀ g n e r =
      added rule loc b₀ b (at g₀) (at g) n e (λ i j h l. columns_else g₀ g n n (n + 1) r i j h (λ u w. omega arith))
      (λ i h. r.fresh i n h (omega arith) (omega arith) h)

  -- the contract leaves one table: two that were rewritten from the same one agree, at every place
  same_cells :
      (g₀ g g' : ℕ → A) (first top n : ℕ) → Columns rule Ok b g₀ g first top n → Columns rule Ok b g₀ g' first top n →
      (s i j : ℕ) → i ≤ j → j < i + s → at g i j ≡ at g' i j
  same_cells g₀ g g' first top n r r' zero i j h m = absurd (omega arith)
  same_cells g₀ g g' first top n r r' (suc s) i j h m =
      ⊎_elim (λ p. out (λ q u w. omega arith))
      (λ p.
      ⊎_elim (λ q. out (λ u w x. omega arith)) (λ q. ⊎_elim (λ u. out (λ w x y. omega arith)) (λ u. within (λ k l x y z w. same_cells g₀ g g' first top n r r' s k l y (omega arith)) p (omega arith) q) (less_or top i))
      (less_or j first))
      (less_or n (j + 1))
    where
      away : (f : ℕ → A) → Columns rule Ok b g₀ f first top n → (first ≤ j → j < n → i ≤ top → ⊥) → at f i j ≡ at g₀ i j
      away f c x =
          c.kept (place i j)
          (λ k l q u w y e.
          x (omega (arith, place_column i j k l h q e)) (omega (arith, place_column i j k l h q e)) (omega (arith, place_row i j k l h q e)))

      out : (first ≤ j → j < n → i ≤ top → ⊥) → at g i j ≡ at g' i j
      out x = away g r x ∙ sym (away g' r' x)

      within : SameInside (at g) (at g') i j → j + 1 ≤ n → i ≤ top → first ≤ j → at g i j ≡ at g' i j
      within ih p q u =
          r.fresh i j h u (omega arith) q
          ∙ loc b b (at g) (at g') i j h (λ k x y. refl) ih
          ∙ sym (r'.fresh i j h u (omega arith) q)

  pub columns_one :
      (g₀ g g' : ℕ → A) (first top n : ℕ) → Columns rule Ok b g₀ g first top n → Columns rule Ok b g₀ g' first top n → (k : ℕ) → g k ≡ g' k
  columns_one g₀ g g' first top n r r' k =
      let c = cell_at k in
      rw c.here (same_cells g₀ g g' first top n r r' (suc c.column) c.row c.column c.inside (omega arith))

-- by induction on a bound s of the span
fine_below :
    {A : Type 0} (rule : Rule A) (Ok : Bases → ℕ → ℕ → A → Type 0) → Keeps rule Ok → (b : Bases) (c : Cells A) (n : ℕ) → Right rule b c n →
    (s i j : ℕ) → i ≤ j → j < n → j < i + s → Ok b i j (c i j)
fine_below rule Ok keeps b c n r zero i j h l m = absurd (omega arith)
fine_below rule Ok keeps b c n r (suc s) i j h l m =
    subst (Ok b i j) (sym (r i j h l)) (keeps b c i j h (λ k o p q u w. fine_below rule Ok keeps b c n r s k o q (omega arith) (omega arith)))

-- every right table is believable
pub right_fine :
    {A : Type 0} (rule : Rule A) (Ok : Bases → ℕ → ℕ → A → Type 0) → Keeps rule Ok → (b : Bases) (c : Cells A) (n : ℕ) → Right rule b c n →
    Fine (Ok b) c n
right_fine rule Ok keeps b c n r i j h l = fine_below rule Ok keeps b c n r (suc j) i j h l (omega arith)

-- two right tables of the same bases that agree past their cells agree everywhere
pub right_one :
    {A : Type 0} (rule : Rule A) (loc : Local rule) (b : Bases) (g g' : ℕ → A) (n : ℕ) → Right rule b (at g) n → Right rule b (at g') n →
    ((k : ℕ) → tri n ≤ k → g k ≡ g' k) → (k : ℕ) → g k ≡ g' k
right_one rule loc b g g' n r r' spare k = ⊎_elim used (spare k) (less_or k (tri n))
  where
    used : k < tri n → g k ≡ g' k
    used h =
        let c = cell_at k in
        let here : k ≡ tri c.column + c.row = c.here in
        let within : c.column < n = ⊎_elim (λ l. l) (λ l. absurd (omega (arith, tri_mono n c.column l))) (less_or c.column n) in
        rw c.here (unique rule loc b b (at g) (at g') n (λ i l. refl) r r' c.row c.column c.inside within)
