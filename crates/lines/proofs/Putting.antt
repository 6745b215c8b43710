-- Texts put one after the other, and a buffer that holds a text from its start. Assumes nothing.
use Rattle.std.proofs.Common.{◌≡◌, sym, ap, ◌∙◌, ℕ, List, ◌++◌, length, take, drop, arith, length-append, append_assoc, zero-add}
use Rattle.std.proofs.lemmas.List.{take-append-drop, drop-drop}
use Rattle.lines.specs.declared.Line.{Line}
use Rattle.lines.specs.Text.{Puts, Holds}

-- a second text where the first one ends
pub put_join : {a b c : Line} {s t : List ℕ} → Puts a b s → Puts b c t → Puts a c (s ++ t)
put_join {a} {b} {c} {s} {t} p q =
    record {
      buffer = q.buffer ∙ p.buffer;
      end = omega (arith, p.end, q.end, length-append s t);
      text = q.text ∙ ap (λ (x : List ℕ). x ++ t) p.text ∙ append_assoc (take a.len a.out.now) s t;
      rest = q.rest ∙ rw (q.end, ← drop-drop (length t) b.len b.out.now, ← drop-drop (length t) b.len a.out.now, p.rest);
    }

-- a text from the start on, in what the buffer is at the end
pub held : {a b : Line} {o s t : List ℕ} → o ≡ b.out.now → Puts a b s → a.len ≡ 0 → s ≡ t → Holds a.out.now o t b.len
held {a} {b} {o} {s} {t} h p z e =
    record {
      end = rw (z, e, zero-add) at p.end;
      text = h ∙ sym (take-append-drop b.len b.out.now) ∙ rw (p.text, p.rest, z, e);
    }

-- one permitted answer, and one content of the buffer
pub one_text : {o o' o'' s : List ℕ} {r t : ℕ} → Holds o o' s r → Holds o o'' s t → (r ≡ t) × (o' ≡ o'')
one_text {o} {o'} {o''} {s} {r} {t} p q =
    let e = p.end ∙ sym q.end in
    (e, p.text ∙ ap (λ (k : ℕ). s ++ drop k o) e ∙ sym q.text)
