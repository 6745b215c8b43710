-- `sequences::first_no_base` meets its contract: the first byte that is no base. Assumes nothing.
use Rattle.std.proofs.Common.{rules, tests, arith, ◌≡◌, true, false, sym, length, Some}
use Rattle.std.proofs.lemmas.Iterator.{IsFirst-from_position, YieldsList-from_slice}
use Rattle.refusals.proofs.Laws.{clear_each, each_found}
use Rattle.bases.specs.Bases.{no_base}
use Rattle.structure.specs.Table.{view}
use Rattle.sequences.specs.Sequences.{base_due, bases_due}
use Rattle.sequences.proofs.first_no_base.Goals as goal

pub returns-in-Some : goal.returns-in-Some
unfolding bases_due no_base
returns-in-Some c =
    let s = c.args.sequence.now in
    let h = IsFirst-from_position _ _ (Some c.in-Some.k) (λ b. no_base b ≡ true) (λ b. no_base b ≡ false) c.in-Some.ensures.ran (YieldsList-from_slice s c.iter.ensures.rest) (λ x q k. search (rules, tests)) (λ x q k. (search rules, search (rules, tests))) in
    sym (each_found (base_due (view s)) c.in-Some.k (length s) 2 (Some c.in-Some.k) h.0 (clear_each (base_due (view s)) c.in-Some.k (λ j l. simp (h.2 j 0 (omega arith) l))) (simp (h.1 0)))

pub returns-in-None : goal.returns-in-None
unfolding bases_due no_base
returns-in-None c =
    let s = c.args.sequence.now in
    let h = IsFirst-from_position _ _ _ (λ b. no_base b ≡ true) (λ b. no_base b ≡ false) c.in-None.ensures.ran (YieldsList-from_slice s c.iter.ensures.rest) (λ x q k. search (rules, tests)) (λ x q k. (search rules, search (rules, tests))) in
    sym (clear_each (base_due (view s)) (length s) (λ j l. simp (h j 0 (omega arith) l)))
