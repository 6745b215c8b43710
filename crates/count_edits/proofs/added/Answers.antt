-- `count_edits::added` meets its contract: the letter and its column are written as it says. Assumes nothing.
use Rattle.std.proofs.Common.{arith, rules, sym, refl, ap, ◌∙◌, set, length-set}
use mathlib.Core.Logic.{⊎_elim}
use borrow.Author.Tests.{le-leb, lt-leb}
use Rattle.refusals.specs.Refusals.{fold_limit}
use Rattle.bases.proofs.Laws.{read_is, read_letter}
use Rattle.cells.proofs.Places.{less_or}
use Rattle.count_kept.proofs.Believable.{believable}
use Rattle.count_edits.specs.Checks.{add_due}
use Rattle.count_edits.proofs.added.Goals as goal

pub returns-then-n-ge-FOLD_LIMIT : goal.returns-then-n-ge-FOLD_LIMIT
unfolding add_due
returns-then-n-ge-FOLD_LIMIT c =
    let b = read_is _ c.read_base.ensures c.in_ok-base.ensures.ok_part in
    let d = le-leb fold_limit c.args.held.length (omega arith) in
    search rules

pub returns-then-bases-longer : goal.returns-then-bases-longer
unfolding add_due
returns-then-bases-longer c =
    let b = read_is _ c.read_base.ensures c.in_ok-base.ensures.ok_part in
    let d = lt-leb fold_limit c.args.held.length (omega arith) in
    search rules

pub columns-requires : goal.columns-requires
columns-requires c =
    let e = believable _ _ _ (sym c.in_ok-kept_checks.ensures) in
    (omega arith, omega (arith, e.short), simp length-set (omega arith), omega arith, λ i j h l x. e.fine i j h (⊎_elim (λ y. y) (λ y. absurd (omega (arith, x (omega arith)))) (less_or j c.args.held.length)))

pub returns : goal.returns
unfolding add_due
returns c =
    let b = read_is _ c.read_base.ensures c.in_ok-base.ensures.ok_part in
    let d = lt-leb fold_limit c.args.held.length (omega arith) in
    let letter = c.letter.ensures ∙ read_letter _ c.read_base.ensures c.in_ok-base.ensures.ok_part in
    (search rules, refl, record { byte = ap (set c.args.bases.now c.args.held.length) letter; long = c.columns.auto.cells; cells = c.columns.ensures }, c.count.ensures)
