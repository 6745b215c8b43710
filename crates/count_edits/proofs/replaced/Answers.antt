-- `count_edits::replaced` meets its contract: the letter and the columns are written as it says. Assumes nothing.
use Rattle.std.proofs.Common.{arith, rules, sym, refl, ap, ◌∙◌, set, length-set}
use Rattle.bases.proofs.Laws.{read_is, read_letter}
use Rattle.count_edits.specs.Checks.{replace_due}
use Rattle.count_kept.proofs.Believable.{believable}
use Rattle.count_edits.proofs.replaced.Goals as goal

pub bounds-bases-position : goal.bounds-bases-position
bounds-bases-position c =
    let e = believable _ _ _ (sym c.in_ok-kept_checks.ensures) in
    omega (arith, e.bases)

pub columns-requires : goal.columns-requires
columns-requires c =
    let e = believable _ _ _ (sym c.in_ok-kept_checks.ensures) in
    (omega arith, omega (arith, e.short), simp length-set e.bases, e.cells, λ i j h l x. e.fine i j h l)

pub count-requires : goal.count-requires
count-requires c =
    let e = believable _ _ _ (sym c.in_ok-kept_checks.ensures) in
    (e.some, omega (arith, e.short), omega (arith, e.cells, c.columns.auto.cells))

pub returns : goal.returns
unfolding replace_due
returns c =
    let b = read_is _ c.read_base.ensures c.in_ok-base.ensures.ok_part in
    let letter = c.letter.ensures ∙ read_letter _ c.read_base.ensures c.in_ok-base.ensures.ok_part in
    (search rules, refl, record { byte = ap (set c.args.bases.now c.args.position) letter; long = c.columns.auto.cells; cells = c.columns.ensures }, c.count.ensures)
