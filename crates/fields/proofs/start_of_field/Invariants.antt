-- `fields::start_of_field` goes on in the line. Assumes nothing.
use Rattle.std.proofs.Common.{◌≤◌, length}
use Rattle.fields.proofs.start_of_field.Given as goal

abbrev pub invariant-loop : goal.invariant-loop
invariant-loop l = l.from ≤ length l.line
