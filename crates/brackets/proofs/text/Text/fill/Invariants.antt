-- `brackets::text::Text::fill` meets its contract. The loop's invariant: what is written is a stack of open places with spans that fold between them. Assumes nothing.
use Rattle.brackets.proofs.Stack.{Writing}
use Rattle.brackets.proofs.text.Text.fill.Given as goal

abbrev pub invariant-loop-k : goal.invariant-loop-k
invariant-loop-k l = Writing l.self.bytes.now l.initial.pairs l.pairs l.top l.k
