-- The digits that are put are the definition's. Assumes nothing.
use Rattle.std.proofs.Common.{◌≡◌, sym, ℕ, ◌^◌, ◌<◌, rules}
use Rattle.std.proofs.lemmas.Fmt.{AppendsLastDigit, decimal_from_appends, length-decimal-le}
use Rattle.std.specs.Fmt as fmt
use Rattle.lines.specs.Text.{shown, decimal}

appends : AppendsLastDigit shown
unfolding shown
appends = record { one = λ k n h. search rules; more = λ k n h. search rules }

pub decimal_is : (n : ℕ) → n < 2 ^ 64 → fmt.decimal n ≡ decimal n
unfolding decimal
decimal_is n h = sym (decimal_from_appends shown appends 20 n h (search (rules, length-decimal-le 20 n)))
