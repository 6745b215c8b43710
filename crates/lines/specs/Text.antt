-- Answers as text: lists of ASCII codes. Assumes nothing: these are definitions.
use Rattle.std.specs.Prelude.{◌≡◌, cond, List, [], ◌∷◌, ◌++◌, ℕ, zero, suc, ◌+◌, ◌/◌}
use Rattle.std.specs.Prelude.{◌%◌, ltb, ℤ, pos, negsuc, nat_abs, Option, None, Some, length, take, drop}
use Rattle.io.specs.Digits.{last_digits, hex_digit_ascii}
use Rattle.refusals.specs.Refusals.{number, place}
use Rattle.refusals.specs.declared.Refusal.{Refusal}
use Rattle.lines.specs.declared.Line.{Line}

-- the digits of n in decimal with no zeros in front, the last k of them where there are more
unfoldable pub shown : ℕ → ℕ → List ℕ
shown zero n = []
shown (suc k) n = cond (ltb n 10) [] (shown k (n / 10)) ++ (hex_digit_ascii (n % 10) ∷ [])

-- a number of 64 bits: 20 digits are enough
unfoldable pub decimal : ℕ → List ℕ
decimal n = shown 20 n

-- `-` below 0
abbrev pub sign_of : ℤ → List ℕ
sign_of (pos n) = []
sign_of (negsuc n) = 45 ∷ []

-- a number of thousandths: sign, whole part, point, always three decimals
abbrev pub thousandths : ℤ → List ℕ
thousandths z = sign_of z ++ (decimal (nat_abs z / 1000) ++ 46 ∷ last_digits 10 3 (nat_abs z))

-- ` at 4`, or nothing
abbrev pub place_text : Option ℕ → List ℕ
place_text None = []
place_text (Some k) = (32 ∷ 97 ∷ 116 ∷ 32 ∷ []) ++ decimal k

-- `pairs 3`
unfoldable pub pairs_text : ℕ → List ℕ
pairs_text n = (112 ∷ 97 ∷ 105 ∷ 114 ∷ 115 ∷ 32 ∷ []) ++ decimal n

-- `energy -1.200`
unfoldable pub energy_text : ℤ → List ℕ
energy_text z = (101 ∷ 110 ∷ 101 ∷ 114 ∷ 103 ∷ 121 ∷ 32 ∷ []) ++ thousandths z

-- `refused 1`, `refused 2 at 4`
unfoldable pub refused_text : Refusal → List ℕ
refused_text q = (114 ∷ 101 ∷ 102 ∷ 117 ∷ 115 ∷ 101 ∷ 100 ∷ 32 ∷ []) ++ (decimal (number q) ++ place_text (place q))

-- l' is the line l with the text s put at its end: in the same buffer, whose rest is as it was
pub record Puts (l l' : Line) (s : List ℕ) : Type 0 where
  pub buffer : l'.out.ghost_name ≡ l.out.ghost_name
  pub end : l'.len ≡ l.len + length s
  pub text : take l'.len l'.out.now ≡ take l.len l.out.now ++ s
  pub rest : drop l'.len l'.out.now ≡ drop l'.len l.out.now

-- o' starts with the r bytes of the text s, and the rest is as it was in o
pub record Holds (o o' : List ℕ) (s : List ℕ) (r : ℕ) : Type 0 where
  pub end : r ≡ length s
  pub text : o' ≡ s ++ drop r o
