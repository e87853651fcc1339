-- Numbers as text, a list of bytes in ASCII. Paper 01, "The printed run". Assumes nothing.
use Rattle.std.specs.Prelude.{cond, List, [], ◌∷◌, ◌++◌, ℕ, zero, suc, ◌+◌, ◌/◌, ◌%◌, ltb}

-- what stands between two parts of a line
abbrev pub space : ℕ
space = 0x20

-- what ends a line
abbrev pub newline : ℕ
newline = 0x0A

-- "upper case": `0` to `9`, then `A` to `F`
abbrev pub digit : ℕ → ℕ
digit d = cond (ltb d 10) (48 + d) (55 + d)

-- "two hexadecimal digits, upper case"
abbrev pub hex : ℕ → List ℕ
hex n = digit (n / 16) ∷ digit (n % 16) ∷ []

-- a number below 100 in two decimal digits
abbrev pub two_digits : ℕ → List ℕ
two_digits n = (48 + n / 10) ∷ (48 + n % 10) ∷ []

-- a number below 10^4 in four decimal digits
abbrev pub four_digits : ℕ → List ℕ
four_digits n = two_digits (n / 100) ++ two_digits (n % 100)

-- a number below 10^8 in eight decimal digits
abbrev pub eight_digits : ℕ → List ℕ
eight_digits n = four_digits (n / 10000) ++ four_digits (n % 10000)

-- "decimal": one digit, or the digits of a tenth and then the last one; there are no more digits than the first number says
abbrev pub decimal_within : ℕ → ℕ → List ℕ
decimal_within zero n = []
decimal_within (suc k) n =
    cond (ltb n 10) ((48 + n) ∷ []) (decimal_within k (n / 10) ++ ((48 + n % 10) ∷ []))

-- a number in decimal, of any size: no number has more digits than it and one more
unfoldable pub decimal : ℕ → List ℕ
decimal n = decimal_within (suc n) n

-- each number in decimal, behind a space
abbrev pub numbers : List ℕ → List ℕ
numbers [] = []
numbers (n ∷ ns) = space ∷ decimal n ++ numbers ns
