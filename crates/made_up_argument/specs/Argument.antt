-- The number that an argument gives: decimal digits, one at least, that make no more than it may be. Assumes nothing.
use Rattle.std.specs.Prelude.{Bool, cond, ◌&&◌, List, [], ◌∷◌, ℕ, ◌+◌, ◌-◌, ◌*◌, ◌≤◌, leb, ltb, length, Option, Some, None, Result, Ok, Err}
use Rattle.base.specs.Lists.{every}
use Rattle.made_up_argument.specs.declared.Fault.{Fault}
use Rattle.made_up_argument.specs.declared.Fault.TheVariants.{NoNumber, TooLarge, TooLong}

-- `0` to `9`
abbrev pub is_digit : ℕ → Bool
is_digit byte = leb 48 byte && leb byte 57

-- the number that digits make behind those of another
abbrev pub worth : ℕ → List ℕ → ℕ
worth n [] = n
worth n (byte ∷ bytes) = worth (10 * n + (byte - 48)) bytes

-- the number that an argument gives, or what is wrong with it
abbrev pub Argument : Type 0
Argument = Result ℕ Fault

unfoldable pub number_in : ℕ → List ℕ → Argument
number_in most text =
    cond (ltb 0 (length text) && every is_digit text)
    (cond (leb (worth 0 text) most) (Ok (worth 0 text)) (Err TooLarge))
    (Err NoNumber)

-- where the call that gives arguments did not give all of the text, the argument is too long to be read
abbrev pub argument_of : Option (List ℕ) → ℕ → Argument
argument_of (Some text) most = number_in most text
argument_of None most = Err TooLong

-- a number is at most so much
abbrev pub Within : ℕ → Argument → Type 0
Within most (Ok n) = n ≤ most
Within most (Err fault) = Unit {0}
