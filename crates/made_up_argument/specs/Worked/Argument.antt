-- Arguments and the numbers that they give, computed from the definition. Assumes nothing.
use Rattle.std.specs.Prelude.{◌≡◌, refl, Some, None, Ok, Err}
use Rattle.print_page.specs.Ascii.{ascii}
use Rattle.made_up_argument.specs.Argument.{number_in, argument_of}
use Rattle.made_up_argument.specs.declared.Fault.TheVariants.{NoNumber, TooLarge, TooLong}

pub digits_in_order : number_in 4294967295 (ascii "1203456789") ≡ Ok 1203456789
unfolding number_in
digits_in_order = refl

pub zeros_before : number_in 4294967295 (ascii "007") ≡ Ok 7
unfolding number_in
zeros_before = refl

pub at_most : number_in 4294967295 (ascii "4294967295") ≡ Ok 4294967295
unfolding number_in
at_most = refl

pub one_above : number_in 4294967295 (ascii "4294967296") ≡ Err TooLarge
unfolding number_in
one_above = refl

pub far_above : number_in 18446744073709551615 (ascii "999999999999999999999999999") ≡ Err TooLarge
unfolding number_in
far_above = refl

pub empty : number_in 4294967295 (ascii "") ≡ Err NoNumber
unfolding number_in
empty = refl

-- below the digits, above them, and behind too large a number
pub sign : number_in 4294967295 (ascii "-1") ≡ Err NoNumber
unfolding number_in
sign = refl

pub slash : number_in 4294967295 (ascii "1/2") ≡ Err NoNumber
unfolding number_in
slash = refl

pub colon : number_in 4294967295 (ascii "1:2") ≡ Err NoNumber
unfolding number_in
colon = refl

pub letter_behind : number_in 4294967295 (ascii "99999999999x") ≡ Err NoNumber
unfolding number_in
letter_behind = refl

-- what the call that gave an argument gave
pub given_whole : argument_of (Some (ascii "7")) 4294967295 ≡ Ok 7
unfolding number_in
given_whole = refl

pub cut_short : argument_of None 4294967295 ≡ Err TooLong
cut_short = refl
