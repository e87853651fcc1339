-- Laws of the number that an argument gives. Assumes nothing.
use Rattle.std.specs.Prelude.{
  ◌≡◌,
  true,
  false,
  ◌&&◌,
  List,
  [],
  ◌∷◌,
  ℕ,
  ◌+◌,
  ◌-◌,
  ◌*◌,
  ◌≤◌,
  ◌<◌,
  ltb,
  leb,
  length,
  Option,
  Some,
  None,
  Ok,
  Err,
}
use Rattle.std.proofs.Math.Bool.{and-false}
use Rattle.std.proofs.Common.{le_refl, le_trans, arith}
use borrow.Author.Tests.{lt-ltb, le-leb, lt-leb, leb-true}
use Rattle.base.specs.Laws.Tests.{by_test, both_left, both_right}
use Rattle.base.specs.Lists.{every}
use Rattle.made_up_argument.specs.Argument.{is_digit, worth, number_in, argument_of, Within}
use Rattle.made_up_argument.specs.declared.Fault.TheVariants.{NoNumber, TooLarge}

-- `0` is 48 and `9` is 57.
pub digit_least : (byte : ℕ) → is_digit byte ≡ true → 48 ≤ byte
digit_least byte h = leb-true 48 byte (both_left (leb 48 byte) (leb byte 57) h)

pub digit_most : (byte : ℕ) → is_digit byte ≡ true → byte ≤ 57
digit_most byte h = leb-true byte 57 (both_right (leb 48 byte) (leb byte 57) h)

-- A number with more digits is no less.
pub grows : (n : ℕ) (bytes : List ℕ) → n ≤ worth n bytes
grows n [] = le_refl n
grows n (byte ∷ bytes) = le_trans (omega arith) (grows (10 * n + (byte - 48)) bytes)

pub no_digits : (most : ℕ) (text : List ℕ) → every is_digit text ≡ false → number_in most text ≡ Err NoNumber
unfolding number_in
no_digits most text h = rw (h, and-false)

-- A text that is digits alone, and has one.
module _ (most : ℕ) (text : List ℕ) (some : 0 < length text) (digits : every is_digit text ≡ true) where
  pub too_large : most < worth 0 text → number_in most text ≡ Err TooLarge
  unfolding number_in
  too_large h = rw (lt-ltb 0 (length text) some, digits, lt-leb (worth 0 text) most h)

  pub is_number : worth 0 text ≤ most → number_in most text ≡ Ok (worth 0 text)
  unfolding number_in
  is_number h = rw (lt-ltb 0 (length text) some, digits, le-leb (worth 0 text) most h)

-- The number is at most what it may be.
number_within : (most : ℕ) (text : List ℕ) → Within most (number_in most text)
unfolding number_in
number_within most text =
    by_test (ltb 0 (length text) && every is_digit text)
    (λ t. rw t (by_test (leb (worth 0 text) most) (λ u. rw u (leb-true (worth 0 text) most u)) (λ u. rw u tt))) (λ t. rw t tt)

pub within : (most : ℕ) (given : Option (List ℕ)) → Within most (argument_of given most)
within most (Some text) = number_within most text
within most None = tt
