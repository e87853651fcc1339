-- Laws of numbers as text: the first digits of a number and its last ones. Assumes nothing.
use Rattle.std.specs.Prelude.{◌≡◌, refl, List, [], ◌∷◌, ◌++◌, ℕ, zero, suc, ◌+◌, ◌*◌, ◌/◌, ◌%◌, ◌≤◌, ◌<◌, ltb, length, take, get_or}
use Rattle.std.proofs.Common.{
  append_assoc,
  append-nil,
  div-le_self,
  le-div_iff_mul-le,
  le_trans,
  mod-lt,
  arith,
  lt-ltb,
  le-ltb,
  ltb-true,
  ltb-false,
}
use Rattle.std.proofs.Math.Nat.{div-div-eq-div-mul}
use Rattle.std.proofs.Math.Arith.{digits_div, digits_mod, mod-mul}
use Rattle.std.proofs.lemmas.List.{take_more}
use Rattle.base.specs.Laws.Tests.{by_test}
use Rattle.print_page.specs.Text.{space, decimal_within, decimal, two_digits, four_digits, eight_digits, numbers}

-- What holds of one digit and of more holds.
by_digits {ℓ} : {P : Type ℓ} (n : ℕ) → (n < 10 → P) → (10 ≤ n → P) → P
by_digits n one more = by_test (ltb n 10) (λ t. one (ltb-true n 10 t)) (λ t. more (ltb-false n 10 t))

-- A bound above the number is no part of its text.
bound_is_free : (j k n : ℕ) → n < j → n < k → decimal_within j n ≡ decimal_within k n
bound_is_free zero k n h g = absurd (omega arith)
bound_is_free (suc j) zero n h g = absurd (omega arith)
bound_is_free (suc j) (suc k) n h g =
    by_digits n (λ d. rw (lt-ltb n 10 d))
    (λ d. rw (le-ltb n 10 d, bound_is_free j k (n / 10) (omega arith) (omega arith)))

-- A number below ten is its one digit.
pub decimal_one : (n : ℕ) → n < 10 → decimal n ≡ (48 + n) ∷ []
unfolding decimal
decimal_one n h = rw (lt-ltb n 10 h)

-- The last digit stands behind the digits of a tenth.
decimal_more : (n : ℕ) → 10 ≤ n → decimal n ≡ decimal (n / 10) ++ ((48 + n % 10) ∷ [])
unfolding decimal
decimal_more n h = rw (le-ltb n 10 h, bound_is_free n (suc (n / 10)) (n / 10) (omega arith) (omega arith))

-- the last digits of a number are those of what a division by p leaves, and stand behind the digits of the quotient
abbrev LastDigits : ℕ → (ℕ → List ℕ) → Type 0
LastDigits p digits = (n : ℕ) → p ≤ n → decimal n ≡ decimal (n / p) ++ digits (n % p)

-- Twice as many last digits are the same digits twice.
twice : (p : ℕ) (digits : ℕ → List ℕ) → 0 < p → LastDigits p digits → LastDigits (p * p) (λ n. digits (n / p) ++ digits (n % p))
twice p digits h last n g =
    let front : p ≤ n / p = (le-div_iff_mul-le h).1 g in
    let first : n % (p * p) / p ≡ n / p % p = rw (mod-mul n h h) (digits_div (n / p % p) (mod-lt n h)) in
    let second : n % (p * p) % p ≡ n % p = rw (mod-mul n h h) (digits_mod (n / p % p) (mod-lt n h)) in
    rw (last n (le_trans front (div-le_self n p)), last (n / p) front, div-div-eq-div-mul, append_assoc, first, second)

-- The last two digits stand behind the digits of a hundredth; and so on.
pub decimal_two : LastDigits 100 two_digits
decimal_two = twice 10 (λ n. (48 + n) ∷ []) (omega arith) decimal_more

pub decimal_four : LastDigits 10000 four_digits
decimal_four = twice 100 two_digits (omega arith) decimal_two

pub decimal_eight : LastDigits 100000000 eight_digits
decimal_eight = twice 10000 four_digits (omega arith) decimal_four

pub decimal_pair : (n : ℕ) → 10 ≤ n → n < 100 → decimal n ≡ two_digits n
decimal_pair n h g = rw (decimal_more n h, decimal_one (n / 10) (omega arith))

pub numbers_two : (a b : ℕ) → (space ∷ decimal a) ++ (space ∷ decimal b) ≡ numbers (a ∷ b ∷ [])
numbers_two a b = rw append-nil

-- Numbers behind numbers.
pub numbers_append : (xs ys : List ℕ) → numbers xs ++ numbers ys ≡ numbers (xs ++ ys)
numbers_append [] ys = refl
numbers_append (x ∷ xs) ys = rw (append_assoc, numbers_append xs ys)

-- One number more stands behind those before it.
pub numbers_more :
    (ns : List ℕ) (i : ℕ) → i < length ns →
    numbers (take i ns) ++ (space ∷ decimal (get_or ns i 0)) ≡ numbers (take (i + 1) ns)
numbers_more ns i h =
    let last = get_or ns i 0 ∷ [] in
    rw (take_more ns i 0 h, ← numbers_append (take i ns) last, append-nil) refl
