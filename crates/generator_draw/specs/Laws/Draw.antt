-- Laws of the generator: it stays within 32 bits, and only zero leads to zero. Assumes nothing.
use Rattle.std.specs.Prelude.{◌≡◌, ℕ, zero, suc, ◌*◌, ◌-◌, ◌/◌, ◌%◌, ◌<◌}
use Rattle.std.proofs.Common.{sym, ap, ◌∙◌, arith}
use Rattle.std.proofs.Math.Arith.{bin_ind}
use Rattle.std.specs.Int.Bits.{bit_xor, differ, xor_step}
use Rattle.std.proofs.lemmas.Nat.{xor_lt}
use Rattle.generator_draw.specs.Draw.{words, shifted_left, shifted_right, draw}

-- Digits that do not differ are the same.
no_difference : (x y : ℕ) → differ x y ≡ 0 → x ≡ y
no_difference zero y e = sym e
no_difference (suc x) zero e = e
no_difference (suc x) (suc y) e = ap suc (no_difference x y e)

-- An exclusive or is zero only of two that are the same.
xor_zero : (a b : ℕ) → bit_xor a b ≡ 0 → a ≡ b
xor_zero =
    bin_ind (λ (n : ℕ). (b : ℕ) → bit_xor n b ≡ 0 → n ≡ b) (λ b e. sym e)
    (λ n ih b e. let digits = sym (xor_step n b) ∙ e in
    let halves = ih (b / 2) (omega arith) in
    let last = no_difference (n % 2) (b % 2) (omega arith) in
    omega arith)

-- A word that is so many times 2 to the 32 is zero.
whole_turns : (word turns : ℕ) → word < words → word ≡ words * turns → word ≡ 0
whole_turns word turns h e = omega arith

-- Each of the three shifts, put over a word, gives a word, and zero only of zero.
module _ (word : ℕ) (h : word < words) where
  first_word : bit_xor word (shifted_left 13 word) < words
  first_word = xor_lt 32 word (shifted_left 13 word) h (omega arith)

  first_zero : bit_xor word (shifted_left 13 word) ≡ 0 → word ≡ 0
  first_zero e =
      let same = xor_zero word (shifted_left 13 word) e in
      let turns = word * 8192 / words in
      let times : 8191 * word ≡ words * turns = omega arith in
      whole_turns word (4227850239 * turns - 8063 * word) h (omega arith)

  second_word : bit_xor word (shifted_right 17 word) < words
  second_word = xor_lt 32 word (shifted_right 17 word) h (omega arith)

  second_zero : bit_xor word (shifted_right 17 word) ≡ 0 → word ≡ 0
  second_zero e = let same = xor_zero word (shifted_right 17 word) e in omega arith

  third_word : bit_xor word (shifted_left 5 word) < words
  third_word = xor_lt 32 word (shifted_left 5 word) h (omega arith)

  third_zero : bit_xor word (shifted_left 5 word) ≡ 0 → word ≡ 0
  third_zero e =
      let same = xor_zero word (shifted_left 5 word) e in
      let turns = word * 32 / words in
      let times : 31 * word ≡ words * turns = omega arith in
      whole_turns word (3186588639 * turns - 23 * word) h (omega arith)

module _ (word : ℕ) (h : word < words) where
  -- A draw gives a word.
  pub draw_word : draw word < words
  unfolding draw
  draw_word = third_word _ (second_word _ (first_word word h))

  -- A draw gives zero only of zero.
  pub draw_zero : draw word ≡ 0 → word ≡ 0
  unfolding draw
  draw_zero e =
      let once = first_word word h in
      first_zero word h (second_zero _ once (third_zero _ (second_word _ once) e))
