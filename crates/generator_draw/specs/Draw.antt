-- The generator: "the 32-bit xorshift generator of Marsaglia with shifts 13 left, 17 right, 5 left; bits that leave the top are dropped".
-- Paper 02, change 1. Assumes nothing.
use Rattle.std.specs.Prelude.{ℕ, ◌*◌, ◌/◌, ◌%◌, ◌^◌}
use Rattle.std.specs.Int.Bits.{bit_xor}

-- how many words there are: they have 32 bits
abbrev pub words : ℕ
words = 2 ^ 32

-- "bits that leave the top are dropped"
abbrev pub shifted_left : ℕ → ℕ → ℕ
shifted_left places word = word * 2 ^ places % words

abbrev pub shifted_right : ℕ → ℕ → ℕ
shifted_right places word = word / 2 ^ places

-- "shifts 13 left, 17 right, 5 left", each put over the word by an exclusive or: the word that follows a word
unfoldable pub draw : ℕ → ℕ
draw word =
    let first = bit_xor word (shifted_left 13 word) in
    let second = bit_xor first (shifted_right 17 first) in
    bit_xor second (shifted_left 5 second)
