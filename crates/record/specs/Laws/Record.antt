-- Laws of a record at a position: what stands there, by the tests that are made, and that the four bytes of a value give it back.
-- Assumes nothing.
use Rattle.std.specs.Prelude.{◌≡◌, true, false, List, ℕ, ◌+◌, ◌*◌, ◌/◌, ◌%◌, ◌^◌, ◌<◌, ◌≤◌, leb, get_or, length, take, drop, Ok, Err}
use Rattle.std.proofs.Common.{sym, ◌∙◌, mod-eq_of_lt, arith, length-drop, length-take-le, get_or-take, get_or-drop, ext_get_or}
use Rattle.std.proofs.Math.Nat.{div-div-eq-div-mul}
use borrow.Author.Tests.{lt-ltb, le-ltb, le-leb, lt-leb, leb-true}
use Rattle.base.specs.Laws.Tests.{both_left, both_right}
use Rattle.record.specs.Record.{table, is_kind, body_length, record_of, body_at, decode, value_of, bytes_of}
use Rattle.record.specs.declared.Fault.TheVariants.{Unknown, Cut}

-- What stands at a position, by the tests that are made there.
module _ (log : List ℕ) (at : ℕ) where
  pub at_end_lem : length log ≤ at → decode log at ≡ Err Cut
  unfolding decode
  at_end_lem h = rw (le-ltb at (length log) h)

  pub no_kind : at < length log → is_kind (get_or log at 0) ≡ false → decode log at ≡ Err Unknown
  unfolding decode
  no_kind h k = rw (lt-ltb at (length log) h, k)

  pub cut_short :
      at < length log → is_kind (get_or log at 0) ≡ true →
      length log < at + 1 + body_length (get_or log at 0) → decode log at ≡ Err Cut
  unfolding decode
  cut_short h k l = rw (lt-ltb at (length log) h, k, lt-leb (at + 1 + body_length (get_or log at 0)) (length log) l)

  pub whole :
      at < length log → is_kind (get_or log at 0) ≡ true → at + 1 + body_length (get_or log at 0) ≤ length log →
      decode log at ≡ Ok (record_of (get_or log at 0) (body_at log at), at + 1 + body_length (get_or log at 0))
  unfolding decode
  whole h k l = rw (lt-ltb at (length log) h, k, le-leb (at + 1 + body_length (get_or log at 0)) (length log) l)

-- A kind is one of the table's.
pub kind_between : (k : ℕ) → 1 ≤ k → k ≤ length table → is_kind k ≡ true
kind_between k l h = rw (le-leb 1 k l, le-leb k (length table) h)

pub kind_least : (k : ℕ) → is_kind k ≡ true → 1 ≤ k
kind_least k h = leb-true 1 k (both_left (leb 1 k) (leb k (length table)) h)

pub kind_most : (k : ℕ) → is_kind k ≡ true → k ≤ length table
kind_most k h = leb-true k (length table) (both_right (leb 1 k) (leb k (length table)) h)

-- A body is the same wherever the same bytes stand.
pub body_same : (a b : List ℕ) (i j n : ℕ) → i + n ≤ length a → j + n ≤ length b
    → ((k : ℕ) → k < n → get_or a (i + k) 0 ≡ get_or b (j + k) 0) → take n (drop i a) ≡ take n (drop j b)
body_same a b i j n in_a in_b same =
    let long_a : length (take n (drop i a)) ≡ n = length-take-le n (drop i a) (omega (arith, length-drop i a)) in
    let long_b : length (take n (drop j b)) ≡ n = length-take-le n (drop j b) (omega (arith, length-drop j b)) in
    ext_get_or 0 (take n (drop i a)) (take n (drop j b)) (long_a ∙ sym long_b)
    (λ k h.
    let inside : k < n = rw long_a at h in
    get_or-take n (drop i a) k 0 inside ∙ get_or-drop i a k 0 ∙ same k inside ∙
    sym (get_or-take n (drop j b) k 0 inside ∙ get_or-drop j b k 0))

-- Four digits to the base 256, each with what is above it, make a number.
four_digits_lem :
    (v b0 v1 b1 v2 b2 b3 : ℕ) → v ≡ b0 + 256 * v1 → v1 ≡ b1 + 256 * v2 → v2 ≡ b2 + 256 * b3 → value_of b0 b1 b2 b3 ≡ v
four_digits_lem v b0 v1 b1 v2 b2 b3 first second third = omega arith

-- a byte of a value, the first being 0
abbrev byte : ℕ → ℕ → ℕ
byte v k = get_or (bytes_of v) k 0

-- The four bytes of a value give it back.
pub value_back : (v : ℕ) → v < 2 ^ 32 → value_of (byte v 0) (byte v 1) (byte v 2) (byte v 3) ≡ v
value_back v h =
    let second : v / 65536 ≡ v / 256 / 256 = sym (div-div-eq-div-mul v 256 256) in
    let third : v / 16777216 ≡ v / 65536 / 256 = sym (div-div-eq-div-mul v 65536 256) in
    let last : v / 16777216 % 256 ≡ v / 16777216 = mod-eq_of_lt (omega arith) in
    rw last
    (four_digits_lem v (v % 256) (v / 256) (v / 256 % 256) (v / 65536) (v / 65536 % 256) (v / 16777216) (omega arith)
    (rw second (omega arith))
    (rw third (omega arith)))
