-- Laws of a piece: how many records it has, and that it is the next part of the log. Assumes nothing.
use Rattle.std.specs.Prelude.{◌≡◌, List, ◌≢◌, ℕ, ◌*◌, ◌≤◌, ◌<◌, length, take, Result, Ok, Err}
use Rattle.std.proofs.Common.{sym, ap, ◌∙◌, arith, lt-ltb, le-ltb}
use Rattle.base.specs.Laws.Tests.{by_equal, by_less}
use Rattle.generator.specs.Answer.{Outcome, makes}
use Rattle.generator.specs.Laws.Answer.{too_short, is_written, written, what_is_written}
use Rattle.generator.specs.Laws.MadeUp.{log_within}
use Rattle.generator.specs.declared.Unmade.{Unmade}
use Rattle.generator_record.specs.MadeUp.{longest, made_log, log_leaves}
use Rattle.made_up_pass.specs.Piece.{piece_most, piece_room, piece_records, bytes_of, Pieced}
use Rattle.made_up_pass.specs.declared.Piece.{Piece}

-- A piece has no more records than are left and than fit, and at least one where any is left.
pub piece_records_lem : (left : ℕ) →
    (piece_records left ≤ left) × (piece_records left ≤ piece_most) × (0 < left → 0 < piece_records left)
piece_records_lem left =
    by_less left piece_most
    (λ h. rw (lt-ltb left piece_most h) (omega arith, omega arith, λ some. some))
    (λ h. rw (le-ltb left piece_most h) (omega arith, omega arith, λ some. omega arith))

-- Where records are left behind a piece, they are fewer than before it.
pub piece_less : {word left : ℕ} {buffer after : List ℕ} {p : Piece} → Pieced word left buffer (Ok p) after → p.left ≢ 0 → p.left < left
piece_less {left = left} pieced more =
    let rest = pieced.rest in
    let within = (piece_records_lem left).0 in
    let some = (piece_records_lem left).2 (omega arith) in
    omega arith

-- A piece that is not refused is the next part of the log, and leaves the word behind it.
module _ {word left : ℕ} {buffer after : List ℕ} {p : Piece} (pieced : Pieced word left buffer (Ok p) after) where
  abbrev outcome : Outcome
  outcome = makes word (piece_records left) buffer

  accepted : outcome.number ≡ 0
  accepted = sym (ap (λ (o : Outcome). o.number) pieced.made)

  pub piece_bytes : take p.bytes after ≡ made_log (piece_records left) word
  piece_bytes = ap written pieced.made ∙ (what_is_written word (piece_records left) buffer accepted).0

  pub piece_word : p.word.0 ≡ log_leaves (piece_records left) word
  piece_word = ap (λ (o : Outcome). o.word) pieced.made ∙ (what_is_written word (piece_records left) buffer accepted).1

-- The bytes of a piece fit its room.
pub piece_fits : {word left : ℕ} {buffer after : List ℕ} {p : Piece} → Pieced word left buffer (Ok p) after → p.bytes ≤ piece_room
piece_fits {word} {left} {buffer} {p = p} pieced =
    let n = piece_records left in
    let bytes = ap (λ (o : Outcome). o.bytes) pieced.made in
    let long = log_within n word in
    let most = (piece_records_lem left).1 in
    by_equal word 0 (λ e. let none : p.bytes ≡ 0 = bytes ∙ rw e in omega arith)
    (λ some. by_less (length buffer) (longest * n)
    (λ h. let none : p.bytes ≡ 0 = bytes ∙ rw (too_short word n buffer some h) in omega arith)
    (λ h. let all : p.bytes ≡ length (made_log n word) = bytes ∙ rw (is_written word n buffer some h) in omega arith))

-- So do the bytes that are handed to the output: of a refused piece there are none.
pub bytes_fit : {word left : ℕ} {buffer after : List ℕ} {piece : Result Piece Unmade} → Pieced word left buffer piece after →
    bytes_of piece ≤ piece_room
bytes_fit {piece = Ok p} pieced = piece_fits pieced
bytes_fit {piece = Err why} pieced = omega arith
