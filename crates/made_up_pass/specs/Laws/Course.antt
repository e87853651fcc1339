-- All that the program has written is the made-up pass. Assumes nothing.
use Rattle.std.specs.Prelude.{◌≡◌, refl, List, ◌++◌, ℕ, ◌+◌, ◌-◌}
use Rattle.std.proofs.Common.{sym, ◌∙◌, append_assoc, append-nil, arith}
use Rattle.generator.specs.Laws.MadeUp.{log_goes_on}
use Rattle.generator_record.specs.MadeUp.{made_log, log_leaves}
use Rattle.made_up_pass.specs.Course.Course.{begun, further}
use Rattle.made_up_pass.specs.Course.{Course}
use Rattle.made_up_pass.specs.Laws.Piece.{piece_records_lem, piece_bytes, piece_word}
use Rattle.made_up_pass.specs.Piece.{piece_records}

-- What is written, and then what is left to write, is the pass.
pub course_goes : {seed count word left : ℕ} {written : List ℕ} → Course seed count word left written
    → written ++ made_log left word ≡ made_log count seed
course_goes begun = refl
course_goes (further {word} {left} {written} pieced course) =
    let n = piece_records left in
    let rest = left - n in
    let all : n + rest ≡ left = omega (arith, (piece_records_lem left).0) in
    let parts = append_assoc written (made_log n word) (made_log rest (log_leaves n word)) in
    rw (piece_bytes pieced, piece_word pieced, pieced.rest, parts)
    (rw (sym (log_goes_on rest n word), all) (course_goes course))

-- Where no record is left, all that was written is the pass.
pub course_ends : {seed count word : ℕ} {written : List ℕ} → Course seed count word 0 written → written ≡ made_log count seed
unfolding made_log
course_ends {written = written} course = sym (append-nil written) ∙ course_goes course
