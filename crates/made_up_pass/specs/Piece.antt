-- A piece of the pass: what fits into the buffer. Assumes nothing.
use Rattle.std.specs.Prelude.{cond, List, ◌≡◌, ℕ, ◌-◌, ◌*◌, ltb, Result, Ok, Err, IfOk}
use Rattle.generator.specs.Answer.{Outcome, number, makes}
use Rattle.generator.specs.declared.Unmade.{Unmade}
use Rattle.generator_record.specs.MadeUp.{longest}
use Rattle.made_up_pass.specs.declared.Piece.{Piece}

-- so many records at most
abbrev pub piece_most : ℕ
piece_most = 9362

-- the room that they may take
abbrev pub piece_room : ℕ
piece_room = longest * piece_most

-- the records of the next piece: as many as fit, of those that are left
abbrev pub piece_records : ℕ → ℕ
piece_records left = cond (ltb left piece_most) left piece_most

-- before the first piece: it goes on from the seed, and all records are left
abbrev pub no_piece : ℕ → ℕ → Piece
no_piece seed count = record { bytes = 0; word = record { 0 = seed }; left = count }

-- what a piece is, as an outcome of the generator: of a refused one no bytes are made
abbrev pub outcome_of : Result Piece Unmade → List ℕ → Outcome
outcome_of (Ok p) buffer = record { number = 0; bytes = p.bytes; word = p.word.0; buffer = buffer }
outcome_of (Err why) buffer = record { number = number why; bytes = 0; word = 0; buffer = buffer }

-- how many bytes of the buffer are to be handed to the output: of a refused piece none
abbrev pub bytes_of : Result Piece Unmade → ℕ
bytes_of (Ok p) = p.bytes
bytes_of (Err why) = 0

-- the piece is made as the generator makes so many records, and the others are left
pub record Pieced (word left : ℕ) (buffer : List ℕ) (piece : Result Piece Unmade) (after : List ℕ) : Type 0 where
  pub made : outcome_of piece after ≡ makes word (piece_records left) buffer
  pub rest : IfOk piece (λ p. p.left ≡ left - piece_records left)
