-- What a maker of logs answers and leaves in the buffer, computed from the definitions. Assumes nothing.
use Rattle.std.specs.Prelude.{◌≡◌, refl, [], ◌∷◌, ◌^◌, ◌-◌}
use Rattle.record.specs.Kind
use Rattle.generator.specs.Answer.{refuses, makes}
use Rattle.generator_draw.specs.Draw.{draw}
use Rattle.generator_record.specs.MadeUp.{made_record, record_leaves, made_log, log_leaves}

-- three records from seed 1 into a buffer of 21 bytes: 8 are written, and the others stay
pub three_records :
    makes 1 3 (0xF0 ∷ 0xF1 ∷ 0xF2 ∷ 0xF3 ∷ 0xF4 ∷ 0xF5 ∷ 0xF6 ∷ 0xF7 ∷ 0xF8 ∷ 0xF9 ∷ 0xFA ∷ 0xFB ∷ 0xFC ∷ 0xFD ∷ 0xFE ∷ 0xE0 ∷ 0xE1 ∷
    0xE2 ∷ 0xE3 ∷ 0xE4 ∷ 0xE5 ∷ []) ≡
    record {
      number = 0;
      bytes = 8;
      word = 435756210;
      buffer =
          Kind.part ∷ 1 ∷ 5 ∷ Kind.look ∷ 1 ∷ Kind.take ∷ 10 ∷ 2 ∷ 0xF8 ∷ 0xF9 ∷ 0xFA ∷ 0xFB ∷ 0xFC ∷ 0xFD ∷ 0xFE ∷ 0xE0 ∷ 0xE1 ∷
          0xE2 ∷ 0xE3 ∷ 0xE4 ∷ 0xE5 ∷ [];
    }
unfolding draw made_record record_leaves made_log log_leaves
three_records = refl

-- no record into no buffer
pub no_records : makes 1 0 [] ≡ record { number = 0; bytes = 0; word = 1; buffer = [] }
unfolding made_log log_leaves
no_records = refl

-- 27: a buffer of 6 bytes for one record, and for more records than 64 bits can count bytes
pub short_buffer : makes 1 1 (1 ∷ 2 ∷ 3 ∷ 4 ∷ 5 ∷ 6 ∷ []) ≡ refuses 27 (1 ∷ 2 ∷ 3 ∷ 4 ∷ 5 ∷ 6 ∷ [])
short_buffer = refl

pub many_records : makes 1 (2 ^ 64 - 1) (1 ∷ 2 ∷ []) ≡ refuses 27 (1 ∷ 2 ∷ [])
many_records = refl

-- 26 before 27
pub zero_first : makes 0 1 (1 ∷ 2 ∷ []) ≡ refuses 26 (1 ∷ 2 ∷ [])
zero_first = refl
