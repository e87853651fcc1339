-- A log that is made, computed from the definitions: every kind, with a rank above 7 at each place of a rank. Assumes nothing.
use Rattle.std.specs.Prelude.{◌≡◌, refl, List, [], ◌∷◌, ◌++◌, ℕ, Ok}
use Rattle.transit.specs.Message.{rank}
use Rattle.record.specs.Kind
use Rattle.record.specs.Record.{decode, record_of}
use Rattle.record.specs.declared.Record.TheVariants.{Send}
use Rattle.generator_draw.specs.Draw.{draw}
use Rattle.generator_record.specs.MadeUp.{made_record, record_leaves, made_log, log_leaves}

-- the records of a log, one behind the other
abbrev joined : List (List ℕ) → List ℕ
joined [] = []
joined (r ∷ rs) = r ++ joined rs

pub all_kinds :
    made_log 19 50884 ≡ joined (
    (Kind.start ∷ 10 ∷ 7 ∷ []) ∷ (Kind.move ∷ 7 ∷ 4 ∷ []) ∷ (Kind.move ∷ 13 ∷ 3 ∷ []) ∷ (Kind.heed ∷ 14 ∷ 7 ∷ []) ∷
    (Kind.end ∷ 11 ∷ []) ∷ (Kind.call ∷ 15 ∷ 8 ∷ []) ∷ (Kind.look ∷ 10 ∷ []) ∷ (Kind.call ∷ 9 ∷ 13 ∷ []) ∷ (Kind.land ∷ 11 ∷ []) ∷
    (Kind.send ∷ 14 ∷ 13 ∷ 34 ∷ 255 ∷ 108 ∷ 162 ∷ []) ∷ (Kind.route ∷ 10 ∷ 12 ∷ []) ∷ (Kind.take ∷ 1 ∷ 13 ∷ []) ∷
    (Kind.heed ∷ 12 ∷ 10 ∷ []) ∷ (Kind.part ∷ 13 ∷ 15 ∷ []) ∷ (Kind.drain ∷ 8 ∷ 4 ∷ []) ∷ (Kind.drain ∷ 4 ∷ 8 ∷ []) ∷
    (Kind.part ∷ 11 ∷ 14 ∷ []) ∷ (Kind.land ∷ 14 ∷ []) ∷ (Kind.take ∷ 8 ∷ 0 ∷ []) ∷ [])
unfolding draw made_record record_leaves made_log
all_kinds = refl

pub all_kinds_leave : log_leaves 19 50884 ≡ 8199040
unfolding draw record_leaves log_leaves
all_kinds_leave = refl

-- "a send's value is one whole draw": the first record of seed 7 is a send of the fourth draw
pub whole_draw : decode (made_log 1 7) 0 ≡ Ok (Send (rank 7) (rank 3) (draw (draw (draw (draw 7)))), 7)
unfolding draw made_record record_leaves made_log decode record_of
whole_draw = refl
