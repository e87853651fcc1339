-- A record of each kind, read from a log: how long its body is, what it names, and that it is cut where a byte is missing. Paper 01, "The
-- step log". Computed from the definitions. Assumes nothing.
use Rattle.std.specs.Prelude.{◌≡◌, refl, List, [], ◌∷◌, ◌++◌, ℕ, ◌+◌, take, get_or, Ok, Err}
use Rattle.transit.specs.Message.{rank}
use Rattle.record.specs.Record.{body_length, record_of, Decoded, decode}
use Rattle.record.specs.declared.Fault.TheVariants.{Cut}
use Rattle.record.specs.declared.Record.{Record}
use Rattle.record.specs.declared.Record.TheVariants.{Start, Call, Route, Send, Take, Move, Heed, Drain, Land, Part, End, Look}

-- how long the body of a log's first kind is, and what is read of the log: alone, between other bytes, and with its last byte missing
pub record Read : Type 0 where
  pub body : ℕ
  pub alone : Decoded
  pub between : Decoded
  pub short : Decoded

abbrev pub read : List ℕ → Read
read log =
    let body = body_length (get_or log 0 0) in
    record {
      body = body;
      alone = decode log 0;
      between = decode (0xFF ∷ log ++ 0xFF ∷ []) 1;
      short = decode (take body log) 0;
    }

-- a record with a body so long: the position passes the kind and the body, and with one byte less it is cut
abbrev pub wholly : Record → ℕ → Read
wholly r body = record { body = body; alone = Ok (r, 1 + body); between = Ok (r, 2 + body); short = Err Cut }

pub start_is_read : read (0x01 ∷ 3 ∷ 5 ∷ []) ≡ wholly (Start (rank 3) 5) 2
unfolding decode record_of
start_is_read = refl

pub call_is_read : read (0x02 ∷ 3 ∷ 4 ∷ []) ≡ wholly (Call (rank 3) (rank 4)) 2
unfolding decode record_of
call_is_read = refl

pub route_is_read : read (0x03 ∷ 3 ∷ 4 ∷ []) ≡ wholly (Route (rank 3) (rank 4)) 2
unfolding decode record_of
route_is_read = refl

pub send_is_read : read (0x04 ∷ 3 ∷ 4 ∷ 0x78 ∷ 0x56 ∷ 0x34 ∷ 0x12 ∷ []) ≡ wholly (Send (rank 3) (rank 4) 0x12345678) 6
unfolding decode record_of
send_is_read = refl

pub take_is_read : read (0x05 ∷ 3 ∷ 4 ∷ []) ≡ wholly (Take (rank 3) (rank 4)) 2
unfolding decode record_of
take_is_read = refl

pub move_is_read : read (0x06 ∷ 3 ∷ 5 ∷ []) ≡ wholly (Move (rank 3) 5) 2
unfolding decode record_of
move_is_read = refl

pub heed_is_read : read (0x07 ∷ 3 ∷ 4 ∷ []) ≡ wholly (Heed (rank 3) (rank 4)) 2
unfolding decode record_of
heed_is_read = refl

pub drain_is_read : read (0x08 ∷ 3 ∷ 4 ∷ []) ≡ wholly (Drain (rank 3) (rank 4)) 2
unfolding decode record_of
drain_is_read = refl

pub land_is_read : read (0x09 ∷ 3 ∷ []) ≡ wholly (Land (rank 3)) 1
unfolding decode record_of
land_is_read = refl

pub part_is_read : read (0x0A ∷ 3 ∷ 4 ∷ []) ≡ wholly (Part (rank 3) (rank 4)) 2
unfolding decode record_of
part_is_read = refl

pub end_is_read : read (0x0B ∷ 3 ∷ []) ≡ wholly (End (rank 3)) 1
unfolding decode record_of
end_is_read = refl

pub look_is_read : read (0x0C ∷ 3 ∷ []) ≡ wholly (Look (rank 3)) 1
unfolding decode record_of
look_is_read = refl
