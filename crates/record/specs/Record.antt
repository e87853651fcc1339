-- The table of kinds, and the record at a position of a log. Paper 01, "The step log".
-- Assumes nothing.
use Rattle.std.specs.Prelude.{
  Bool,
  cond,
  ◌&&◌,
  List,
  [],
  ◌∷◌,
  map,
  ℕ,
  ◌+◌,
  ◌*◌,
  ◌/◌,
  ◌%◌,
  leb,
  ltb,
  length,
  get_or,
  take,
  drop,
  Result,
  Ok,
  Err,
}
use Rattle.record.specs.Kind.{Field, rank_byte, host_byte, value_bytes, field_length, fields_length}
use Rattle.transit.specs.Message.{rank}
use Rattle.record.specs.declared.Fault.{Fault}
use Rattle.record.specs.declared.Fault.TheVariants.{Unknown, Cut}
use Rattle.record.specs.declared.Record.{Record}
use Rattle.record.specs.declared.Record.TheVariants.{Start, Call, Route, Send, Take, Move, Heed, Drain, Land, Part, End, Look}

-- a kind: the fields of its body, and the record that the fields make, each given as a number by its place in the body
pub record Row : Type 0 where
  pub fields : List Field
  pub make : (ℕ → ℕ) → Record

abbrev row : List Field → ((ℕ → ℕ) → Record) → Row
row fields make = record { fields = fields; make = make }

-- the kinds as the paper lists them, from 01 on: "start r h", "call a b", "route a b", "send a b value", "take b a", "move r h",
-- "heed b r", "drain r s", "land r", "part a b", "end r", "look r"
abbrev pub table : List Row
table =
    row rank_and_host (λ n. Start (rank (n 0)) (n 1)) ∷
    row two_ranks (λ n. Call (rank (n 0)) (rank (n 1))) ∷
    row two_ranks (λ n. Route (rank (n 0)) (rank (n 1))) ∷
    row (rank_byte ∷ rank_byte ∷ value_bytes ∷ []) (λ n. Send (rank (n 0)) (rank (n 1)) (n 2)) ∷
    row two_ranks (λ n. Take (rank (n 0)) (rank (n 1))) ∷
    row rank_and_host (λ n. Move (rank (n 0)) (n 1)) ∷
    row two_ranks (λ n. Heed (rank (n 0)) (rank (n 1))) ∷
    row two_ranks (λ n. Drain (rank (n 0)) (rank (n 1))) ∷
    row one_rank (λ n. Land (rank (n 0))) ∷
    row two_ranks (λ n. Part (rank (n 0)) (rank (n 1))) ∷
    row one_rank (λ n. End (rank (n 0))) ∷
    row one_rank (λ n. Look (rank (n 0))) ∷ []
  where
    one_rank : List Field
    one_rank = rank_byte ∷ []

    two_ranks : List Field
    two_ranks = rank_byte ∷ rank_byte ∷ []

    rank_and_host : List Field
    rank_and_host = rank_byte ∷ host_byte ∷ []

-- "kind is not 01 to 0C" is for all others
abbrev pub is_kind : ℕ → Bool
is_kind k = leb 1 k && leb k (length table)

-- in place of a row for 00, which is no kind
abbrev pub no_row : Row
no_row = row [] (λ n. Look (rank (n 0)))

-- the fields of each body, by kind
abbrev pub bodies : List (List Field)
bodies = map (λ (r : Row). r.fields) (no_row ∷ table)

abbrev pub fields_of : ℕ → List Field
fields_of k = get_or bodies k []

-- "a body whose length the kind fixes"
abbrev pub body_length : ℕ → ℕ
body_length k = get_or (map fields_length bodies) k 0

-- "the value is four bytes, least significant first"
abbrev pub value_of : ℕ → ℕ → ℕ → ℕ → ℕ
value_of b0 b1 b2 b3 = b0 + 256 * b1 + 65536 * b2 + 16777216 * b3

-- the same the other way: the four bytes of a value
abbrev pub bytes_of : ℕ → List ℕ
bytes_of v = v % 256 ∷ v / 256 % 256 ∷ v / 65536 % 256 ∷ v / 16777216 % 256 ∷ []

-- the number of a field that starts so far behind the start of a body
abbrev pub number_at : Field → ℕ → List ℕ → ℕ
number_at rank_byte k bytes = get_or bytes k 0
number_at host_byte k bytes = get_or bytes k 0
number_at value_bytes k bytes = value_of (get_or bytes k 0) (get_or bytes (k + 1) 0) (get_or bytes (k + 2) 0) (get_or bytes (k + 3) 0)

-- the numbers of fields in a row, the first of which starts there
abbrev pub numbers_from : List Field → ℕ → List ℕ → List ℕ
numbers_from [] k bytes = []
numbers_from (f ∷ fs) k bytes = number_at f k bytes ∷ numbers_from fs (k + field_length f) bytes

-- the record of a kind, by the bytes of its body
unfoldable pub record_of : ℕ → List ℕ → Record
record_of k bytes = (get_or (no_row ∷ table) k no_row).make (λ n. get_or (numbers_from (fields_of k) 0 bytes) n 0)

-- the body of the record at a position
abbrev pub body_at : List ℕ → ℕ → List ℕ
body_at log at = take (body_length (get_or log at 0)) (drop (at + 1) log)

-- what stands at a position: a whole record and the position after it, or why none does
abbrev pub Decoded : Type 0
Decoded = Result (Record × ℕ) Fault

-- "position at or past the log's end" is cut and "no kind is read"; then "kind is not 01 to 0C"; then "body cut short"
unfoldable pub decode : List ℕ → ℕ → Decoded
decode log at =
    cond (ltb at (length log))
    (cond (is_kind (get_or log at 0))
    (cond (leb (at + 1 + body_length (get_or log at 0)) (length log))
    (Ok (record_of (get_or log at 0) (body_at log at), at + 1 + body_length (get_or log at 0)))
    (Err Cut))
    (Err Unknown))
    (Err Cut)
