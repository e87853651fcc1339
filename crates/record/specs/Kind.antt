-- The numbers of the kinds, "Kinds are hexadecimal", and what stands in a body. Paper 01, "The step log".
-- Assumes nothing.
use Rattle.std.specs.Prelude.{Bool, false, ◌||◌, List, [], ◌∷◌, ℕ, ◌+◌, eqb}

abbrev pub start : ℕ
start = 0x01

abbrev pub call : ℕ
call = 0x02

abbrev pub route : ℕ
route = 0x03

abbrev pub send : ℕ
send = 0x04

abbrev pub take : ℕ
take = 0x05

abbrev pub move : ℕ
move = 0x06

abbrev pub heed : ℕ
heed = 0x07

abbrev pub drain : ℕ
drain = 0x08

abbrev pub land : ℕ
land = 0x09

abbrev pub part : ℕ
part = 0x0A

abbrev pub end : ℕ
end = 0x0B

abbrev pub look : ℕ
look = 0x0C

-- the kind is among the listed ones
abbrev pub one_of : List ℕ → ℕ → Bool
one_of [] k = false
one_of (x ∷ xs) k = eqb k x || one_of xs k

-- what stands in a body
pub data Field : Type 0 where
  rank_byte : Field
  host_byte : Field
  value_bytes : Field

-- "Ranks and hosts are one byte each; the value is four bytes"
abbrev pub field_length : Field → ℕ
field_length rank_byte = 1
field_length host_byte = 1
field_length value_bytes = 4

-- how long fields are in a row
abbrev pub fields_length : List Field → ℕ
fields_length [] = 0
fields_length (f ∷ fs) = field_length f + fields_length fs
