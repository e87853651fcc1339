-- The made-up pass: the log of so many records from one number. Paper 02, change 1. A seed is the first word. Assumes nothing.
use Rattle.std.specs.Prelude.{List, [], ◌∷◌, ◌++◌, ℕ, zero, suc, ◌+◌, ◌%◌}
use Rattle.transit.specs.Message.{ranks}
use Rattle.record.specs.Kind.{Field, rank_byte, host_byte, value_bytes}
use Rattle.broker.specs.Names.{hosts}
use Rattle.record.specs.Record.{fields_of, bytes_of}
use Rattle.generator_draw.specs.Draw.{draw}

-- "modulo 12": the kinds 01 to 0C, whatever kinds a later request adds
abbrev pub kinds : ℕ
kinds = 12

-- "7 times n bytes": the most that a record of these kinds takes
abbrev pub longest : ℕ
longest = 7

-- "modulo 16 for a rank and 8 for a host; a send's value is one whole draw": the bytes of a field that a drawn word gives
abbrev pub drawn : Field → ℕ → List ℕ
drawn rank_byte word = word % ranks ∷ []
drawn host_byte word = word % hosts ∷ []
drawn value_bytes word = bytes_of word

-- "One further draw gives each body byte in order": "Each draw steps the generator and uses the new word."
abbrev pub body : List Field → ℕ → List ℕ
body [] word = []
body (f ∷ fs) word = drawn f (draw word) ++ body fs (draw word)

-- the word that is left when the fields are drawn
abbrev pub body_leaves : List Field → ℕ → ℕ
body_leaves [] word = word
body_leaves (f ∷ fs) word = body_leaves fs (draw word)

-- "One draw gives the kind, 1 plus the draw modulo 12."
abbrev pub kind_drawn : ℕ → ℕ
kind_drawn word = 1 + draw word % kinds

-- a record: its kind and its body
unfoldable pub made_record : ℕ → List ℕ
made_record word = kind_drawn word ∷ body (fields_of (kind_drawn word)) (draw word)

-- the word that a record leaves
unfoldable pub record_leaves : ℕ → ℕ
record_leaves word = body_leaves (fields_of (kind_drawn word)) (draw word)

-- "a log of n records .. from the 32-bit xorshift generator", which stands at a word
unfoldable pub made_log : ℕ → ℕ → List ℕ
made_log zero word = []
made_log (suc n) word = made_record word ++ made_log n (record_leaves word)

-- the word that the log leaves
unfoldable pub log_leaves : ℕ → ℕ → ℕ
log_leaves zero word = word
log_leaves (suc n) word = log_leaves n (record_leaves word)
