-- The lines of a printed run. Paper 01, "The printed run". Assumes nothing.
use Rattle.std.specs.Prelude.{cond, List, [], ◌∷◌, ◌++◌, map, ℕ, zero, suc, eqb, Result}
use Rattle.base.specs.Lists.{tally}
use Rattle.transit.specs.Message.{between, picks, ranks, rank}
use Rattle.transit.specs.declared.Message.{Message}
use Rattle.transit.specs.declared.Place.{Place}
use Rattle.transit.specs.declared.Place.TheVariants.{SourceList, SourceChannel, EndList, Channel}
use Rattle.transit.specs.declared.Selection.TheVariants.{BetweenAt}
use Rattle.print_page.specs.Text.{decimal, hex, newline, numbers, space}
use Rattle.answer.specs.Answer.{number, values}
use Rattle.answer.specs.declared.Values.{Values}
use Rattle.answer.specs.declared.Refusal.{Refusal}

-- "per record: position, kind (two hexadecimal digits, upper case), number (0 when accepted), v1, v2, v3, decimal"
unfoldable pub record_line : ℕ → ℕ → Result Values Refusal → List ℕ
record_line position kind a =
    decimal position ++ (space ∷ hex kind) ++ numbers (number a ∷ values a) ++ (newline ∷ [])

-- the most bytes that a record's line takes: a position of 64 bits, the kind, four more numbers and the line's end
abbrev pub record_room : ℕ
record_room = 108

-- `pair`
abbrev pub pair_word : List ℕ
pair_word = 0x70 ∷ 0x61 ∷ 0x69 ∷ 0x72 ∷ []

-- "`pair`, sender, receiver, counts at places 0 to 3"
unfoldable pub pair_line : ℕ → ℕ → List ℕ → List ℕ
pair_line sender receiver counts = pair_word ++ numbers (sender ∷ receiver ∷ counts) ++ (newline ∷ [])

-- the most bytes that a pair's line takes: the word, six numbers and the line's end
abbrev pub pair_room : ℕ
pair_room = 131

-- how many messages from a to b are at each of the places 0 to 3
abbrev pub counts_at_places : List Message → ℕ → ℕ → List ℕ
counts_at_places l a b =
    map (λ (p : Place). tally (picks (BetweenAt (rank a) (rank b) p)) l) (SourceList ∷ SourceChannel ∷ EndList ∷ Channel ∷ [])

-- "each ordered pair with unread messages": the pair's line, and nothing where it has none
abbrev pub lines_of_pair : List Message → ℕ → ℕ → List ℕ
lines_of_pair l a b =
    cond (eqb (tally (between (rank a) (rank b)) l) 0) [] (pair_line a b (counts_at_places l a b))

-- the texts f 0, f 1, .. up to f (n - 1), one after the other
abbrev pub texts_below : ℕ → (ℕ → List ℕ) → List ℕ
texts_below zero f = []
texts_below (suc n) f = texts_below n f ++ f n

-- the lines of the pairs with a sender, "ascending by .. receiver"
abbrev pub lines_of_sender : List Message → ℕ → List ℕ
lines_of_sender l a = texts_below ranks (lines_of_pair l a)

-- "for each ordered pair with unread messages, ascending by sender and receiver"
unfoldable pub pair_lines : List Message → List ℕ
pair_lines l = texts_below ranks (lines_of_sender l)

-- "Then `end`."
abbrev pub end_line : List ℕ
end_line = 0x65 ∷ 0x6E ∷ 0x64 ∷ newline ∷ []

-- the bytes that it takes
abbrev pub end_room : ℕ
end_room = 4
