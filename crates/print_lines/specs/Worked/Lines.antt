-- Worked lines: of records, and of pairs in their order. Computed from the definitions. Assumes nothing.
use Rattle.std.specs.Prelude.{◌≡◌, refl, List, [], ◌∷◌, ◌++◌, ℕ, Ok, Err}
use Rattle.transit.specs.declared.Message.{Message}
use Rattle.transit.specs.declared.Place.{Place}
use Rattle.transit.specs.declared.Place.TheVariants.{SourceList, SourceChannel, EndList, Channel}
use Rattle.print_page.specs.Ascii.{ascii_lines}
use Rattle.print_page.specs.Text.{decimal}
use Rattle.transit.specs.Message.{message, rank}
use Rattle.answer.specs.Answer.{three}
use Rattle.answer.specs.declared.Refusal.TheVariants.{UnknownKind}
use Rattle.print_lines.specs.Lines.{record_line, pair_line, pair_lines}

-- a message from a to b with a running number, at a place
abbrev unread : ℕ → ℕ → ℕ → Place → Message
unread a b n p = message (rank a) (rank b) p 7 n

-- in order of sending
abbrev messages : List Message
messages =
    unread 1 0 1 Channel ∷
    unread 0 12 1 EndList ∷
    unread 0 1 1 SourceList ∷
    unread 0 1 2 SourceChannel ∷
    unread 0 1 3 SourceChannel ∷ []

-- "ascending by sender and receiver"
pub pairs_ascend :
    pair_lines messages ≡ ascii_lines ("pair 0 1 1 2 0 0" ∷ "pair 0 12 0 0 1 0" ∷ "pair 1 0 0 0 0 1" ∷ [])
unfolding pair_lines pair_line decimal
pairs_ascend = refl

-- "kind (two hexadecimal digits, upper case), number (0 when accepted)"
pub record_lines :
    record_line 19 0x0A (Ok (three 0 1 0)) ++ record_line 307 0xBF (Err UnknownKind) ≡
    ascii_lines ("19 0A 0 0 1 0" ∷ "307 BF 2 0 0 0" ∷ [])
unfolding record_line decimal
record_lines = refl
