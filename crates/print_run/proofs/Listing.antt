-- The listing of paper 01, "The printed run", with the running numbers of paper 02, change 4, computed from the definitions.
-- Assumes nothing.
use Rattle.std.specs.Prelude.{◌≡◌, List, [], ◌∷◌, ℕ}
use Rattle.std.proofs.Common.{ap, ◌∙◌}
use Rattle.print_page.specs.Ascii.{ascii_lines}
use Rattle.broker.specs.State.{fresh}
use Rattle.ordering.specs.Worked.Listing.{log}
use Rattle.ordering.specs.Laws.Runs.{fresh_sound}
use Rattle.print_run.proofs.Laws.Pieces.{printed_in_pieces}
use Rattle.print_run.specs.Pieces.{Turn, all_bytes, in_pieces}
use Rattle.print_run.specs.Printed.{text_of, printed}
use Rattle.print_run.proofs.Shown.{shown, prints_shown}

abbrev pub text : List ℕ
text =
    ascii_lines
    ("0 01 0 0 1 0" ∷
    "3 01 0 1 1 0" ∷
    "6 02 0 1 1 0" ∷
    "9 03 0 0 1 1" ∷
    "12 04 0 1 0 0" ∷
    "19 06 0 2 1 1" ∷
    "22 04 0 2 0 0" ∷
    "29 07 0 0 0 0" ∷
    "32 02 0 1 1 0" ∷
    "35 03 0 1 2 1" ∷
    "38 03 0 0 2 1" ∷
    "41 04 0 3 0 0" ∷
    "48 09 19 0 0 0" ∷
    "50 08 0 0 500 1" ∷
    "53 08 0 0 501 2" ∷
    "56 08 0 1 0 0" ∷
    "59 09 0 2 0 0" ∷
    "61 05 0 500 2 1" ∷
    "pair 0 1 0 0 1 1" ∷
    "end" ∷ [])

-- The listing's log prints the listing.
pub listing_prints : printed fresh log ≡ text
unfolding shown
listing_prints = prints_shown log

-- It does so in whatever pieces it is read.
pub listing_in_pieces :
    (ts : List Turn) → all_bytes ts ≡ log → text_of (in_pieces 0 fresh [] ts) ≡ text
listing_in_pieces ts e =
    printed_in_pieces ts fresh fresh_sound ∙ ap (printed fresh) e ∙ listing_prints
