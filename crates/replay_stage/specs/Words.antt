-- What the program says as it ends, on standard error. Assumes nothing.
use Rattle.std.specs.Prelude.{List, [], ◌∷◌, ℕ}
use Rattle.print_page.specs.Ascii.{ascii_lines}
use Rattle.replay_stage.specs.declared.Ending.{Ending}
use Rattle.replay_stage.specs.declared.Ending.TheVariants.{Over, Unwritten, Unread, TooLong}

-- the words for each ending; a run that is over has none, as its last line says so
abbrev pub words_of : Ending → List ℕ
words_of Over = []
words_of Unwritten = ascii_lines ("replay: standard output cannot be written" ∷ [])
words_of Unread = ascii_lines ("replay: standard input cannot be read" ∷ [])
words_of TooLong = ascii_lines ("replay: standard input is too long" ∷ [])

-- the bytes that the longest of them takes
abbrev pub words_room : ℕ
words_room = 42
