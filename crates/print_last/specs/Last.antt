-- What the last lines of a run are of: the messages that the lent slots hold. Paper 01, "The printed run". Assumes nothing.
use Rattle.std.specs.Prelude.{List, ◌≡◌, ℕ, ◌*◌, ◌+◌}
use Rattle.transit.specs.Mail.{IsMail, messages_in}
use Rattle.transit.specs.declared.Message.{Message}
use Rattle.print_page.specs.Put.{Writes}
use Rattle.print_page.specs.declared.Page.{Page}
use Rattle.print_lines.specs.Lines.{record_room, pair_room, end_room}
use Rattle.transit.specs.Message.{ranks}

-- a text is put on a page, and it is what is to be said of the messages that the slots hold, with whatever contents they hold them
pub record PutOf (most : ℕ) (page : Page) (slots : List ℕ) (said : List Message → List ℕ) (after : Page) : Type 0 where
  pub text : List ℕ
  pub put : Writes most page text after
  pub same : (contents : List ℕ) → IsMail slots contents → text ≡ said (messages_in slots contents)

-- the most bytes that the lines of a sender take
abbrev pub sender_room : ℕ
sender_room = pair_room * ranks

-- the most bytes that the last lines of a run take
abbrev pub last_room : ℕ
last_room = sender_room * ranks + end_room

-- the most bytes that they take behind the line that ends the run
abbrev pub ending_room : ℕ
ending_room = record_room + last_room
