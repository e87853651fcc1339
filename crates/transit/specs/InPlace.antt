-- What the arrays of a `Mail` hold. Paper 01, "Names and places"; paper 02, change 4. Assumes nothing.
use Rattle.std.specs.Prelude.{List, ℕ}
use Rattle.transit.specs.Columns.{sent_in}
use Rattle.transit.specs.Mail.{messages_in, unread_in}
use Rattle.transit.specs.Unread.{Unread}
use Rattle.transit.specs.declared.Message.{Message}
use Rattle.transit.specs.declared.mail.Mail.{Mail}

-- the unread messages in order of sending
abbrev pub messages : Mail → List Message
messages m = messages_in m.slots m.contents

-- how many messages each pair has sent
abbrev pub sent : Mail → List ℕ
sent m = sent_in m.contents

-- the unread messages, counted, and what each pair has sent
abbrev pub unread : Mail → Unread
unread m = unread_in m.slots m.contents
