-- The loop's invariant: the slots hold the first `i` messages. Assumes nothing.
use Rattle.std.proofs.Common.{◌≡◌, take}
use Rattle.transit.specs.Columns.{columns_of}
use Rattle.transit.specs.InPlace.{messages, sent}
use Rattle.transit.specs.Unread.{unread_of}
use Rattle.transit_load.proofs.load_into.Given as goal

abbrev pub invariant-loop-i : goal.invariant-loop-i
invariant-loop-i l = record {
  same : messages l.mail ≡ take l.i (unread_of l.t).messages;
  counts : sent l.mail ≡ l.t.sent;
  packed : (columns_of l.mail.slots).tail ≡ l.i;
}
