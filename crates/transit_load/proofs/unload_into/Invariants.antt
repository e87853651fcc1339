-- The loop's invariant: what the slots before `i` hold stands in the first `n` of the value. Assumes nothing.
use Rattle.std.proofs.Common.{◌≡◌, length, take}
use Rattle.transit.specs.Columns.{columns_of}
use Rattle.transit.specs.Slots.{held, message_at}
use Rattle.transit_load.proofs.unload_into.Given as goal

abbrev pub invariant-loop-i : goal.invariant-loop-i
invariant-loop-i l =
    let c = columns_of l.mail.slots in
    let m = held (message_at c.places l.mail.contents) 0 (take l.i c.pairs) in
    record {
      long : length l.value.messages ≡ 1024;
      many : l.n ≡ length m;
      same : take l.n l.value.messages ≡ m;
    }
