-- The loop's invariant: the pass stands before the messages that are left, with the answer still open. Assumes nothing.
use Rattle.std.proofs.Common.{drop}
use Rattle.transit.specs.Unread.{unread_of}
use Rattle.soundness_messages.specs.Laws.Pass.{MessagesPass}
use Rattle.soundness_messages.proofs.messages_sound.Given as goal

abbrev pub invariant-loop-m : goal.invariant-loop-m
invariant-loop-m l =
    MessagesPass l.processes l.links (unread_of l.fn.t) l.last l.numbers (drop l.m-index (unread_of l.fn.t).messages)
