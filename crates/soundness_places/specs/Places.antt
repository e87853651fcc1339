-- What soundness says of one message by itself, by the parts of a state that it looks at. Paper 01, "Sound states". Assumes nothing.
use Rattle.std.specs.Prelude.{Bool, not, ◌&&◌, ◌||◌}
use Rattle.transit.specs.Message.{same_place}
use Rattle.transit.specs.declared.Message.{Message}
use Rattle.transit.specs.declared.Place.{Place}
use Rattle.transit.specs.declared.Place.TheVariants.{SourceList, SourceChannel, Channel}
use Rattle.broker.specs.Names.{is_started, is_migrating, is_live, is_closed, is_clear, is_unheeded}
use Rattle.broker.specs.declared.link.Link.{Link}
use Rattle.broker.specs.declared.process.Process.{Process}
use Rattle.broker.specs.declared.process.Status.{Status}

-- "While r's await of s is unheeded, messages from s to r are at places 0 and 1 only."
-- "Places 0 and 1 occur only for a moving receiver, place 1 only with an await, place 3 only with a line from receiver to sender."
abbrev pub place_fits : Place → Status → Link → Bool
place_fits p u back =
    (not (is_unheeded back.backlog) || same_place p SourceList || same_place p SourceChannel) &&
    ((not (same_place p SourceList || same_place p SourceChannel) || is_migrating u) &&
    (not (same_place p SourceChannel) || not (is_clear back.backlog)) &&
    (not (same_place p Channel) || not (is_closed back.connection)))

-- "Senders are started, receivers running or moving."
abbrev pub message_fits : Message → Process → Process → Link → Bool
message_fits m p q back =
    is_started p.status && is_live q.status && place_fits m.place q.status back
