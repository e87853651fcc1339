-- A call is the row of its kind. Assumes nothing.
use Rattle.std.proofs.Common.{refl}
use Rattle.record.specs.Record.{record_of}
use Rattle.record.proofs.decode.record_of.Goals as goal

pub returns-in-Call : goal.returns-in-Call
unfolding record_of
returns-in-Call c = rw c.in-Call.is refl
