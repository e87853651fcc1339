-- The slots of a `Transit`: how many there are, and what a read past them would give.
-- Assumes nothing.
use mathlib.Core.Path.{◌≡◌}
use mathlib.Core.List.{List}
use lib.ListN.{length}
use mir.Val.{Val}
use denote.Laws.{Is}
use denote.Struct
use Rattle.transit.specs.contracts.Transit.{the_type}
use Rattle.transit.specs.Message.{message, rank}
use Rattle.transit.specs.declared.Message.{Message}
use Rattle.transit.specs.declared.Place.TheVariants.{SourceList}
use Rattle.transit.specs.declared.Transit.{Transit}

-- An owned `Transit` has 1,024 slots.
pub slots : (t : Transit) (vs : List Val) → Is (Struct.Declared.row the_type) t vs → length t.messages ≡ 1024
slots t vs good = good.1.1.0.1.0.1

-- What a read past the slots would give.
abbrev pub blank : Message
blank = message (rank 0) (rank 0) SourceList 0 0
