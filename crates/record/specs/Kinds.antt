-- The kinds and their numbers, "Kinds are hexadecimal". Paper 01, "The step log". Assumes nothing.
use Rattle.std.specs.Prelude.{◌≡◌, false, ℕ, Result, Ok, Err}
use Rattle.record.specs.Kind
use Rattle.record.specs.Record.{is_kind}
use Rattle.record.specs.declared.Fault.{Fault}
use Rattle.record.specs.declared.Fault.TheVariants.{Unknown}
use Rattle.record.specs.declared.kind.Kind.{Kind}
use Rattle.record.specs.declared.kind.Kind.TheVariants.{Start, Call, Route, Send, Take, Move, Heed, Drain, Land, Part, End, Look}

abbrev pub number_of : Kind → ℕ
number_of Start = Kind.start
number_of Call = Kind.call
number_of Route = Kind.route
number_of Send = Kind.send
number_of Take = Kind.take
number_of Move = Kind.move
number_of Heed = Kind.heed
number_of Drain = Kind.drain
number_of Land = Kind.land
number_of Part = Kind.part
number_of End = Kind.end
number_of Look = Kind.look

-- a byte is read as the kind that has this number, or as none where no kind has it
abbrev pub Reads : ℕ → Result Kind Fault → Type 0
Reads byte (Ok kind) = number_of kind ≡ byte
Reads byte (Err fault) = (fault ≡ Unknown) × (is_kind byte ≡ false)
