-- The refusal of a step where no record stands. Paper 01, "Where each step is checked".
-- Assumes nothing.
use Rattle.answer.specs.declared.Refusal.{Refusal}
use Rattle.answer.specs.declared.Refusal.TheVariants.{UnknownKind, CutShort}
use Rattle.record.specs.declared.Fault.{Fault}
use Rattle.record.specs.declared.Fault.TheVariants.{Unknown, Cut}

abbrev pub refusal_of : Fault → Refusal
refusal_of Unknown = UnknownKind
refusal_of Cut = CutShort
