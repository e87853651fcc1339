-- A run in one pass: the whole records of a log, and the step that ends it. Positions count from the input's start, and the log's first
-- byte stands at `base` there. Paper 01, "The printed run". Assumes nothing.
use Rattle.std.specs.Prelude.{Bool, true, false, cond, List, [], ◌∷◌, ◌++◌, ℕ, zero, suc, ◌+◌, ltb, length, get_or, Result, Ok, Err}
use Rattle.record.specs.Record.{is_kind, decode, Decoded}
use Rattle.broker.specs.State.{State}
use Rattle.protocol.specs.Step.{settle}
use Rattle.answer.specs.declared.Refusal.{Refusal}
use Rattle.answer.specs.declared.Values.{Values}
use Rattle.answer.specs.declared.Refusal.TheVariants.{UnknownKind, CutShort}
use Rattle.record.specs.declared.Fault.TheVariants.{Unknown, Cut}
use Rattle.print_run.specs.Printed.{text_of}
use Rattle.print_run.specs.Run.{Answered, Came, standing, behind}

-- a whole record stands at a position
abbrev pub is_whole : Decoded → Bool
is_whole (Ok (r, next)) = true
is_whole (Err Unknown) = false
is_whole (Err Cut) = false

-- the step at a position of a log, with its answer
abbrev pub answered_at : ℕ → List ℕ → ℕ → Result Values Refusal → Answered
answered_at base log at a = record { at = base + at; kind = get_or log at 0; answer = a }

-- why a run ends where no whole record stands
abbrev pub reason : Decoded → Refusal
reason (Ok (r, next)) = CutShort
reason (Err Unknown) = UnknownKind
reason (Err Cut) = CutShort

-- the same by the kind that stands there
abbrev pub reason_of : ℕ → Refusal
reason_of kind = cond (is_kind kind) CutShort UnknownKind

-- "It stops at the log's end without a line for it, or after a 2 or 3": the step that ends a run, where there is one
unfoldable pub closing : ℕ → List ℕ → ℕ → List Answered
closing base log at =
    cond (ltb at (length log)) (answered_at base log at (Err (reason (decode log at))) ∷ []) []

-- what whole records of a log have come to, as a run that ends there
abbrev pub ended : ℕ → List ℕ → Came → Came
ended base log c =
    record { state = c.state; at = base + c.at; answers = c.answers ++ closing base log c.at }

-- a whole record, and what follows it; nothing where none stands
abbrev pub on_read : ℕ → State → List ℕ → ℕ → (State → ℕ → Came) → Decoded → Came
on_read base s log at more (Ok (r, next)) =
    behind (answered_at base log at (settle r s).answer ∷ []) (more (settle r s).state next)
on_read base s log at more (Err Unknown) = standing s at
on_read base s log at more (Err Cut) = standing s at

-- the whole records from a position on, so many at most
unfoldable pub wholes : ℕ → ℕ → State → List ℕ → ℕ → Came
wholes base zero s log at = standing s at
wholes base (suc n) s log at = on_read base s log at (λ t k. wholes base n t log k) (decode log at)

-- all of them: no log has more records than bytes
abbrev pub all_wholes : ℕ → State → List ℕ → ℕ → Came
all_wholes base s log at = wholes base (length log) s log at

-- the run of a log to its end, in one pass
unfoldable pub run_from : ℕ → State → List ℕ → Came
run_from base s log = ended base log (all_wholes base s log 0)

-- what is left to print, of a log that is left to run
abbrev pub left : ℕ → State → List ℕ → List ℕ
left base s log = text_of (run_from base s log)
