-- What a program writes that takes turns from the fresh state on is the printed run of what it reads. Paper 01, "The printed run".
-- Assumes nothing.
use Rattle.std.specs.Prelude.{Bool, true, List, [], ◌∷◌, ◌++◌, ◌≡◌, refl, ℕ, take}
use Rattle.std.proofs.Common.{append_assoc, append-nil, sym, ◌∙◌, arith}
use Rattle.record.specs.Record.{decode}
use Rattle.protocol.specs.Sound.{sound}
use Rattle.broker.specs.State.{State, fresh}
use Rattle.ordering.specs.Laws.Runs.{fresh_sound}
use Rattle.print_run.proofs.Laws.Pieces.{printed_is_left}
use Rattle.print_run.specs.Printed.{printed}
use Rattle.print_course.specs.Course.{Course, ShortOfEnd}
use Rattle.print_course.specs.Course.Course.{begun, reads, turns}
use Rattle.print_turn.specs.Laws.Turn.{left_behind, shows_prints}
use Rattle.print_turn.specs.Turn.{MayFollow, Shows, Over}
use Rattle.print_run.specs.Wholes.{left}
use Rattle.print_turn.specs.declared.Next.{Next}
use Rattle.print_turn.specs.declared.Next.TheVariants.{Again, Read, End, TooLong}
use Rattle.print_turn.specs.declared.Turned.{Turned}

-- The state stays sound.
pub course_sound :
    {read written : List ℕ} {s : State} {base : ℕ} {held : List ℕ} {done : Bool} → Course read written s base held done → sound s ≡ true
course_sound begun = fresh_sound
course_sound (reads x bytes) = course_sound x
course_sound (turns x shows more) = shows.ran.stays

-- Where a turn is not the last, what is left behind it is left to print.
goes_on : (next : Next) (base : ℕ) (s : State) (log : List ℕ) → (next ≡ End → ⊥) → left_behind next base s log ≡ left base s log
goes_on Again base s log go = refl
goes_on Read base s log go = refl
goes_on End base s log go = absurd (go refl)
goes_on TooLong base s log go = refl

-- What was written and what is left to print is the printed run of what was read and what follows.
course_prints : {read written : List ℕ} {s : State} {base : ℕ} {held : List ℕ} {done : Bool} → Course read written s base held done →
    (more : List ℕ) → MayFollow done more → written ++ left base s (held ++ more) ≡ printed fresh (read ++ more)
course_prints begun more may = sym (printed_is_left fresh more fresh_sound)
course_prints (reads {read = read} {held = held} x bytes) more may =
    rw (append_assoc held bytes more, append_assoc read bytes more) (course_prints x (bytes ++ more) (λ t. cc))
course_prints (turns {written = written} x {state} {held'} {r} {page} shows go) more may =
    rw (
      append_assoc written,
      ← goes_on r.next r.base state (held' ++ more) go,
      ← shows_prints shows (λ e. absurd (go e)) more may,
    )
    (course_prints x more may)

-- With the last turn all that is written is the printed run of all that was read, and whatever follows is no part of it.
pub course_ends : {read written : List ℕ} {s : State} {base : ℕ} {held : List ℕ} {done : Bool} → Course read written s base held done →
    {state : State} {held' : List ℕ} {r : Turned} {page : List ℕ} → Shows s held base state held' r page → r.next ≡ End →
    Over done (decode held' 0) → (more : List ℕ) → MayFollow done more → written ++ take r.used page ≡ printed fresh (read ++ more)
course_ends {read} {s = s} {base} {held} x {r = r} {page} shows e over more may =
    let all : left base s (held ++ more) ≡ take r.used page = shows_prints shows (λ _. over) more may ∙ rw (e, append-nil) in
    rw (← all) (course_prints x more may)

-- A program is at the input's end only behind a read that gave nothing: all that it has read was read before.
pub end_was_read : {read written : List ℕ} {s : State} {base : ℕ} {held : List ℕ} {done : Bool} → Course read written s base held done →
    done ≡ true → ShortOfEnd read
end_was_read begun e = let z : ◌≡◌ {A = ℕ} 0 1 = cc in absurd (omega arith)
end_was_read (reads {read} {written} {s} {base} {held} x []) e =
    rw (append-nil read) (record { written = written; state = s; base = base; held = held; course = x })
end_was_read (reads x (byte ∷ rest)) e = let z : ◌≡◌ {A = ℕ} 0 1 = cc in absurd (omega arith)
end_was_read (turns x shows go) e = end_was_read x e
