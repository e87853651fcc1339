-- Laws of a run of a piece: it begins with no record, goes on record by record, and runs in a row are one run. Assumes nothing.
use Rattle.std.specs.Prelude.{◌≡◌, refl, true, List, [], ◌∷◌, ◌++◌, ℕ, suc, ◌+◌, ◌≤◌, length, drop, get_or, Ok}
use Rattle.std.proofs.Common.{sym, ◌∙◌, append-nil, add-zero, arith, length-append}
use Rattle.std.proofs.lemmas.List.{drop-append-le}
use Rattle.print_page.specs.Laws.Put.{shows}
use Rattle.print_page.specs.Put.{Put}
use Rattle.print_lines.specs.Lines.{record_line, record_room}
use Rattle.protocol.proofs.Laws.Restart.{never_eighteen}
use Rattle.record.specs.Record.{decode}
use Rattle.protocol.specs.Sound.{sound}
use Rattle.broker.specs.State.{State}
use Rattle.protocol.specs.Step.{Settlement, settle}
use Rattle.record.specs.declared.Record.{Record}
use Rattle.print_run.proofs.Laws.Steps.{settled_sound}
use Rattle.print_run.specs.Laws.Text.{lines_append}
use Rattle.print_run.specs.Laws.Wholes.{one_last, run_within, in_a_row, wholes_dropped}
use Rattle.print_run.specs.Laws.Window.{stands}
use Rattle.print_piece.specs.Ran.{NeverEighteenIn, Ran, RanSome}
use Rattle.print_run.specs.Run.{Answered}
use Rattle.print_run.specs.Wholes.{answered_at, wholes}

-- One whole record more is run.
ran_more : {s : State} {piece : List ℕ} {base steps : ℕ} {state : State} {at : ℕ} {answers : List Answered} →
    Ran s piece base steps state at answers → (r : Record) (next : ℕ) → decode piece at ≡ Ok (r, next) → let x = settle r state in
    Ran s piece base (suc steps) x.state next (answers ++ answered_at base piece at x.answer ∷ [])
ran_more {s} {piece} {base} {steps} {state} {at} {answers} i r next e =
    let more = rw (← i.came) at (one_last base piece steps s 0 r next) in
    record {
      came = sym (more e);
      counted = length-append answers _ ∙ omega (arith, i.counted);
      stays = settled_sound state piece at i.stays r next e;
    }

-- Before the first record nothing is run, and nothing is on the page.
pub ran_none : (s : State) (piece : List ℕ) (base : ℕ) → sound s ≡ true → Ran s piece base 0 s 0 []
unfolding wholes
ran_none s piece base ok = record { came = refl; counted = refl; stays = ok }

pub some_none : (s : State) (piece : List ℕ) (base : ℕ) (page : List ℕ) → RanSome s piece base (length page) s 0 0 0 page
some_none s piece base page =
    record {
      answers = [];
      shown = refl;
      never_eighteen = tt;
      ran = ran_none s piece base;
      inside = omega arith;
      fits = omega arith;
      keeps = refl;
      taken = omega arith;
      moved = omega arith;
    }

-- No answer has the number 18.
never_in : (answers : List Answered) → NeverEighteenIn answers
never_in [] = tt
never_in (a ∷ rest) = (never_eighteen a.answer, never_in rest)

-- A whole record more is run where the page has room for its line.
pub some_more : {s : State} {piece : List ℕ} {base room : ℕ} {state : State} {at used steps : ℕ} {page : List ℕ} →
    RanSome s piece base room state at used steps page → (r : Record) (next : ℕ) → decode piece at ≡ Ok (r, next) → (x : Settlement) →
    (sound state ≡ true → x ≡ settle r state) → (after : List ℕ) (end : ℕ) →
    Put record_room page used (record_line (base + at) (get_or piece at 0) x.answer) after end → used + record_room ≤ length page →
    RanSome s piece base room x.state next end (suc steps) after
some_more {piece = piece} {base} {at = at} i r next e x f after end p h =
    let there = stands piece at e in
    let last = answered_at base piece at x.answer ∷ [] in
    record {
      answers = i.answers ++ last;
      shown = rw (shows p h, i.shown, lines_append i.answers, append-nil);
      never_eighteen = never_in (i.answers ++ last);
      ran = λ ok. let before = i.ran ok in rw (f before.stays) (ran_more before r next e);
      inside = there.fits;
      fits = omega (arith, p.within, p.room);
      keeps = p.room ∙ i.keeps;
      taken = omega (arith, p.within, i.taken);
      moved = omega (arith, i.moved);
    }

-- What was run of a piece, and then of what is left of it with what follows, was run of both.
pub ran_on : {s : State} {piece : List ℕ} {base steps : ℕ} {state : State} {at : ℕ} {answers : List Answered} →
    Ran s piece base steps state at answers → (more : List ℕ) {steps' : ℕ} {state' : State} {at' : ℕ} {answers' : List Answered} →
    Ran state (drop at piece ++ more) (base + at) steps' state' at' answers' →
    Ran s (piece ++ more) base (steps + steps') state' (at + at') (answers ++ answers')
ran_on {s} {piece} {base} {steps} {state} {at} {answers} i more {steps'} {answers' = answers'} j =
    let room : at ≤ length piece = rw (← i.came) at (run_within base piece steps s 0 (omega arith)) in
    let first = rw (← i.came, i.counted) at (in_a_row base piece more steps' steps s 0) in
    let later = wholes_dropped base (piece ++ more) at (omega (arith, length-append piece more)) steps' state 0 in
    record {
      came = sym (first ∙ rw (rw (add-zero at, drop-append-le at piece more room) at later, ← j.came));
      counted = length-append answers answers' ∙ omega (arith, i.counted, j.counted);
      stays = j.stays;
    }
