-- A log that is run in pieces: what is run of a piece, and then the rest of the piece with all that follows it, is the run of the log.
-- Paper 01, "The printed run". Assumes nothing.
use Rattle.std.specs.Prelude.{◌≡◌, true, false, List, [], ◌∷◌, ◌++◌, ℕ, ◌+◌, ◌≤◌, length, drop, Err}
use Rattle.std.proofs.Common.{ap, sym, ◌∙◌, append_assoc, append-nil, add-zero, arith, length-append}
use Rattle.std.proofs.Math.ListN.{get_or-append}
use Rattle.std.proofs.lemmas.List.{drop-append-le}
use Rattle.record.specs.Record.{decode}
use Rattle.protocol.specs.Sound.{sound}
use Rattle.broker.specs.State.{State}
use Rattle.record.specs.declared.Fault.TheVariants.{Unknown}
use Rattle.print_run.proofs.Laws.Ending.{closing_by_kind, ended_dropped}
use Rattle.print_run.proofs.Laws.Steps.{run_is_one_pass}
use Rattle.print_run.specs.Laws.Wholes.{none_run, run_within, bound_is_free, in_a_row, all_dropped}
use Rattle.print_run.specs.Laws.Window.{unknown_inside, unknown_stays}
use Rattle.print_run.specs.Pieces.{Turn, all_bytes, in_pieces}
use Rattle.print_run.specs.Printed.{lines_of, last_lines, text_of, printed}
use Rattle.print_run.specs.Run.{Came, behind, run_log}
use Rattle.print_run.specs.Wholes.{is_whole, closing, wholes, all_wholes, ended, run_from, left}

-- What is run of a log from a position on is the run of what stands there.
from_there : (base : ℕ) (s : State) (log : List ℕ) (k : ℕ) → k ≤ length log →
    ended base log (all_wholes base s log k) ≡ run_from (base + k) s (drop k log)
unfolding run_from
from_there base s log k room =
    ap (ended base log) (rw (add-zero k) at (all_dropped base log k room s 0)) ∙
    ended_dropped base log k room (all_wholes (base + k) s (drop k log) 0)

-- The law of pieces: some whole records of a piece, and then the run of the rest of it with all that follows, is the run of all.
pub piece_first : (base n : ℕ) (s : State) (piece more : List ℕ) → let w = wholes base n s piece 0 in
    run_from base s (piece ++ more) ≡ behind w.answers (run_from (base + w.at) w.state (drop w.at piece ++ more))
unfolding run_from
piece_first base n s piece more =
    let log = piece ++ more in
    let w = wholes base n s piece 0 in
    let room : w.at ≤ length piece = run_within base piece n s 0 (omega arith) in
    let all = bound_is_free base log (length log) (length w.answers + length log) s 0 (omega arith) (omega arith) in
    let rest = from_there base w.state log w.at (omega (arith, length-append piece more)) in
    ap (ended base log) (all ∙ in_a_row base piece more (length log) n s 0) ∙
    rw append_assoc (ap (behind w.answers) (rw (drop-append-le w.at piece more room) at rest))

-- A run in pieces is the run of the whole log, whatever the pieces are and however many records are run of each.
in_pieces_lem : (ts : List Turn) (base : ℕ) (s : State) (held : List ℕ) →
    in_pieces base s held ts ≡ run_from base s (held ++ all_bytes ts)
in_pieces_lem [] base s held = rw append-nil
in_pieces_lem (t ∷ ts) base s held =
    let log = held ++ t.bytes in
    let w = wholes base t.most s log 0 in
    ap (behind w.answers) (in_pieces_lem ts (base + w.at) w.state (drop w.at log)) ∙
    sym (piece_first base t.most s log (all_bytes ts)) ∙
    ap (run_from base s) (append_assoc held t.bytes (all_bytes ts))

-- So it is the run of the whole log by steps: every answer, the position and the state.
pub run_in_pieces :
    (ts : List Turn) (s : State) → sound s ≡ true → in_pieces 0 s [] ts ≡ run_log (length (all_bytes ts)) s (all_bytes ts) 0
run_in_pieces ts s h = in_pieces_lem ts 0 s [] ∙ sym (run_is_one_pass (all_bytes ts) s h)

-- It prints what the run of the whole log prints.
pub printed_in_pieces :
    (ts : List Turn) (s : State) → sound s ≡ true → text_of (in_pieces 0 s [] ts) ≡ printed s (all_bytes ts)
printed_in_pieces ts s h = ap text_of (run_in_pieces ts s h)

-- All that the run of a log prints is left to print before it begins.
pub printed_is_left : (s : State) (log : List ℕ) → sound s ≡ true → printed s log ≡ left 0 s log
printed_is_left s log h = ap text_of (run_is_one_pass log s h)

-- Where no whole record stands, the last lines are left to print, behind the step that ends the run.
pub left_over : (base : ℕ) (s : State) (log : List ℕ) → is_whole (decode log 0) ≡ false →
    left base s log ≡ lines_of (closing base log 0) ++ last_lines s
unfolding run_from
left_over base s log h = ap (λ (c : Came). text_of (ended base log c)) (none_run base log (length log) s 0 h)

-- Behind a kind that is none it does not matter what follows.
pub unknown_ends :
    (base : ℕ) (s : State) (held more : List ℕ) → decode held 0 ≡ Err Unknown → left base s (held ++ more) ≡ left base s held
unknown_ends base s held more e =
    let inside = unknown_inside held 0 e in
    let last = closing_by_kind base held 0 inside in
    let all = closing_by_kind base (held ++ more) 0 (omega (arith, length-append held more)) in
    rw (left_over base s (held ++ more) (ap is_whole (unknown_stays held more 0 e)), left_over base s held (ap is_whole e), all, last)
    (rw (get_or-append held more 0 0 inside))
