-- By what is next, as the laws of a turn have it.
use Rattle.std.proofs.Common.{[], refl, sym, ◌∙◌, take, arith}
use Rattle.desk.specs.Desk.{state_of}
use Rattle.print_piece.specs.Laws.Ran.{ran_none}
use Rattle.print_turn.specs.Laws.Turn.{turn_on, turn_ends}
use Rattle.print_turn.proofs.turn.Goals as goal

pub returns-then-base-ge-FARTHEST : goal.returns-then-base-ge-FARTHEST
returns-then-base-ge-FARTHEST c =
    let held = take c.args.held c.args.buffer.now in
    record {
      shows = λ ok.
          record {
            steps = 0;
            at = 0;
            answers = [];
            ran = ran_none (state_of c.args.desk.now) held c.args.base ok;
            further = omega arith;
            rest = refl;
            shown = refl;
          };
      because = (c.if-base-ge-FARTHEST.true, refl, refl);
      exact = refl;
      holds = omega arith;
      fits = omega arith;
      keeps = (refl, refl);
    }

pub returns-in-End : goal.returns-in-End
returns-in-End c =
    let bounds = c.requires in
    let piece = c.run_piece-stopped.ensures in
    let end = c.run_end.ensures in
    let desk = c.run_piece-stopped.new.desk in
    let ends =
    turn_ends piece.ran c.keep_rest-kept.ensures bounds.0 bounds.2 c.if-base-ge-FARTHEST.false
    end.put.put (omega (arith, c.if-page-used-lt-ENDING.false)) (end.same _ desk.mail.kept)
    c.run_piece-stopped.result.stop c.args.done piece.stops (sym c.next_of-next.ensures ∙ c.in-End.is) in
    rw (c.page-in-End-1.given.1.1 (sym end.put.same)) ends

pub returns : goal.returns
returns c =
    let bounds = c.requires in
    let piece = c.run_piece-stopped.ensures in
    let on =
    turn_on piece.ran c.keep_rest-kept.ensures bounds.0 bounds.2 c.if-base-ge-FARTHEST.false
    c.run_piece-stopped.result.stop c.args.done piece.stops (λ e. c.in_default.not-End (c.next_of-next.ensures ∙ e)) in
    rw c.next_of-next.ensures on
