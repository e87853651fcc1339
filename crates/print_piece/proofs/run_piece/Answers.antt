use Rattle.std.proofs.Common.{refl, sym, ◌∙◌, add-one, arith}
use Rattle.record.specs.Laws.Record.{at_end_lem}
use Rattle.desk.specs.Desk.{state_of}
use Rattle.print_piece.specs.Laws.Ran.{some_none, some_more}
use Rattle.print_run.specs.Laws.Window.{stands}
use Rattle.print_piece.proofs.run_piece.Goals as goal

pub loop-at-init : goal.loop-at-init
loop-at-init c =
    (some_none (state_of c.args.desk.now) c.args.piece.now c.args.base c.args.page.now, refl)

pub loop-at-smaller : goal.loop-at-smaller
loop-at-smaller c =
    let there = stands c.args.piece.now c.loop-at.at (sym c.decode.ensures ∙ c.in-Ok.is) in
    omega arith

pub loop-at-preserved : goal.loop-at-preserved
loop-at-preserved c =
    let whole = sym c.decode.ensures ∙ c.in-Ok.is in
    let line = c.record_line.ensures in
    let ran = some_more c.loop-at.invariant.0 _ _ whole _ c.settle-answer.ensures _ _ line.put (omega arith) in
    (rw (add-one c.loop-at.steps) ran, line.same ∙ c.loop-at.invariant.1)

pub returns-clause-stops : goal.returns-clause-stops
returns-clause-stops c = at_end_lem c.args.piece.now c.loop-at.at (omega arith)
