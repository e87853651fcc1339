-- The laws of the course say what a turn and a read do to where the program stands. Assumes nothing.
use Rattle.std.proofs.Common.{◌+◌, ◌-◌, ◌≤◌, arith, length, refl, rules}
use borrow.Rule.Slice.PartMut.{mid_of, put_mid, same_len_mid}
use Rattle.std.proofs.lemmas.Slice.{take-put_mid_below}
use Rattle.replay_course.specs.Laws.Course.{runs_begun, runs_turn, runs_read}
use Rattle.replay.proofs.main.Goals as goal

pub loop-buffer-init : goal.loop-buffer-init
loop-buffer-init c =
    rw (c.begun-stage.ensures, c.fresh-desk.ensures) (runs_begun _ _ refl refl)

pub loop-buffer-preserved-in-Turn : goal.loop-buffer-preserved-in-Turn
loop-buffer-preserved-in-Turn c =
    rw c.after_write-stage.ensures (runs_turn c.loop-buffer.invariant c.in-Turn.is c.take_turn-turned.ensures c.is_ok-wrote.result)

-- What is held stands in front of what is read.
pub loop-buffer-preserved : goal.loop-buffer-preserved
loop-buffer-preserved c =
    let inv = c.loop-buffer.invariant in
    let held = c.loop-buffer.stage.held in
    let buffer = c.loop-buffer.buffer in
    let bytes = c.read-got.new.buf in
    let same = take-put_mid_below held (65536 - held) buffer bytes held (omega arith) (omega (arith, inv.long.0, inv.room)) in
    let long = same_len_mid held (65536 - held) buffer bytes c.read-got.auto.buf in
    let lent = length (mid_of held (65536 - held) (put_mid held (65536 - held) buffer bytes)) in
    let within : held + lent ≤ 65536 = search rules in
    rw c.take_in-stage.ensures (runs_read inv c.in-Read.is _ same long c.read-got.result lent within)
