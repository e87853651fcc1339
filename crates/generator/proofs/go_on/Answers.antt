-- The two checks in their order, and else the log at the buffer's front.
use Rattle.std.proofs.Common.{◌*◌, ◌≤◌, length, arith}
use Rattle.print_page.specs.Laws.Put.{at_front}
use Rattle.generator.specs.Laws.Answer.{is_written}
use Rattle.generator_record.specs.MadeUp.{longest}
use Rattle.generator.proofs.go_on.Goals as goal

pub returns : goal.returns
returns c =
    let put = c.put_records-used.ensures in
    let room : longest * c.args.n ≤ length c.args.buffer.now = omega arith in
    let front = at_front put.put room in
    rw (is_written c.args.word.0 c.args.n c.args.buffer.now c.if-word-eq0.false room, front.0, front.1, put.left)
