-- The line of an answer, by its numbers.
use Rattle.std.proofs.Common.{ap, sym, arith}
use Rattle.answer.specs.Answer.{number, values}
use Rattle.print_page.specs.Laws.Put.{reads}
use Rattle.print_lines.specs.Laws.Parts.{record_parts}
use Rattle.print_lines.proofs.record_line.Goals as goal

pub returns-in-Ok : goal.returns-in-Ok
returns-in-Ok c =
    let known = sym c.in-Ok.is in
    reads c.put_line.ensures (record_parts c.args.position c.args.kind c.args.answer (ap number known) (ap values known)) (omega arith)
