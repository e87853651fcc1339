-- The line of a refusal, by its numbers.
use Rattle.std.proofs.Common.{refl, Err, arith}
use Rattle.print_page.specs.Laws.Put.{reads}
use Rattle.print_lines.specs.Laws.Parts.{record_parts}
use Rattle.print_lines.proofs.refused_line.Goals as goal

pub returns : goal.returns
returns c =
    reads c.put_line.ensures (record_parts c.args.position c.args.kind (Err c.args.why) c.number.ensures refl) (omega arith)
