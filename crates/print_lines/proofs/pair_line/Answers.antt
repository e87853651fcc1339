-- Three puts in a row, whose texts are the parts of the line.
use Rattle.std.proofs.Common.{arith}
use Rattle.print_page.specs.Laws.Put.{◌and◌, reads}
use Rattle.print_lines.specs.Laws.Parts.{pair_of_four}
use Rattle.print_lines.proofs.pair_line.Goals as goal

pub returns : goal.returns
returns c =
    reads (c.text.ensures and c.put_numbers.ensures and c.byte.ensures)
    (pair_of_four c.args.a c.args.b c.args.counts.now c.told-counts) (omega arith)
