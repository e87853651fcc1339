-- Four puts in a row.
use Rattle.std.proofs.Common.{refl, arith}
use Rattle.print_page.specs.Laws.Put.{◌and◌, reads}
use Rattle.print_lines.proofs.put_line.Goals as goal

pub returns : goal.returns
returns c = reads (c.put_decimal.ensures and c.hex.ensures and c.put_numbers.ensures and c.byte.ensures) refl (omega arith)
