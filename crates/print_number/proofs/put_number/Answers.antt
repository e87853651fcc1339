-- Two puts in a row, of which the second is one byte where there is one digit.
use Rattle.std.proofs.Common.{refl, arith}
use Rattle.print_page.specs.Laws.Put.{◌and◌, reads}
use Rattle.print_page.specs.Laws.Text.{decimal_one}
use Rattle.print_number.proofs.put_number.Goals as goal

pub returns-then-n-lt10 : goal.returns-then-n-lt10
returns-then-n-lt10 c =
    rw (decimal_one c.args.n c.if-n-lt10.true) (reads (c.byte.ensures and c.byte-then-n-lt10.ensures) refl (omega arith))
