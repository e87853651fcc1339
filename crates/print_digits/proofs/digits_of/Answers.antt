use Rattle.std.proofs.Common.{ap, sym, arith, length}
use Rattle.print_page.specs.Laws.Text.{decimal_one}
use Rattle.print_digits.proofs.Written.{digits_counted}
use Rattle.print_digits.proofs.digits_of.Goals as goal

pub returns-then-n-lt10 : goal.returns-then-n-lt10
returns-then-n-lt10 c = (sym (ap length (decimal_one c.args.n c.if-n-lt10.true)), omega arith)

pub returns : goal.returns
returns c =
    let log = c.ilog10.ensures in
    (sym (digits_counted c.args.n c.ilog10.result (omega arith) log.power_le log.next_power_gt), omega (arith, log.bound))
