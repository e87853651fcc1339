-- The library's digits end where they are to end, so that they begin behind what was used.
use Rattle.std.proofs.Common.{◌≡◌, arith}
use Rattle.print_page.specs.Laws.Put.{at_most, stands_behind}
use Rattle.print_page.specs.Text.{decimal}
use Rattle.print_digits.proofs.Written.{as_written}
use Rattle.print_digits.proofs.write_decimal.Goals as goal

pub write_digits-requires : goal.write_digits-requires
write_digits-requires c =
    let count = c.digits_of.ensures in
    rw (as_written c.args.n (omega arith)) (omega (arith, count.0), omega (arith, count.1))

pub returns : goal.returns
returns c =
    let count = c.digits_of.ensures in
    let wrote = rw (as_written c.args.n (omega arith)) at c.write_digits.ensures in
    let begins : c.write_digits.result ≡ c.args.used = omega (arith, wrote.start, count.0) in
    let front = rw begins at wrote.before in
    let behind = rw (begins, count.0) at wrote.written in
    let put = stands_behind (decimal c.args.n) (omega (arith, count.0, count.1)) front behind in
    rw count.0 (at_most put (omega (arith, count.0, count.1)))
