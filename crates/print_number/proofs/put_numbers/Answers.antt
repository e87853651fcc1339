use Rattle.std.proofs.Common.{arith}
use Rattle.print_page.specs.Laws.Put.{◌and◌, reads}
use Rattle.print_page.specs.Laws.Text.{numbers_more}
use Rattle.print_number.proofs.put_numbers.Goals as goal

pub loop-n-preserved : goal.loop-n-preserved
loop-n-preserved g c =
    let one = numbers_more c.args.ns.now c.loop-n.n-index (omega (arith, c.told-ns)) in
    (reads (c.loop-n.invariant.0 and c.put_number.ensures) one (omega arith), omega arith)
