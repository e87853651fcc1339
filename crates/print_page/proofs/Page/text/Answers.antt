use Rattle.std.proofs.Common.{refl, arith}
use Rattle.print_page.specs.Laws.Put.{copied}
use Rattle.print_page.proofs.Page.text.Goals as goal

pub returns : goal.returns
returns c = record { same = refl; put = rw c.copy_from_slice.ensures.after (copied c.args.text.now (omega arith) (omega arith)) }
