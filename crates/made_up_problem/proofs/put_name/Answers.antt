-- Each arm has its text.
use Rattle.std.proofs.Common.{arith}
use Rattle.print_page.specs.Laws.Put.{at_most}
use Rattle.made_up_problem.proofs.put_name.Goals as goal

pub returns-in-Seed : goal.returns-in-Seed
returns-in-Seed c = rw c.in-Seed.is (at_most c.put_text.ensures (omega arith))

pub returns-in-Count : goal.returns-in-Count
returns-in-Count c = rw c.in-Count.is (at_most c.put_text-in-Count.ensures (omega arith))
