-- Each arm has its text.
use Rattle.std.proofs.Common.{arith}
use Rattle.print_page.specs.Laws.Put.{at_most}
use Rattle.made_up_problem.proofs.put_fault.Goals as goal

pub returns-in-NoNumber : goal.returns-in-NoNumber
returns-in-NoNumber c = rw c.in-NoNumber.is (at_most c.put_text.ensures (omega arith))

pub returns-in-Seed : goal.returns-in-Seed
returns-in-Seed c = rw (c.in-TooLarge.is, c.in-Seed.is) (at_most c.put_text-in-Seed.ensures (omega arith))

pub returns-in-Count : goal.returns-in-Count
returns-in-Count c = rw (c.in-TooLarge.is, c.in-Count.is) (at_most c.put_text-in-Count.ensures (omega arith))

pub returns-in-TooLong : goal.returns-in-TooLong
returns-in-TooLong c = rw c.in-TooLong.is (at_most c.put_text-in-TooLong.ensures (omega arith))
