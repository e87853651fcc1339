-- The name of an argument, and what is wrong with it behind that.
use Rattle.std.proofs.Common.{arith}
use Rattle.print_page.specs.Laws.Put.{◌then◌, at_most}
use Rattle.made_up_problem.proofs.put_problem.Goals as goal

pub returns-in-TooMany : goal.returns-in-TooMany
returns-in-TooMany c = rw c.in-TooMany.is (at_most c.put_text.ensures (omega arith))

pub returns-in-Missing : goal.returns-in-Missing
returns-in-Missing c = rw c.in-Missing.is (at_most (c.put_name-name.ensures then c.put_text-in-Missing.ensures) (omega arith))
