-- The loop's invariant: the numbers so far are put. Assumes nothing.
use Rattle.std.proofs.Common.{◌*◌, ◌≤◌, take}
use Rattle.print_page.specs.Put.{Writes}
use Rattle.print_page.specs.Text.{numbers}
use Rattle.print_number.proofs.put_numbers.Given as goal

abbrev pub invariant-loop-n : goal.invariant-loop-n
invariant-loop-n g l = Writes (21 * l.n-index) l.initial.page (numbers (take l.n-index l.ns)) l.page × (l.n-index ≤ g.row.N)
