-- Each arm has its text, and the one refusal is 26.
use Rattle.std.proofs.Common.{◌≡◌, arith}
use Rattle.print_page.specs.Laws.Put.{at_most}
use Rattle.print_page.specs.Text.{decimal}
use Rattle.made_up_pass.specs.declared.Stop.TheVariants.{Refused, Unwritten}
use Rattle.made_up_pass.proofs.put_ending.Goals as goal

pub returns-in-Err-Refused : goal.returns-in-Err-Refused
unfolding decimal
returns-in-Err-Refused c =
    let arm = c.in-Err-Refused in
    let stop : arm.field-0 ≡ Refused arm.field-0-0 = rw arm.is at arm.field-0-is in
    let number = rw (arm.is, stop) at c.requires.told in
    rw (arm.is, stop, number) (at_most c.put_text.ensures (omega arith))

pub returns-in-Err-Unwritten : goal.returns-in-Err-Unwritten
returns-in-Err-Unwritten c =
    let arm = c.in-Err-Unwritten in
    let stop : arm.field-0 ≡ Unwritten = rw arm.is at arm.field-0-is in
    rw (arm.is, stop) (at_most c.put_text-in-Err-Unwritten.ensures (omega arith))
