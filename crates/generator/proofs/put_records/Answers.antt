use Rattle.std.proofs.Common.{refl, ◌∙◌, arith}
use Rattle.print_page.specs.Laws.Put.{◌then◌, nothing, as_text, at_most}
use Rattle.generator.specs.Laws.MadeUp.{one_more, one_more_leaves}
use Rattle.generator_record.specs.MadeUp.{made_log, log_leaves}
use Rattle.generator.proofs.put_records.Goals as goal

pub loop-init : goal.loop-init
unfolding made_log log_leaves
loop-init c = (nothing, refl)

pub loop-preserved : goal.loop-preserved
loop-preserved c =
    let put = c.put_record-so_far.ensures in
    let inv = c.loop.invariant in
    let made = c.loop.counter in
    let both = inv.0 then put.put in
    let text = as_text (rw inv.1 at both) (one_more made c.args.word) in
    (at_most text (omega arith), rw inv.1 at put.left ∙ one_more_leaves made c.args.word)
