-- The kind, and the body behind it.
use Rattle.print_page.specs.Laws.Put.{◌then◌}
use Rattle.generator_record.specs.MadeUp.{made_record, record_leaves}
use Rattle.generator_record.proofs.put_record.Goals as goal

pub returns-clause-put : goal.returns-clause-put
unfolding made_record
returns-clause-put c =
    rw (c.body_of.ensures, c.draw-word.ensures) at (c.put_byte-used.ensures then c.put_body.ensures.put)

pub returns-clause-left : goal.returns-clause-left
unfolding record_leaves
returns-clause-left c = rw (c.body_of.ensures, c.draw-word.ensures) at c.put_body.ensures.left
