use Rattle.transit_load.proofs.empty.Goals as goal

pub invariant_of-result : goal.invariant_of-result
invariant_of-result c = record { kept = (c.empty_slots.ensures c.keep_counts.new.contents c.keep_counts.ensures.long).kept }

pub returns-clause-none : goal.returns-clause-none
returns-clause-none c = (c.empty_slots.ensures c.keep_counts.new.contents c.keep_counts.ensures.long).same

pub returns-clause-packed : goal.returns-clause-packed
returns-clause-packed c = (c.empty_slots.ensures c.keep_counts.new.contents c.keep_counts.ensures.long).packed
