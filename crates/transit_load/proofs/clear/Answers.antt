use Rattle.transit_load.proofs.clear.Goals as goal

-- The slots are empty, and the counts are kept.
pub returns : goal.returns
returns c =
    let kept = c.keep_counts.ensures in
    rw kept.same at (c.empty_slots.ensures c.keep_counts.new.contents kept.long)
