use Rattle.std.proofs.Common.{arith, ◌≡◌}
use Rattle.transit.specs.Laws.Loads.{empty_slot, empty_pair, emptied}
use Rattle.transit.specs.Message.{cells}
use Rattle.transit_load.proofs.empty_slots.Goals as goal

pub loop-i-preserved : goal.loop-i-preserved
loop-i-preserved c = empty_slot c.loop-i.invariant (omega arith)

pub loop-p-preserved : goal.loop-p-preserved
loop-p-preserved c = empty_pair c.loop-p.invariant (omega arith)

pub returns : goal.returns
returns c =
    let end : c.loop-p.p ≡ cells = omega arith in
    λ v long. emptied v (rw end at c.loop-p.invariant) long
