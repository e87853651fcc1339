use Rattle.std.proofs.Common.{refl, add-one, arith}
use Rattle.transit.specs.Columns.{columns_of}
use Rattle.transit.specs.Pick.{hits}
use Rattle.transit.specs.Laws.Columns.{pair_at, place_at}
use Rattle.transit.proofs.Laws.Passes.{one_if, one_at_most, hits_few}
use Rattle.transit_count.proofs.count_hits.Goals as goal

pub loop-i-init : goal.loop-i-init
unfolding hits
loop-i-init c = refl

pub overflow_add-n : goal.overflow_add-n
overflow_add-n c =
    let few = hits_few c.args.w (columns_of c.args.slots.now) c.loop-i.i in
    let hit = c.picks.result in
    omega (arith, few, c.loop-i.invariant, c.from-n.ensures, one_if hit, one_at_most hit)

pub loop-i-preserved : goal.loop-i-preserved
unfolding hits
loop-i-preserved c =
    let s = c.args.slots.now in
    let pair = pair_at s c.loop-i.i (omega arith) in
    let place = place_at s c.loop-i.i (omega arith) in
    rw (add-one, c.loop-i.invariant, c.from-n.ensures, one_if c.picks.result, c.picks.ensures, pair, place)
