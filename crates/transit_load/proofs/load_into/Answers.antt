use Rattle.std.proofs.Common.{arith, ◌≡◌, refl, take_all}
use Rattle.transit.specs.Unread.{unread_of}
use Rattle.transit_load.proofs.load_into.Goals as goal

pub returns-clause-same : goal.returns-clause-same
returns-clause-same c =
    let t = c.args.t.now in
    let end : c.loop-i.i ≡ t.count = omega arith in
    let all = take_all t.count (unread_of t).messages (omega (arith, c.requires.counted)) in
    rw (c.loop-i.invariant.same, c.loop-i.invariant.counts, end, all, ← c.requires.counted) refl
