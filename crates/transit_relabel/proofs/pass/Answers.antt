use Rattle.std.proofs.Common.{arith, rules, cond, ◌≡◌, ◌+◌, length, get_or}
use Rattle.transit.specs.Columns.{PLACES, slots_length}
use Rattle.transit.proofs.Laws.Passes.{one_if, one_at_most, pass_start, pass_next}
use Rattle.transit_relabel.proofs.pass.Goals as goal
use Rattle.transit_relabel.proofs.pass.Goals.{then-hit, else-hit}

pub loop-i-init : goal.loop-i-init
loop-i-init c =
    let long : length c.args.slots.now ≡ slots_length = search rules in
    record { few = omega arith; passed = pass_start c.args.w c.args.to c.args.slots.now long }

pub loop-i-preserved : goal.loop-i-preserved
loop-i-preserved c =
    let here = c.loop-i in
    let hit = c.picks-hit.result in
    let stored : c.if-hit.slots ≡ cond hit c.args.to (get_or here.slots (PLACES + here.i) 0) =
    elim c.if-hit.branch [
      | then-hit w ↦ rw (w.slots-is, w.if-hit.true)
      | else-hit w ↦ rw (w.slots-is, w.if-hit.false)
    ] in
    record {
      few = omega (arith, here.invariant.few, c.from.ensures, one_if hit, one_at_most hit);
      passed = rw (stored, c.from.ensures, one_if hit, c.picks-hit.ensures) (pass_next (omega arith) here.invariant.passed);
    }
