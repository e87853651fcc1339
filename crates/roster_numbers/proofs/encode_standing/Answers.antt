use Rattle.std.proofs.Common.{sym}
use Rattle.roster.specs.Laws.Numbers.{status_zero, running_back, ended_back, migrating_back}
use Rattle.roster_numbers.proofs.encode_standing.Goals as goal

pub returns-in-Unstarted : goal.returns-in-Unstarted
returns-in-Unstarted c = rw status_zero (sym c.in-Unstarted.is)

pub returns-in-Running : goal.returns-in-Running
returns-in-Running c = rw (running_back c.encode_vmid.result, c.encode_vmid.ensures.result_value) (sym c.in-Running.is)

pub returns-in-Ended : goal.returns-in-Ended
returns-in-Ended c =
    let v = c.encode_vmid-in-Ended in
    rw (ended_back v.result, v.ensures.result_value) (sym c.in-Ended.is)

pub returns-in-Migrating : goal.returns-in-Migrating
returns-in-Migrating c =
    let source = c.encode_vmid-in-Migrating in
    let target = c.encode_vmid-in-Migrating-2 in
    rw
    (migrating_back source.result target.result source.ensures.small, source.ensures.result_value, target.ensures.result_value)
    (sym c.in-Migrating.is)
