use Rattle.std.proofs.Common.{sym, arith}
use Rattle.roster.specs.Laws.Numbers.{request_zero, posted_back}
use Rattle.roster_numbers.proofs.encode_request.Goals as goal

pub returns-in-None : goal.returns-in-None
returns-in-None c = rw request_zero (sym c.in-None.is)

pub returns-in-Some : goal.returns-in-Some
returns-in-Some c =
    let v = c.encode_vmid in
    rw (posted_back c.in-Some.q.to.0 v.result (omega arith), v.ensures.result_value) (sym c.in-Some.is)
