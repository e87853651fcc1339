use Rattle.std.proofs.Common.{ne_eqb}
use Rattle.roster.specs.Numbers.{request_of}
use Rattle.roster_numbers.proofs.decode_request.Goals as goal

pub returns-then-w-eq0 : goal.returns-then-w-eq0
unfolding request_of
returns-then-w-eq0 c = rw c.if-w-eq0.true

pub returns : goal.returns
unfolding request_of
returns c = rw (ne_eqb _ _ c.if-w-eq0.false, c.decode_vmid.ensures)
