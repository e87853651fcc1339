-- The tag decides. Assumes nothing.
use Rattle.std.proofs.Common.{ne_eqb}
use Rattle.roster.specs.Numbers.{status_of}
use Rattle.roster_numbers.proofs.decode_standing.Goals as goal

pub returns-then-tag-eq0 : goal.returns-then-tag-eq0
unfolding status_of
returns-then-tag-eq0 c = rw c.if-tag-eq0.true

pub returns-then-tag-eq1 : goal.returns-then-tag-eq1
unfolding status_of
returns-then-tag-eq1 c = rw (c.if-tag-eq1.true, c.decode_vmid-vmid.ensures)

pub returns-then-tag-eq2 : goal.returns-then-tag-eq2
unfolding status_of
returns-then-tag-eq2 c = rw (c.if-tag-eq2.true, c.decode_vmid-vmid.ensures)

pub returns : goal.returns
unfolding status_of
returns c =
    rw (ne_eqb _ _ c.if-tag-eq0.false, ne_eqb _ _ c.if-tag-eq1.false, ne_eqb _ _ c.if-tag-eq2.false)
    (rw (c.decode_vmid-vmid.ensures, c.decode_vmid.ensures))
