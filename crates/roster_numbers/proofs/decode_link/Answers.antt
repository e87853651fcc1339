use Rattle.roster.specs.Numbers.{link_of}
use Rattle.roster_numbers.proofs.decode_link.Goals as goal

pub returns : goal.returns
unfolding link_of
returns c = rw (c.decode_await-backlog.ensures, c.decode_line-connection.ensures)
