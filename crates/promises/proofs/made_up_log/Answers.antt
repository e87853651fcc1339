-- It is the contract of the maker that is called, by cases. Assumes nothing.
use Rattle.promises.specs.Laws.Entries.{makes_so}
use Rattle.promises.proofs.made_up_log.Goals as goal

pub returns : goal.returns
returns c = makes_so c.args.buffer.now _ c.args.seed c.args.n _ c.made_up.ensures
