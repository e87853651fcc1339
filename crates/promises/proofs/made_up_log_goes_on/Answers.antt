-- It is the contract of the maker that is called, by cases. Assumes nothing.
use Rattle.promises.specs.Laws.Entries.{makes_so}
use Rattle.promises.proofs.made_up_log_goes_on.Goals as goal

pub returns : goal.returns
returns c = makes_so c.args.buffer.now _ c.args.word.0 c.args.n _ c.go_on.ensures
