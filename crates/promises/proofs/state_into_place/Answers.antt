-- It is the contract of `load`, in full. Assumes nothing.
use Rattle.promises.proofs.state_into_place.Goals as goal

pub returns-clause-refused : goal.returns-clause-refused
returns-clause-refused c = λ e. rw e at c.load.ensures

pub returns-clause-tells : goal.returns-clause-tells
returns-clause-tells c = λ d e. (rw e at c.load.ensures).0

pub returns-clause-holds : goal.returns-clause-holds
returns-clause-holds c = λ d e. (rw e at c.load.ensures).1
