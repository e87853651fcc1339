-- It is the contract of `turn`, in full. Assumes nothing.
use Rattle.promises.specs.Laws.Turn.{turn_in_full}
use Rattle.promises.proofs.turn_of_a_run.Goals as goal

pub returns-clause-turns : goal.returns-clause-turns
returns-clause-turns c = turn_in_full c.turn.ensures

pub returns-clause-exact : goal.returns-clause-exact
returns-clause-exact c = let turned = c.turn.ensures in (turned.exact, turned.holds, turned.fits)

pub returns-clause-room : goal.returns-clause-room
returns-clause-room c = c.turn.ensures.keeps
