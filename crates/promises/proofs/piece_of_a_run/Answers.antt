-- It is the contract of `run_piece`, in full. Assumes nothing.
use Rattle.promises.specs.Laws.Entries.{never_in_a_run}
use Rattle.promises.proofs.piece_of_a_run.Goals as goal

pub returns-clause-ran : goal.returns-clause-ran
returns-clause-ran c =
    let some = c.run_piece.ensures.ran in
    (some.answers, some.shown, never_in_a_run some.answers some.never_eighteen, λ ok. ((some.ran ok).counted, (some.ran ok).came))

pub returns-clause-inside : goal.returns-clause-inside
returns-clause-inside c = let some = c.run_piece.ensures.ran in (some.inside, some.fits)

pub returns-clause-room : goal.returns-clause-room
returns-clause-room c = c.run_piece.ensures.ran.keeps

pub returns-clause-page_full : goal.returns-clause-page_full
returns-clause-page_full c = λ e. rw e at c.run_piece.ensures.stops

pub returns-clause-kind_unknown : goal.returns-clause-kind_unknown
returns-clause-kind_unknown c = λ e. rw e at c.run_piece.ensures.stops

pub returns-clause-record_cut : goal.returns-clause-record_cut
returns-clause-record_cut c = λ e. rw e at c.run_piece.ensures.stops
