-- Three senders compete for one receiver, which goes by its looks while others send, take and move, and while it moves itself: what it
-- takes is in the order of sending. Paper 02, change 6. Computed from the definitions. Assumes nothing.
use Rattle.std.specs.Prelude.{◌≡◌, true, false, List, [], ◌∷◌, ◌++◌, map, ℕ}
use Rattle.std.proofs.Common.{ap, ◌∙◌}
use Rattle.std.proofs.Math.Option.{none}
use Rattle.base.specs.Lists.{select}
use Rattle.transit.specs.Message.{message, rank, to}
use Rattle.transit.specs.declared.Message.{Message}
use Rattle.transit.specs.declared.Place.TheVariants.{EndList}
use Rattle.protocol.specs.Sound.{sound}
use Rattle.broker.specs.State.{State, fresh}
use Rattle.record.specs.declared.Record.{Record}
use Rattle.record.specs.declared.Record.TheVariants.{Start, Call, Route, Send, Take, Move, Heed, Drain, Land, Part, Look}
use Rattle.ordering.specs.Claim.{Reading, after, accepted}
use Rattle.ordering.specs.Laws.Runs.{fresh_sound, sound_after}
use Rattle.fairness.proofs.Laws.Served.{served}
use Rattle.fairness.specs.Sending.{letters, letters_sent}
use Rattle.fairness.specs.Served.{goes_by_looks, letters_taken, Served}
use Rattle.ordering.specs.Worked.Account.{Account, account, computed, computed_from, from_fresh, from_sound}
use Rattle.ordering.specs.Worked.Result.{whole, written}

abbrev run : List Record → List Reading
run = map (λ (r : Record). whole (written r))

-- Ranks 2, 0 and 1 each send rank 3 a message, in this order, and rank 0 sends one to rank 1. Rank 1 parts from rank 3, so that its message
-- is in the list while the older ones are on the lanes.
abbrev opening : List Record
opening =
    Start (rank 0) 0 ∷ Start (rank 1) 1 ∷ Start (rank 2) 2 ∷ Start (rank 3) 3 ∷
    Call (rank 0) (rank 3) ∷ Route (rank 0) (rank 3) ∷ Call (rank 1) (rank 3) ∷ Route (rank 1) (rank 3) ∷
    Call (rank 2) (rank 3) ∷ Route (rank 2) (rank 3) ∷ Call (rank 0) (rank 1) ∷ Route (rank 0) (rank 1) ∷
    Send (rank 2) (rank 3) 101 ∷ Send (rank 0) (rank 3) 102 ∷ Send (rank 1) (rank 3) 103 ∷ Send (rank 0) (rank 1) 50 ∷
    Part (rank 1) (rank 3) ∷ []

-- Rank 3 looks. Before it takes, rank 1 takes, rank 2 sends once more and rank 0 moves.
abbrev first_round : List Record
first_round =
    Look (rank 3) ∷ Take (rank 1) (rank 0) ∷ Send (rank 2) (rank 3) 104 ∷ Move (rank 0) 5 ∷ Take (rank 3) (rank 2) ∷ []

-- It looks twice and moves, with a message on the notice, and takes from the rank named when it has landed.
abbrev second_round : List Record
second_round =
    Look (rank 3) ∷ Look (rank 3) ∷ Move (rank 3) 6 ∷ Send (rank 2) (rank 3) 105 ∷ Heed (rank 2) (rank 3) ∷
    Drain (rank 3) (rank 2) ∷ Drain (rank 3) (rank 2) ∷ Drain (rank 3) (rank 2) ∷
    Drain (rank 3) (rank 0) ∷ Drain (rank 3) (rank 0) ∷ Land (rank 3) ∷ Take (rank 3) (rank 0) ∷ []

-- Two rounds more, and a look that no take follows.
abbrev later_rounds : List Record
later_rounds = Look (rank 3) ∷ Take (rank 3) (rank 1) ∷ Look (rank 3) ∷ Take (rank 3) (rank 2) ∷ Look (rank 3) ∷ []

abbrev rounds : List Reading
rounds = run (first_round ++ second_round ++ later_rounds)

-- the state in which the rounds begin
abbrev begin : State
begin = after fresh (run opening)

begin_sound : sound begin ≡ true
begin_sound = sound_after (run opening) fresh fresh_sound

-- What steps from it come to is computed.
comes_to : (xs : List Reading) → account begin xs ≡ computed_from (computed (run opening)).end xs
comes_to xs =
    from_sound begin xs begin_sound ∙ ap (λ (s : State). computed_from s xs) (ap (λ (t : Account). t.end) (from_fresh (run opening)))

abbrev sent : ℕ → ℕ → ℕ → Message
sent a value number = message (rank a) (rank 3) EndList value number

pub three_are_unread : select (to (rank 3)) (letters begin) ≡ sent 2 101 1 ∷ sent 0 102 1 ∷ sent 1 103 1 ∷ []
unfolding computed
three_are_unread = ap (λ (t : Account). select (to (rank 3)) (letters t.end)) (from_fresh (run opening))

pub goes_by_its_looks : goes_by_looks (rank 3) none (accepted begin rounds) ≡ true
unfolding computed
goes_by_its_looks = ap (λ (t : Account). goes_by_looks (rank 3) none t.steps) (comes_to rounds)

pub four_are_taken :
    letters_taken (rank 3) (accepted begin rounds) ≡ sent 2 101 1 ∷ sent 0 102 1 ∷ sent 1 103 1 ∷ sent 2 104 2 ∷ []
unfolding computed
four_are_taken = ap (λ (t : Account). letters_taken (rank 3) t.steps) (comes_to rounds)

-- The claim of it: what is unread at the end was sent since.
pub served_in_order : Served (rank 3) begin (accepted begin rounds) (after begin rounds)
served_in_order = served (rank 3) rounds begin begin_sound goes_by_its_looks

pub one_is_left : select (to (rank 3)) (letters (after begin rounds)) ≡ sent 2 105 3 ∷ []
unfolding computed
one_is_left = ap (λ (t : Account). select (to (rank 3)) (letters t.end)) (comes_to rounds)

pub two_were_sent : select (to (rank 3)) (letters_sent begin.unread.sent (accepted begin rounds)) ≡ sent 2 104 2 ∷ sent 2 105 3 ∷ []
unfolding computed
two_were_sent =
    ap (λ (t : Account). select (to (rank 3)) (letters_sent begin.unread.sent t.steps)) (comes_to rounds) ∙
    ap (λ (s : State). select (to (rank 3)) (letters_sent s.unread.sent (computed_from (computed (run opening)).end rounds).steps))
    (ap (λ (t : Account). t.end) (from_fresh (run opening)))

-- A receiver that takes from the lowest rank does not go by its look, nor does one that takes twice behind one look, nor one that takes
-- without a look.
pub lowest_is_not_named : goes_by_looks (rank 3) none (accepted begin (run (Look (rank 3) ∷ Take (rank 3) (rank 0) ∷ []))) ≡ false
unfolding computed
lowest_is_not_named =
    ap (λ (t : Account). goes_by_looks (rank 3) none t.steps) (comes_to (run (Look (rank 3) ∷ Take (rank 3) (rank 0) ∷ [])))

pub one_take_a_look :
    goes_by_looks (rank 3) none
    (accepted begin (run (Send (rank 2) (rank 3) 104 ∷ Look (rank 3) ∷ Take (rank 3) (rank 2) ∷ Take (rank 3) (rank 2) ∷ []))) ≡
    false
unfolding computed
one_take_a_look =
    ap (λ (t : Account). goes_by_looks (rank 3) none t.steps)
    (comes_to (run (Send (rank 2) (rank 3) 104 ∷ Look (rank 3) ∷ Take (rank 3) (rank 2) ∷ Take (rank 3) (rank 2) ∷ [])))

pub no_take_without_a_look : goes_by_looks (rank 3) none (accepted begin (run (Take (rank 3) (rank 2) ∷ []))) ≡ false
unfolding computed
no_take_without_a_look = ap (λ (t : Account). goes_by_looks (rank 3) none t.steps) (comes_to (run (Take (rank 3) (rank 2) ∷ [])))
