-- A pair that has all but spent its running numbers: a state handed in, and the steps from it. Paper 02, change 4: "28 for a send when the
-- pair has already sent 4,294,967,295, tested after 25." Computed from the definitions. Assumes nothing.
use Rattle.std.specs.Prelude.{◌≡◌, refl, Bool, true, List, [], ◌∷◌, map, ℕ, eqb, set}
use Rattle.std.proofs.Common.{◌∙◌}
use Rattle.std.proofs.Math.Option.{none, some}
use Rattle.transit.specs.Message.{rank, pair_of}
use Rattle.transit.specs.Unread.{limit, nothing}
use Rattle.answer.specs.Answer.{refusal_number}
use Rattle.protocol.specs.Checks.{Check, checks, refusal}
use Rattle.protocol.specs.Connect.{connect_both}
use Rattle.protocol.specs.Edges.{Try, plays, answers, refuses}
use Rattle.record.specs.Kind
use Rattle.protocol.proofs.Laws.Edges.{plays_sound}
use Rattle.protocol.specs.Laws.Opened.{opened, opened_checks, opened_sound}
use Rattle.protocol.specs.Life.{announced, start}
use Rattle.protocol.specs.Messages.{sent_between}
use Rattle.broker.specs.Ranks.{each_rank}
use Rattle.protocol.specs.Sound.{sound}
use Rattle.broker.specs.State.{State, fresh, with_unread}
use Rattle.protocol.specs.Step.{step}
use Rattle.answer.specs.declared.Refusal.TheVariants.{Full, SequenceSpent}
use Rattle.broker.specs.declared.link.Connection.TheVariants.{Open}
use Rattle.record.specs.declared.Record.TheVariants.{Send}

-- ranks 0 and 1 run, and a plain line stands between them
abbrev joined : State
joined = connect_both (rank 0) (rank 1) Open (start (rank 1) 1 (start (rank 0) 0 fresh).state).state

-- so many are unread in the whole desk by its count, and rank 0 has sent so many to rank 1
abbrev having : ℕ → ℕ → State
having unread sent =
    with_unread (record { messages = []; count = unread; sent = set nothing.sent (pair_of (rank 0) (rank 1)) sent }) joined

-- a send of 7 from one rank to another
abbrev sending : ℕ → ℕ → List ℕ
sending a b = Kind.send ∷ a ∷ b ∷ 7 ∷ 0 ∷ 0 ∷ 0 ∷ []

-- The one number that is left is given, and then 28, also when its message is taken; the other direction sends on.
abbrev to_the_last : List Try
to_the_last =
    answers (sending 0 1) 1 0 0 ∷
    refuses (sending 0 1) 28 ∷
    answers (sending 1 0) 1 0 0 ∷
    answers (Kind.take ∷ 1 ∷ 0 ∷ []) 7 0 4294967295 ∷
    refuses (sending 0 1) 28 ∷
    answers (Kind.take ∷ 0 ∷ 1 ∷ []) 7 0 1 ∷ []

-- all are sent, and no more are counted
abbrev all_sent : State → Bool
all_sent s = eqb (sent_between (rank 0) (rank 1) s) 4294967295

is_sound : sound (having 0 4294967294) ≡ true
unfolding opened_sound start announced each_rank
is_sound = refl

pub one_more_and_then_28 : plays (λ s log. step s log 0) to_the_last all_sent (having 0 4294967294) ≡ true
unfolding opened
one_more_and_then_28 = plays_sound to_the_last all_sent (having 0 4294967294) is_sound ∙ refl

-- The rows of the table in their order: 28 is the last.
pub rows_in_order :
    map (λ (c : Check). refusal_number c.refusal) checks ≡
    4 ∷ 5 ∷ 6 ∷ 7 ∷ 8 ∷ 9 ∷ 10 ∷ 11 ∷ 12 ∷ 13 ∷ 14 ∷ 15 ∷ 16 ∷ 17 ∷ 19 ∷ 20 ∷ 21 ∷ 22 ∷ 23 ∷ 24 ∷ 25 ∷ 28 ∷ []
unfolding opened_checks
rows_in_order = refl

-- The same of the checks alone: 28 is given where all are sent, after 24.
pub last_number_is_given : refusal (having 0 4294967294) (Send (rank 0) (rank 1) 7) ≡ none
unfolding opened_checks start announced each_rank
last_number_is_given = refl

pub no_number_is_left : refusal (having 0 4294967295) (Send (rank 0) (rank 1) 7) ≡ some SequenceSpent
unfolding opened_checks start announced each_rank
no_number_is_left = refl

pub full_comes_first : refusal (having limit 4294967295) (Send (rank 0) (rank 1) 7) ≡ some Full
unfolding opened_checks start announced each_rank
full_comes_first = refl
