-- What a record names, and that a test of a rank which it does not name does not apply. Paper 01, "The step log". Computed from the
-- definitions. Assumes nothing.
use Rattle.std.specs.Prelude.{◌≡◌, refl, true, false, [], ◌∷◌}
use Rattle.std.proofs.Math.Option.{none, some}
use Rattle.transit.specs.Message.{rank}
use Rattle.record.specs.Parts.{ranks_in, hosts_in, values_in, first_rank, on_first, on_two}
use Rattle.record.specs.declared.Record.TheVariants.{Send, Move, Take}

pub send_names_two_ranks : ranks_in (Send (rank 3) (rank 4) 7) ≡ rank 3 ∷ rank 4 ∷ []
send_names_two_ranks = refl

pub send_has_a_value : values_in (Send (rank 3) (rank 4) 7) ≡ 7 ∷ []
send_has_a_value = refl

pub take_names_the_receiver_first : ranks_in (Take (rank 3) (rank 4)) ≡ rank 3 ∷ rank 4 ∷ []
take_names_the_receiver_first = refl

pub move_names_a_host : hosts_in (Move (rank 3) 5) ≡ 5 ∷ []
move_names_a_host = refl

pub first_of_two : first_rank (rank 3 ∷ rank 4 ∷ []) ≡ some (rank 3)
first_of_two = refl

pub first_of_none : first_rank [] ≡ none
first_of_none = refl

-- Where no rank is named, no test of the first applies; where one is, none of two.
pub no_rank_no_test : on_first (λ a. true) [] ≡ false
no_rank_no_test = refl

pub one_rank_no_test_of_two : on_two (λ a b. true) (rank 3 ∷ []) ≡ false
one_rank_no_test_of_two = refl

pub no_rank_no_test_of_two : on_two (λ a b. true) [] ≡ false
no_rank_no_test_of_two = refl
