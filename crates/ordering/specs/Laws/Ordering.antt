-- The ordering claim holds. Assumes nothing.
use Rattle.ordering.specs.Claim.{Claim}
use Rattle.ordering.specs.Laws.First.{first_half}
use Rattle.ordering.specs.Laws.Second.{second_half}

pub ordering : Claim
ordering = record { first_half = first_half; second_half = second_half }
