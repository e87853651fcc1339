-- All sixteen ranks: a test at each, a count, and a change made for each in ascending order.
-- Assumes nothing.
use Rattle.std.specs.Prelude.{Bool, ℕ}
use Rattle.base.specs.Below.{all_below, count_below, each_below}
use Rattle.transit.specs.Message.{ranks, rank}
use Rattle.transit.specs.declared.Rank.{Rank}

unfoldable pub every_rank : (Rank → Bool) → Bool
every_rank f = all_below ranks (λ n. f (rank n))

-- for each rank and each rank
unfoldable pub every_pair : (Rank → Rank → Bool) → Bool
every_pair f = all_below ranks (λ a. all_below ranks (λ b. f (rank a) (rank b)))

unfoldable pub count_ranks : (Rank → Bool) → ℕ
count_ranks f = count_below ranks (λ n. f (rank n))

unfoldable pub each_rank {ℓ} : {A : Type ℓ} → (Rank → A → A) → A → A
each_rank f x = each_below ranks (λ n. f (rank n)) x
