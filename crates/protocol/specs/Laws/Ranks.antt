-- A test at every rank and at every pair of ranks, taken at one and put together from each; and what a change made for each rank
-- keeps. Assumes nothing.
use Rattle.std.specs.Prelude.{◌≡◌, Bool, true, false, not, ◌<◌, eqb}
use Rattle.base.specs.Below.{all_below}
use Rattle.base.specs.Laws.Below.{all_below_at, all_below_of, all_below_fails, all_pass, each_below_keeps}
use Rattle.transit.specs.declared.Rank.{Rank}
use Rattle.transit.specs.Message.{rank, ranks}
use Rattle.broker.specs.Ranks.{every_rank, every_pair, count_ranks, each_rank}

pub every_rank_at : (f : Rank → Bool) → every_rank f ≡ true → (r : Rank) → r.0 < ranks → f r ≡ true
unfolding every_rank
every_rank_at f h r b = all_below_at ranks (λ n. f (rank n)) h r.0 b

pub every_rank_of : (f : Rank → Bool) → ((r : Rank) → r.0 < ranks → f r ≡ true) → every_rank f ≡ true
unfolding every_rank
every_rank_of f h = all_below_of ranks (λ n. f (rank n)) (λ k b. h (rank k) b)

-- where one fails, not all pass
pub every_rank_fails : (f : Rank → Bool) (r : Rank) → r.0 < ranks → f r ≡ false → every_rank f ≡ false
unfolding every_rank
every_rank_fails f r b fails = all_below_fails ranks (λ n. f (rank n)) r.0 b fails

-- all pass exactly where the count of those that do not is 0
pub every_rank_counts : (f : Rank → Bool) → every_rank f ≡ eqb (count_ranks (λ p. not (f p))) 0
unfolding every_rank count_ranks
every_rank_counts f = all_pass (λ n. f (rank n)) ranks

pub every_pair_at : (f : Rank → Rank → Bool) → every_pair f ≡ true → (a b : Rank) → a.0 < ranks → b.0 < ranks → f a b ≡ true
unfolding every_pair
every_pair_at f h a b ha hb =
    all_below_at ranks (λ n. f a (rank n)) (all_below_at ranks (λ m. all_below ranks (λ n. f (rank m) (rank n))) h a.0 ha) b.0 hb

pub every_pair_of : (f : Rank → Rank → Bool) → ((a b : Rank) → a.0 < ranks → b.0 < ranks → f a b ≡ true) → every_pair f ≡ true
unfolding every_pair
every_pair_of f h =
    all_below_of ranks (λ m. all_below ranks (λ n. f (rank m) (rank n)))
    (λ m bm. all_below_of ranks (λ n. f (rank m) (rank n)) (λ n bn. h (rank m) (rank n) bm bn))

pub each_rank_keeps : {A : Type 0} (P : A → Type 0) (f : Rank → A → A) (x : A) → P x → ((r : Rank) (y : A) → P y → P (f r y))
    → P (each_rank f x)
unfolding each_rank
each_rank_keeps P f x h keep = each_below_keeps P ranks (λ n. f (rank n)) x h (λ k y p. keep (rank k) y p)
