-- How many messages each pair has sent: what becomes of the counts and of the contents before them. Paper 02, change 4.
-- Assumes nothing.
use Rattle.std.specs.Prelude.{List, ◌≡◌, ℕ, ◌+◌, length, take}
use Rattle.transit.specs.Columns.{sent_in, SENT, contents_length}
use Rattle.transit.specs.Unread.{sent_at, one_message_more}
use Rattle.transit.specs.declared.Rank.{Rank}

-- a has sent b one more, which makes n; the values and the running numbers are as they were
pub record Counted (a b : Rank) (contents : List ℕ) (n : ℕ) (contents' : List ℕ) : Type 0 where
  pub long : length contents' ≡ contents_length
  pub before : take SENT contents' ≡ take SENT contents
  pub counts : sent_in contents' ≡ one_message_more a b (sent_in contents)
  pub now : n ≡ sent_at a b (sent_in contents) + 1

-- the counts stand in the contents
pub record Kept (counts contents : List ℕ) : Type 0 where
  pub long : length contents ≡ contents_length
  pub same : sent_in contents ≡ counts
