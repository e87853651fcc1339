-- The running numbers over a whole list of steps. Paper 02, change 4. Each part has a name under the sentence that it transcribes; the last
-- definition is the claim. Assumes nothing.
use Rattle.std.specs.Prelude.{◌≡◌, List, ◌++◌, map, ℕ, ◌<◌, length}
use Rattle.base.specs.Lists.{select, up_from}
use Rattle.transit.specs.Message.{place_order, ranks}
use Rattle.transit.specs.declared.Message.{Message}
use Rattle.transit.specs.declared.Rank.{Rank}
use Rattle.transit.specs.declared.Selection.TheVariants.{Between}
use Rattle.protocol.specs.Messages.{sent_between}
use Rattle.broker.specs.State.{State, fresh, messages}
use Rattle.ordering.specs.Claim.{Reading, Entry, after, accepted, is_take, sent, taken}

-- "A take gives it as v3": from a to b, the numbers taken are v3 of the accepted takes b a, in list order
abbrev pub numbers_taken : Rank → Rank → List Entry → List ℕ
numbers_taken a b es = map (λ (e : Entry). e.v3) (select (is_take a b) es)

-- "unread numbers": those of the messages from a to b, in place order
abbrev pub numbers_unread : Rank → Rank → State → List ℕ
numbers_unread a b s = map (λ (m : Message). m.sequence) (place_order (Between a b) (messages s))

-- what is claimed of accepted steps from a fresh desk, of the state that they leave, and from each rank to each other rank
pub record Numbers (es : List Entry) (end : State) (a b : Rank) : Type 0 where
  -- "the numbers taken by a pair are 1, 2, 3 without a gap as far as taken"
  pub without_a_gap : numbers_taken a b es ≡ up_from 1 (length (taken a b es))
  -- and with those of the unread behind them they are 1 to "the count sent", so that none is lost, doubled or overtaken
  pub to_the_count_sent : numbers_taken a b es ++ numbers_unread a b end ≡ up_from 1 (sent_between a b end)
  -- "the count sent": that of the accepted sends
  pub sends_counted : sent_between a b end ≡ length (sent a b es)

-- The claim: "for every list of steps from a fresh desk".
abbrev pub Numbered : Type 0
Numbered = (xs : List Reading) (a b : Rank) → a.0 < ranks → b.0 < ranks → Numbers (accepted fresh xs) (after fresh xs) a b
