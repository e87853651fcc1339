-- Where a walk along a pair's links has come, and which slot is the oldest to a receiver.
-- Assumes nothing.
use Rattle.std.specs.Prelude.{◌≢◌, ◌≡◌, ℕ, ◌+◌, ◌*◌, ◌<◌, ◌≤◌, get_or}
use Rattle.transit.specs.Columns.{Columns, SLOTS}
use Rattle.transit.specs.Message.{ranks}

-- a walk stands at a slot of the pair, or at 2,048, and no slot of the pair before it is at the place of a number
pub record Walked (c : Columns) (p n at : ℕ) : Type 0 where
  pub within : at ≤ SLOTS
  pub own : at < SLOTS → get_or c.pairs at 0 ≡ p
  pub none : (k : ℕ) → k < at → get_or c.pairs k 0 ≡ p → get_or c.places k 0 ≢ n

-- the walk has come to the first slot of the pair at the place, or to 2,048 where there is none
pub record Reached (c : Columns) (p n at : ℕ) : Type 0 where
  pub walked : Walked c p n at
  pub there : at < SLOTS → get_or c.places at 0 ≡ n

-- at is the least of 2,048 and the first slots of the pairs from the first ranks to r
pub record Oldest (c : Columns) (r senders at : ℕ) : Type 0 where
  pub least : (s : ℕ) → s < senders → at ≤ get_or c.first (ranks * s + r) 0
  pub from : at < SLOTS → (s : ℕ) × (s < senders) × (at ≡ get_or c.first (ranks * s + r) 0)
  pub within : at ≤ SLOTS
