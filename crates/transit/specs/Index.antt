-- The index of the slots: each pair's first slot, last slot and count, and each live slot's next of its pair agree with the pairs.
-- Assumes nothing.
use Rattle.std.specs.Prelude.{List, ◌≢◌, ◌≡◌, ℕ, suc, ◌<◌, ◌≤◌, eqb, length, get_or}
use Rattle.transit.specs.Columns.{Columns, SLOTS, DEAD}
use Rattle.base.specs.Lists.{tally}
use Rattle.transit.specs.Message.{cells}

-- j is the first slot of the pair at or after i, or 2,048 where there is none
pub record Next (pairs : List ℕ) (p i j : ℕ) : Type 0 where
  pub past : i ≤ j
  pub within : j ≤ SLOTS
  pub apart : (k : ℕ) → i ≤ k → k < j → get_or pairs k 0 ≢ p
  pub here : j < SLOTS → get_or pairs j 0 ≡ p

-- slot i is the last of the pair
pub record Last (pairs next : List ℕ) (p i : ℕ) : Type 0 where
  pub within : i < SLOTS
  pub own : get_or pairs i 0 ≡ p
  pub over : get_or next i 0 ≡ SLOTS

-- how many slots are of the pair
abbrev pub slots_of : ℕ → List ℕ → ℕ
slots_of p pairs = tally (λ x. eqb x p) pairs

-- the slots from the tail on are dead
abbrev pub Dead : List ℕ → ℕ → Type 0
Dead pairs tail = (k : ℕ) → tail ≤ k → k < SLOTS → get_or pairs k 0 ≡ DEAD

-- the index agrees with the pairs
pub record Index (c : Columns) : Type 0 where
  pub firsts : (p : ℕ) → p < cells → Next c.pairs p 0 (get_or c.first p 0)
  pub nexts : (p i : ℕ) → p < cells → i < SLOTS → get_or c.pairs i 0 ≡ p → Next c.pairs p (suc i) (get_or c.next i 0)
  pub lasts : (p : ℕ) → p < cells → get_or c.first p 0 < SLOTS → Last c.pairs c.next p (get_or c.last p 0)
  pub counts : (p : ℕ) → p < cells → get_or c.count p 0 ≡ slots_of p c.pairs
  pub dead : Dead c.pairs c.tail

-- how long the columns are
pub record Sizes (c : Columns) : Type 0 where
  pub pairs_long : length c.pairs ≡ SLOTS
  pub places_long : length c.places ≡ SLOTS
  pub next_long : length c.next ≡ SLOTS
  pub first_long : length c.first ≡ cells
  pub last_long : length c.last ≡ cells
  pub count_long : length c.count ≡ cells
