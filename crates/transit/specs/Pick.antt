-- What a pass over all slots picks, how many it counts, and what it leaves.
-- Assumes nothing.
use Rattle.std.specs.Prelude.{Bool, cond, ◌&&◌, List, ◌≡◌, ℕ, zero, suc, ◌+◌, ◌*◌, ◌%◌, ◌<◌, ◌≤◌, eqb, leb, ltb, length, get_or}
use Rattle.transit.specs.Columns.{Columns, columns_of, with_places, slots_length}
use Rattle.transit.specs.Message.{ranks, cells, place_number}
use Rattle.transit.specs.declared.Place.{Place}
use Rattle.transit.specs.declared.Rank.{Rank}
use Rattle.transit.specs.declared.pick.Pick.{Pick}

-- a slot of the pair's number, at the place's number, is picked
abbrev pub picked : Pick → ℕ → ℕ → Bool
picked w p n = leb w.low p && ltb p w.high && eqb (p % ranks) w.receiver && eqb n w.place

-- the slots of the pair from a to b at a place
abbrev pub pick_between : Rank → Rank → Place → Pick
pick_between a b place = record { low = ranks * a.0; high = ranks * a.0 + ranks; receiver = b.0; place = place_number place }

-- the slots of all pairs to r at a place
abbrev pub pick_to : Rank → Place → Pick
pick_to r place = record { low = 0; high = cells; receiver = r.0; place = place_number place }

-- how many of the first slots are picked
unfoldable pub hits : Pick → Columns → ℕ → ℕ
hits w c zero = 0
hits w c (suc i) = hits w c i + cond (picked w (get_or c.pairs i 0) (get_or c.places i 0)) 1 0

-- of the first i slots those that are picked, n of them, have the place of a number, and all else is as it was
pub record Passed (w : Pick) (to : ℕ) (slots : List ℕ) (i n : ℕ) (slots' : List ℕ) : Type 0 where
  pub long : length slots' ≡ slots_length
  pub others : columns_of slots' ≡ with_places (columns_of slots) (columns_of slots').places
  pub done : (k : ℕ) → k < i
      → get_or (columns_of slots').places k 0
      ≡ cond (picked w (get_or (columns_of slots).pairs k 0) (get_or (columns_of slots).places k 0)) to
      (get_or (columns_of slots).places k 0)
  pub rest : (k : ℕ) → i ≤ k → get_or (columns_of slots').places k 0 ≡ get_or (columns_of slots).places k 0
  pub counted : n ≡ hits w (columns_of slots) i
