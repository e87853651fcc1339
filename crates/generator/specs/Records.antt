-- What it is for a log to be so many records: each is read whole where the one before ended, and behind the last is the log's end.
-- Assumes nothing.
use Rattle.std.specs.Prelude.{◌≡◌, false, List, ℕ, suc, length, Ok}
use Rattle.protocol.specs.Checks.{rank_range, host_range}
use Rattle.record.specs.Record.{decode}
use Rattle.broker.specs.State.{State}
use Rattle.record.specs.declared.Record.{Record}

-- in whatever state, a record is not refused with 4, "a rank above 15", or 5, "host above 7"
pub record InRange (r : Record) : Type 0 where
  pub ranks : (s : State) → rank_range s r ≡ false
  pub hosts : (s : State) → host_range s r ≡ false

-- from a position on: so many records, none of them 2 or 3, and then the end
pub data Holds (log : List ℕ) : ℕ → ℕ → Type 0 where
  ends : {at : ℕ} → at ≡ length log → Holds log 0 at
  reads : {n at next : ℕ} {r : Record} → decode log at ≡ Ok (r, next) → InRange r → Holds log n next → Holds log (suc n) at
