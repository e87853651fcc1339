-- Laws of the step that ends a run. Assumes nothing.
use Rattle.std.specs.Prelude.{◌≡◌, List, [], ◌∷◌, ℕ, ◌+◌, ◌≤◌, ◌<◌, leb, get_or, length, drop, Err}
use native.Mathlib.Omega.{arith}
use borrow.Author.Tests.{lt-ltb, le-ltb, ltb-true}
use Rattle.std.proofs.Math.Dec.{ltb}
use Rattle.std.proofs.Math.ListN.{length-drop}
use Rattle.std.proofs.Common.{get_or-drop}
use Rattle.base.specs.Laws.Tests.{by_test, same_truth}
use Rattle.record.specs.Record.{is_kind, body_length, decode}
use Rattle.print_run.specs.Laws.Wholes.{moved_by}
use Rattle.print_run.specs.Laws.Window.{moved_same, decode_dropped}
use Rattle.print_run.specs.Run.{Came}
use Rattle.print_run.specs.Wholes.{answered_at, reason_of, closing, ended}

module _ (base : ℕ) (log : List ℕ) (at : ℕ) where
  -- "It stops at the log's end without a line for it".
  pub closing_at_end : length log ≤ at → closing base log at ≡ []
  unfolding closing
  closing_at_end h = rw (le-ltb at (length log) h)

  -- Short of it the run ends with what stands there, and its kind tells why.
  pub closing_by_kind : at < length log → closing base log at ≡ answered_at base log at (Err (reason_of (get_or log at 0))) ∷ []
  unfolding closing decode
  closing_by_kind h =
      rw (lt-ltb at (length log) h)
      (by_test (is_kind (get_or log at 0))
      (λ t. rw t (by_test (leb (at + 1 + body_length (get_or log at 0)) (length log)) (λ u. rw u) (λ u. rw u)))
      (λ t. rw t))

-- The front of a log, where it is dropped, is no part of how its run ends.
module _ (base : ℕ) (log : List ℕ) (k : ℕ) (room : k ≤ length log) where
  closing_dropped : (at : ℕ) → closing base log (k + at) ≡ closing (base + k) (drop k log) at
  unfolding closing
  closing_dropped at =
      let long = length-drop k log in
      let place : base + (k + at) ≡ base + k + at = omega arith in
      let same : ltb (k + at) (length log) ≡ ltb at (length (drop k log)) =
      same_truth (ltb (k + at) (length log)) (ltb at (length (drop k log)))
      (λ t. lt-ltb at (length (drop k log)) (omega (arith, ltb-true (k + at) (length log) t)))
      (λ t. lt-ltb (k + at) (length log) (omega (arith, ltb-true at (length (drop k log)) t))) in
      rw (same, decode_dropped log k room at, (moved_same k (decode (drop k log) at)).1, place, get_or-drop)

  pub ended_dropped : (c : Came) → ended base log (moved_by k c) ≡ ended (base + k) (drop k log) c
  ended_dropped c = let place : base + (k + c.at) ≡ base + k + c.at = omega arith in rw (place, closing_dropped c.at)
