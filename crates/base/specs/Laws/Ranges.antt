-- A test that `all` takes at each number below a bound. Assumes nothing.
use Rattle.std.specs.Prelude.{◌≡◌, Bool, true, false, ℕ, ◌<◌, length}
use Rattle.std.specs.Bool.{MatchBool}
use Rattle.std.specs.List.{AllWithin, HoldsAt, range_with_len}
use Rattle.std.proofs.Common.{sym, arith, zero-add}
use Rattle.std.proofs.lemmas.List.FromFn.{length-range_with_len, get_or-range_with_len}
use Rattle.base.specs.Below.{all_below}
use Rattle.base.specs.Laws.Below.{all_below_of, all_below_fails}

module _ (n : ℕ) (f : ℕ → Bool) where
  -- The answer is true where each number passes, and false where one fails.
  pub all_below_told : (r : Bool)
      → MatchBool r (AllWithin (λ k. f k ≡ true) (range_with_len 0 n) 0 (length (range_with_len 0 n)))
      ((k : ℕ) × (k < length (range_with_len 0 n)) × HoldsAt (λ k. f k ≡ false) (range_with_len 0 n) k)
      → r ≡ all_below n f
  all_below_told true each =
      sym (all_below_of n f
      (λ k b. rw (get_or-range_with_len 0 n k 0 b, zero-add) at (each k 0 (omega arith) (rw length-range_with_len b))))
  all_below_told false one =
      let inside = rw length-range_with_len at one.1 in
      sym (all_below_fails n f one.0 inside (rw (get_or-range_with_len 0 n one.0 0 inside, zero-add) at (one.2 0)))
