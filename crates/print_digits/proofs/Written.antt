-- The library's text of a number is the number in decimal, and has one digit more than the highest power of ten in it. Assumes nothing.
use Rattle.std.specs.Prelude.{◌≡◌, refl, ℕ, suc, ◌+◌, ◌*◌, ◌^◌, ◌≤◌, ◌<◌, length}
use Rattle.std.specs.Prelude.{decimal as written}
use Rattle.std.proofs.Common.{sym, arith, lt-ltb, le-ltb, length-append, add-one, pow-suc}
use Rattle.std.proofs.Math.Nat.{pow-le-pow_right}
use Rattle.std.proofs.lemmas.Fmt.{AppendsLastDigit, decimal_from_appends, length-decimal-le, length-decimal-le_succ, decimal_by_steps}
use Rattle.base.specs.Laws.Tests.{by_test}
use Rattle.std.proofs.Common.{ltb, ltb-true, ltb-false}
use Rattle.print_page.specs.Text.{decimal, decimal_within}

by_tenths : AppendsLastDigit decimal_within
by_tenths = record { one = λ k n h. rw (lt-ltb n 10 h) refl; more = λ k n h. rw (le-ltb n 10 h) refl }

pub as_written : (n : ℕ) → n < 2 ^ 64 → written n ≡ decimal n
unfolding decimal
as_written n h = sym (decimal_from_appends decimal_within by_tenths (suc n) n h (omega (arith, length-decimal-le_succ n h)))

-- A number is below the power of ten of as many digits as it has.
below_power : (n : ℕ) → n < 2 ^ 64 → n < 10 ^ length (written n)
below_power =
    decimal_by_steps (λ n ds. n < 10 ^ length ds) (λ n h. h)
    (λ n ds h less. rw (length-append ds, add-one (length ds), pow-suc 10 (length ds)) (omega arith))

-- A number has one digit more than the highest power of ten in it says.
pub digits_counted : (n k : ℕ) → n < 2 ^ 64 → 10 ^ k ≤ n → n < 10 * 10 ^ k → length (decimal n) ≡ k + 1
digits_counted n k h low high =
    let up : n < 10 ^ (k + 1) = rw (add-one k, pow-suc 10 k) (omega arith) in
    let most = length-decimal-le (k + 1) n (omega arith) up h in
    let least : length (written n) ≤ k → ⊥ =
    λ le. let small = pow-le-pow_right {n = 10} (omega arith) le in let below = below_power n h in omega arith in
    rw (← as_written n h)
    (by_test (ltb k (length (written n)))
    (λ t. let more = ltb-true k _ t in omega arith)
    (λ t. absurd (least (ltb-false k _ t))))
