-- The numbers below a bound: a test at each, a count, and a change made for each in ascending order.
-- Assumes nothing.
use Rattle.std.specs.Prelude.{Bool, true, cond, ◌&&◌, ℕ, zero, suc}

-- the test passes at each number below n
abbrev pub all_below : ℕ → (ℕ → Bool) → Bool
all_below zero f = true
all_below (suc n) f = all_below n f && f n

-- how many numbers below n pass the test
abbrev pub count_below : ℕ → (ℕ → Bool) → ℕ
count_below zero f = 0
count_below (suc n) f = cond (f n) (suc (count_below n f)) (count_below n f)

-- the changes f 0, f 1, .. up to f (n - 1), one after the other
abbrev pub each_below {ℓ} : {A : Type ℓ} → ℕ → (ℕ → A → A) → A → A
each_below zero f x = x
each_below (suc n) f x = f n (each_below n f x)

-- what holds of n numbers from m on
abbrev pub Each : (ℕ → Type 0) → ℕ → ℕ → Type 0
Each P m zero = Unit {0}
Each P m (suc n) = P m × Each P (suc m) n
