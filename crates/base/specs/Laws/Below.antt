-- The numbers below a bound: a test taken at one and put together from each, a count one number further, and what a change made for
-- each number keeps and makes. Assumes nothing.
use Rattle.std.specs.Prelude.{Bool, true, false, not, cond, ◌&&◌, ◌≡◌, refl, ℕ, zero, suc, ◌+◌, ◌<◌, ◌≤◌, eqb}
use Rattle.std.proofs.Math.Bool.{and-true, and-false}
use Rattle.std.proofs.Math.Decide.{ℕ_discrete}
use Rattle.std.proofs.Common.{not-suc-le-zero, add-one, arith, ne_eqb}
use Rattle.base.specs.Below.{Each, all_below, count_below, each_below}
use Rattle.base.specs.Laws.Tests.{both, both_left, both_right, not_both, same_truth}

pub all_below_at : (n : ℕ) (f : ℕ → Bool) → all_below n f ≡ true → (k : ℕ) → k < n → f k ≡ true
all_below_at zero f h k b = absurd (not-suc-le-zero b)
all_below_at (suc n) f h k b = at (ℕ_discrete k n) (all_below_at n f (both_left (all_below n f) (f n) h) k)
  where
    at : Dec (k ≡ n) → (k < n → f k ≡ true) → f k ≡ true
    at (yes e) below = rw e (both_right (all_below n f) (f n) h)
    at (no d) below = below (omega arith)

pub all_below_of : (n : ℕ) (f : ℕ → Bool) → ((k : ℕ) → k < n → f k ≡ true) → all_below n f ≡ true
all_below_of zero f h = refl
all_below_of (suc n) f h = both (all_below_of n f (λ k b. h k (omega arith))) (h n (omega arith))

-- What holds of n numbers from m on holds of each.
pub each_at : (P : ℕ → Type 0) (m n : ℕ) → Each P m n → (k : ℕ) → m ≤ k → k < m + n → P k
each_at P m zero all k least most = absurd (omega arith)
each_at P m (suc n) all k least most = at (ℕ_discrete k m) (each_at P (suc m) n all.1 k)
  where
    at : Dec (k ≡ m) → (suc m ≤ k → k < suc m + n → P k) → P k
    at (yes e) later = rw e all.0
    at (no d) later = later (omega arith) (omega arith)

-- A test that fails at a number fails below each bound past it.
pub all_below_fails : (n : ℕ) (f : ℕ → Bool) (k : ℕ) → k < n → f k ≡ false → all_below n f ≡ false
all_below_fails n f k inside fails =
    same_truth (all_below n f) false (λ h. absurd (not_both (all_below_at n f h k inside) fails)) (λ h. absurd (not_both h refl))

module _ (f : ℕ → Bool) where
  -- one number more counts for one where it passes the test
  pub count_passed : (i n : ℕ) → f i ≡ true → n ≡ count_below i f → n + 1 ≡ count_below (i + 1) f
  count_passed i n t h = rw (add-one n, add-one i, t, h)

  -- and for none where it does not
  pub count_failed : (i n : ℕ) → f i ≡ false → n ≡ count_below i f → n ≡ count_below (i + 1) f
  count_failed i n t h = rw (add-one, t, h)

  -- all numbers pass the test exactly where the count of those that do not is 0
  pub all_pass : (n : ℕ) → all_below n f ≡ eqb (count_below n (λ k. not (f k))) 0
  all_pass zero = refl
  all_pass (suc n) = at (f n) (all_pass n)
    where
      at :
          (b : Bool) → all_below n f ≡ eqb (count_below n (λ k. not (f k))) 0 →
          (all_below n f && b) ≡
          eqb (cond (not b) (suc (count_below n (λ k. not (f k)))) (count_below n (λ k. not (f k)))) 0
      at true h = rw and-true h
      at false h = rw (and-false, ne_eqb (suc (count_below n (λ k. not (f k)))) 0 (λ e. omega arith))

-- what each single change keeps, all of them keep
pub each_below_keeps : {A : Type 0} (P : A → Type 0) (n : ℕ) (f : ℕ → A → A) (x : A) → P x
    → ((k : ℕ) (y : A) → P y → P (f k y)) → P (each_below n f x)
each_below_keeps P zero f x h keep = h
each_below_keeps P (suc n) f x h keep = keep n (each_below n f x) (each_below_keeps P n f x h keep)

-- what the change for one number makes, and every change keeps, all of them make
pub each_below_makes : {A : Type 0} (P : A → Type 0) (n : ℕ) (f : ℕ → A → A) (x : A) (k : ℕ) → k < n
    → ((y : A) → P (f k y)) → ((j : ℕ) (y : A) → P y → P (f j y)) → P (each_below n f x)
each_below_makes P zero f x k b make keep = absurd (not-suc-le-zero b)
each_below_makes P (suc n) f x k b make keep = at (ℕ_discrete n k) (λ c. each_below_makes P n f x k c make keep)
  where
    at : Dec (n ≡ k) → (k < n → P (each_below n f x)) → P (f n (each_below n f x))
    at (yes e) below = rw e (make (each_below k f x))
    at (no d) below = keep n (each_below n f x) (below (omega arith))

-- what changes nothing for each number changes nothing
pub each_below_fixed : {A : Type 0} (n : ℕ) (f : ℕ → A → A) (x : A) → ((k : ℕ) → k < n → f k x ≡ x) → each_below n f x ≡ x
each_below_fixed zero f x fixed = refl
each_below_fixed (suc n) f x fixed = rw (each_below_fixed n f x (λ k b. fixed k (omega arith))) (fixed n (omega arith))
