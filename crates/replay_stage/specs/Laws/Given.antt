-- Laws of what a read gave. Assumes nothing.
use Rattle.std.specs.Prelude.{false, ◌≡◌, refl, ℕ, zero, suc, ◌+◌, ◌≤◌, ◌<◌, min, Some, None, Result, Ok, Err}
use Rattle.std.proofs.Common.{arith}
use Rattle.replay_stage.specs.Stage.{given_of, taken_in}
use Rattle.replay_stage.specs.declared.Stage.{Stage}
use Rattle.replay_stage.specs.declared.Then.TheVariants as Then

-- A read that failed gave nothing.
pub given_failed : {E : Type 0} (why : E) (lent : ℕ) → given_of (Err why) lent ≡ None
given_failed why lent = refl

-- Any other counts the bytes.
pub given_counts : (E : Type 0) (count lent : ℕ) → given_of {E = E} (Ok count) lent ≡ Some (min count lent)
given_counts E count lent = refl

-- Where there are some, they are held, and the input goes on.
pub given_bytes : (at : Stage) (n : ℕ) → (n ≡ 0 → ⊥) → taken_in at (Some n) ≡
    record { held = at.held + n; base = at.base; done = false; used = at.used; then = Then.Turn }
given_bytes at zero some = absurd (some refl)
given_bytes at (suc n) some = refl

-- So many are given at most as were lent,
pub given_at_most : {E : Type 0} (got : Result ℕ E) (lent n : ℕ) → given_of got lent ≡ Some n → n ≤ lent
given_at_most (Ok count) lent n e = let all : min count lent ≡ n = cc in omega arith
given_at_most (Err why) lent n e = let z : ◌≡◌ {A = ℕ} 0 1 = cc in absurd (omega arith)

-- and one at least where the input goes on.
pub given_within :
    {E : Type 0} (at : Stage) (got : Result ℕ E) (lent n : ℕ) → given_of got lent ≡ Some n → (taken_in at (Some n)).done ≡ false →
    (0 < n) × (n ≤ lent)
given_within at got lent zero e goes_on = absurd cc
given_within at got lent (suc n) e goes_on = (omega arith, given_at_most got lent (suc n) e)
