-- Lists under a Boolean test: the elements that pass, how many, the first of them, and the list without it or with it changed.
-- Assumes nothing.
use Rattle.std.specs.Prelude.{Bool, true, false, cond, ◌&&◌, ◌||◌, List, [], ◌∷◌, ℕ, zero, suc, leb, ltb, length}

module _ {A : Type 0} where
  -- the elements that pass, in order
  abbrev pub select : (A → Bool) → List A → List A
  select p [] = []
  select p (x ∷ xs) = cond (p x) (x ∷ select p xs) (select p xs)

  -- how many pass
  abbrev pub tally : (A → Bool) → List A → ℕ
  tally p l = length (select p l)

  -- the list without the first that passes
  abbrev pub without : (A → Bool) → List A → List A
  without p [] = []
  without p (x ∷ xs) = cond (p x) xs (x ∷ without p xs)

  -- the list with the first that passes changed by f
  abbrev pub change_first : (A → Bool) → (A → A) → List A → List A
  change_first p f [] = []
  change_first p f (x ∷ xs) = cond (p x) (f x ∷ xs) (x ∷ change_first p f xs)

  -- each that passes changed by f
  abbrev pub change_each : (A → Bool) → (A → A) → A → A
  change_each p f x = cond (p x) (f x) x

  -- the test passes at one element at least
  abbrev pub any_of : (A → Bool) → List A → Bool
  any_of p [] = false
  any_of p (x ∷ xs) = p x || any_of p xs

  -- the test passes at every element
  abbrev pub every : (A → Bool) → List A → Bool
  every p [] = true
  every p (x ∷ xs) = p x && every p xs

-- no number is below the one before it
abbrev pub never_falls : List ℕ → Bool
never_falls [] = true
never_falls (x ∷ xs) = every (leb x) xs && never_falls xs

-- each number is above the one before it, the first above the least, and none above the most
abbrev pub rises_within : ℕ → ℕ → List ℕ → Bool
rises_within least most [] = true
rises_within least most (x ∷ xs) = ltb least x && leb x most && rises_within x most xs

-- the numbers from the first on, as many as are asked for
unfoldable pub up_from : ℕ → ℕ → List ℕ
up_from first zero = []
up_from first (suc n) = first ∷ up_from (suc first) n

-- f 0, f 1, .. up to f (n - 1)
unfoldable pub tabulate : {A : Type 0} → ℕ → (ℕ → A) → List A
tabulate zero f = []
tabulate (suc n) f = f 0 ∷ tabulate n (λ k. f (suc k))
