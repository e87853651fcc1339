-- Draws that are known from outside, computed from the definition. Assumes nothing.
use Rattle.std.specs.Prelude.{◌≡◌, refl, List, [], ◌∷◌, ℕ, zero, suc}
use Rattle.generator_draw.specs.Draw.{draw}

-- the first draws from a seed
abbrev draws : ℕ → ℕ → List ℕ
draws zero word = []
draws (suc n) word = draw word ∷ draws n (draw word)

-- the seed of Marsaglia's paper
pub marsaglia_draws : draws 4 2463534242 ≡ 723471715 ∷ 2497366906 ∷ 2064144800 ∷ 2008045182 ∷ []
unfolding draw
marsaglia_draws = refl

pub one_draws : draws 4 1 ≡ 270369 ∷ 67634689 ∷ 2647435461 ∷ 307599695 ∷ []
unfolding draw
one_draws = refl
