-- Checks made in turn: the refusal is that of the first that fails. Assumes nothing.
use Rattle.std.specs.Prelude.{Bool, true, false, cond, List, [], ◌∷◌, ◌≡◌, refl}
use Rattle.std.proofs.Math.Option.{Option, none, some}
use Rattle.answer.specs.declared.Refusal.{Refusal}
use Rattle.verdict.specs.Verdict.{Test, or_else, passed, judged}

-- the refusal of the first that fails
abbrev pub first_failing : List Test → Option Refusal
first_failing [] = none
first_failing (t ∷ ts) = cond t.fails (some t.refusal) (first_failing ts)

refused_stays : (n : Refusal) (ts : List Test) → judged (some n) ts ≡ some n
refused_stays n [] = refl
refused_stays n (t ∷ ts) = refused_stays n ts

-- checks made in turn give the refusal of the first that fails
pub judged_first : (ts : List Test) → judged passed ts ≡ first_failing ts
judged_first [] = refl
judged_first (t ∷ ts) = at t.fails (judged_first ts)
  where
    at :
        (b : Bool) → judged passed ts ≡ first_failing ts →
        judged (or_else none b t.refusal) ts ≡ cond b (some t.refusal) (first_failing ts)
    at true h = refused_stays t.refusal ts
    at false h = h
