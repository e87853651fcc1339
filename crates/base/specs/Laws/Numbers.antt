-- Numbers that rise within a least and a most, and the numbers from a first one on. Assumes nothing.
use Rattle.std.specs.Prelude.{◌≡◌, refl, Bool, true, ◌&&◌, ℕ, zero, suc, ◌+◌, ◌<◌, ◌≤◌, leb, ltb, length}
use Rattle.std.proofs.Common.{ap, arith, leb-true, le-leb, ltb-true, lt-ltb}
use mathlib.Core.List.{List, [], ◌∷◌, ◌++◌, map, head-eq_of_cons-eq, tail-eq_of_cons-eq}
use Rattle.base.specs.Lists.{without, rises_within, up_from}
use Rattle.base.specs.Laws.Tests.{by_test, both, both_left, both_right}

-- what that says of a first number and of those behind it
record Rises (least most x : ℕ) (l : List ℕ) : Type 0 where
  above : least < x
  below : x ≤ most
  rest : rises_within x most l ≡ true

rises_apart : (least most x : ℕ) (l : List ℕ) → rises_within least most (x ∷ l) ≡ true → Rises least most x l
rises_apart least most x l h =
    let first = both_left (ltb least x && leb x most) _ h in
    record {
      above = ltb-true least x (both_left (ltb least x) _ first);
      below = leb-true x most (both_right (ltb least x) _ first);
      rest = both_right (ltb least x && leb x most) _ h;
    }

rises_joined : (least most x : ℕ) (l : List ℕ) → Rises least most x l → rises_within least most (x ∷ l) ≡ true
rises_joined least most x l r = both (both (lt-ltb least x r.above) (le-leb x most r.below)) r.rest

-- Numbers that rise above a least rise above a lower one.
pub rises_lower : (low least most : ℕ) (l : List ℕ) → low ≤ least → rises_within least most l ≡ true → rises_within low most l ≡ true
rises_lower low least most [] lower h = refl
rises_lower low least most (x ∷ l) lower h =
    let r = rises_apart least most x l h in
    rises_joined low most x l (record { above = omega (arith, r.above); below = r.below; rest = r.rest })

-- Numbers that rise up to a most, and behind them the next one, rise up to that.
pub rises_next : (least most : ℕ) (l : List ℕ) → least ≤ most → rises_within least most l ≡ true
    → rises_within least (most + 1) (l ++ (most + 1) ∷ []) ≡ true
rises_next least most [] up h =
    rises_joined least (most + 1) (most + 1) [] (record { above = omega arith; below = omega arith; rest = refl })
rises_next least most (x ∷ l) up h =
    let r = rises_apart least most x l h in
    let rest = rises_next x most l r.below r.rest in
    rises_joined least (most + 1) x (l ++ (most + 1) ∷ []) (record { above = r.above; below = omega (arith, r.below); rest = rest })

-- Numbers of which one is left out still rise.
pub rises_without : {A : Type 0} (f : A → ℕ) (q : A → Bool) (least most : ℕ) (l : List A) → rises_within least most (map f l) ≡ true
    → rises_within least most (map f (without q l)) ≡ true
rises_without f q least most [] h = refl
rises_without f q least most (x ∷ l) h =
    let r = rises_apart least most (f x) (map f l) h in
    by_test (q x)
    (λ e. rw e (rises_lower least (f x) most (map f l) (omega (arith, r.above)) r.rest))
    (λ e.
    let rest = rises_without f q (f x) most l r.rest in
    rw e (rises_joined least most (f x) (map f (without q l)) (record { above = r.above; below = r.below; rest = rest })))

-- As many numbers as are asked for.
pub up_from_long : (first n : ℕ) → length (up_from first n) ≡ n
unfolding up_from
up_from_long first zero = refl
up_from_long first (suc n) = ap suc (up_from_long (suc first) n)

-- The numbers from one on, and behind them those from the next on, are as many from the first on.
pub up_from_append : (first n m : ℕ) → up_from first n ++ up_from (first + n) m ≡ up_from first (n + m)
unfolding up_from
up_from_append first zero m = let z : first + 0 ≡ first = omega arith in let y : 0 + m ≡ m = omega arith in rw (z, y)
up_from_append first (suc n) m =
    let z : first + suc n ≡ suc first + n = omega arith in
    let y : suc n + m ≡ suc (n + m) = omega arith in
    rw (z, y) (ap (λ (l : List ℕ). first ∷ l) (up_from_append (suc first) n m))

-- What the numbers from one on begin with is numbers from there on, without a gap.
pub up_from_begins : (first n : ℕ) (l m : List ℕ) → l ++ m ≡ up_from first n → l ≡ up_from first (length l)
unfolding up_from
up_from_begins first n [] m h = refl
up_from_begins first zero (x ∷ l) m h = cc
up_from_begins first (suc n) (x ∷ l) m h =
    let same : x ≡ first = head-eq_of_cons-eq h in
    let others : l ++ m ≡ up_from (suc first) n = tail-eq_of_cons-eq h in
    rw (same, ← up_from_begins (suc first) n l m others)
