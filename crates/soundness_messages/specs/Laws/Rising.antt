-- The pass that keeps the last number of each cell: it goes through where each element fits and, within each cell, each number may come
-- after the one before it, as where numbers never fall, or rise within a most.
-- Assumes nothing.
use Rattle.std.specs.Prelude.{
  ◌≡◌,
  refl,
  Bool,
  true,
  not,
  ◌&&◌,
  ◌||◌,
  List,
  [],
  ◌∷◌,
  map,
  ℕ,
  ◌<◌,
  eqb,
  leb,
  ltb,
  length,
  get_or,
  set,
  replicate,
}
use Rattle.std.proofs.Common.{sym, ◌∙◌, subst, arith, eqb-true, eq-eqb, leb-true, le-leb, get_or-set_same, get_or-set_other}
use Rattle.std.proofs.Math.Bool.{and-false}
use Rattle.std.proofs.lemmas.Bool.{eqb-false}
use Rattle.std.proofs.Math.Dec.{leb-zero}
use Rattle.std.proofs.lemmas.List.{length-replicate, get_or-replicate}
use Rattle.base.specs.Laws.Lists.{every_wider, every_always}
use Rattle.base.specs.Laws.Stores.{long_set}
use Rattle.base.specs.Laws.Tests.{by_test, both, both_left, both_right}
use Rattle.base.specs.Lists.{select, every, never_falls, rises_within}
use Rattle.soundness_messages.specs.Messages.{rises}

-- each number may come after the one before it, and the first after a number that is given
abbrev pub in_turn : (ℕ → ℕ → Bool) → ℕ → List ℕ → Bool
in_turn after d [] = true
in_turn after d (x ∷ l) = after d x && in_turn after x l

-- Numbers never fall from one on where the next is not below it, and they do not from there on.
falls_step : (d x : ℕ) (l : List ℕ) → never_falls (d ∷ x ∷ l) ≡ (leb d x && never_falls (x ∷ l))
falls_step d x l =
    by_test (leb d x)
    (λ e. by_test (every (leb x) l)
    (λ f. rw (e, f, every_wider (leb x) (leb d) (λ y h. le-leb d y (omega (arith, leb-true x y h, leb-true d x e))) l f))
    (λ f. rw (e, f, and-false)))
    (λ e. rw e)

-- Each number not below the one before it is numbers that never fall, from one on,
never_falls_from : (d : ℕ) (l : List ℕ) → in_turn leb d l ≡ never_falls (d ∷ l)
never_falls_from d [] = refl
never_falls_from d (x ∷ l) = rw (never_falls_from x l) (sym (falls_step d x l))

-- and from none on.
pub never_falls_lem : (l : List ℕ) → in_turn leb 0 l ≡ never_falls l
never_falls_lem l = never_falls_from 0 l ∙ rw (every_always (leb 0) leb-zero l)

-- Numbers each above the one before it and none above a most rise within it.
pub rises_within_lem : (least most : ℕ) (l : List ℕ) → in_turn (λ d x. ltb d x && leb x most) least l ≡ rises_within least most l
rises_within_lem least most [] = refl
rises_within_lem least most (x ∷ l) = rw (rises_within_lem x most l)

-- the numbers of a cell, in order
abbrev pub numbers_in : {A : Type 0} → (A → ℕ) → (A → ℕ) → ℕ → List A → List ℕ
numbers_in cell_of number_of k l = map number_of (select (λ x. eqb (cell_of x) k) l)

module _ {A : Type 0} (fits : A → Bool) (after : ℕ → ℕ → ℕ → Bool) (cell_of number_of : A → ℕ) where
  -- the last numbers of the cells once an element is passed
  abbrev next : List ℕ → A → List ℕ
  next last x = set last (cell_of x) (number_of x)

  -- an element's number may come after the last one of a cell, if that is its cell
  abbrev above : List ℕ → A → ℕ → Bool
  above last x k = not (eqb (cell_of x) k) || after k (get_or last k 0) (number_of x)

  -- the numbers of a cell come in turn, from the last one before
  abbrev sorted : List ℕ → List A → ℕ → Bool
  sorted last l k = in_turn (after k) (get_or last k 0) (numbers_in cell_of number_of k l)

  module _ (n : ℕ) (inside : (x : A) → fits x ≡ true → cell_of x < n) where
    -- They do with one element more where that may come after the last number, and they do from there on.
    sorted_step : (last : List ℕ) (x : A) (l : List A) (k : ℕ) → length last ≡ n → fits x ≡ true
        → sorted last (x ∷ l) k ≡ (above last x k && sorted (next last x) l k)
    sorted_step last x l k long fit =
        by_test (eqb (cell_of x) k)
        (λ e.
        let same = get_or-set_same last (cell_of x) (number_of x) 0 (rw long (inside x fit)) in
        rw (e, subst (λ j. get_or (next last x) j 0 ≡ number_of x) (eqb-true (cell_of x) k e) same))
        (λ e. rw (e, get_or-set_other last (cell_of x) k (number_of x) 0 (λ same. eqb-false (cell_of x) k e (sym same))))

    -- Where the pass goes through, each element fits, and the numbers of each cell come in turn.
    passed : (last : List ℕ) (l : List A) → length last ≡ n → rises fits after cell_of number_of last l ≡ true
        → (every fits l ≡ true) × ((k : ℕ) → sorted last l k ≡ true)
    passed last [] long h = (refl, λ k. refl)
    passed last (x ∷ l) long h =
        let fit = both_left (fits x) _ h in
        let first = after (cell_of x) (get_or last (cell_of x) 0) (number_of x) in
        let rises_on = both_right (fits x) _ h in
        let rest = passed (next last x) l (long_set n last (cell_of x) (number_of x) long) (both_right first _ rises_on) in
        let here : (k : ℕ) → above last x k ≡ true =
        λ k. by_test (eqb (cell_of x) k) (λ e. rw e (rw (eqb-true (cell_of x) k e) at (both_left first _ rises_on))) (λ e. rw e) in
        (both fit rest.0, λ k. rw (sorted_step last x l k long fit) (both (here k) (rest.1 k)))

    -- Where each element fits and the numbers of each cell come in turn, the pass goes through.
    passes : (last : List ℕ) (l : List A) → length last ≡ n → every fits l ≡ true → ((k : ℕ) → k < n → sorted last l k ≡ true)
        → rises fits after cell_of number_of last l ≡ true
    passes last [] long all rising = refl
    passes last (x ∷ l) long all rising =
        let fit = both_left (fits x) _ all in
        let step : (k : ℕ) → k < n → (above last x k && sorted (next last x) l k) ≡ true =
        λ k b. rw (sorted_step last x l k long fit) at (rising k b) in
        let here = both_left (above last x (cell_of x)) _ (step (cell_of x) (inside x fit)) in
        both fit (both (rw (eq-eqb (cell_of x) (cell_of x) refl) at here)
        (passes (next last x) l (long_set n last (cell_of x) (number_of x) long) (both_right (fits x) _ all)
        (λ k b. both_right (above last x k) _ (step k b))))

    -- no number in any cell is 0 in each
    from_zero : (l : List A) (k : ℕ) → k < n → sorted (replicate n 0) l k ≡ in_turn (after k) 0 (numbers_in cell_of number_of k l)
    from_zero l k b = rw (get_or-replicate {A = ℕ} n k 0 0 b)

    -- From no number in any cell: what a pass that goes through tells,
    pub rises_tells : (l : List A) → rises fits after cell_of number_of (replicate n 0) l ≡ true
        → (every fits l ≡ true) × ((k : ℕ) → k < n → in_turn (after k) 0 (numbers_in cell_of number_of k l) ≡ true)
    rises_tells l h =
        let told = passed (replicate n 0) l (length-replicate {A = ℕ} n 0) h in
        (told.0, λ k b. sym (from_zero l k b) ∙ told.1 k)

    -- and what lets it go through.
    pub rises_of : (l : List A) → every fits l ≡ true → ((k : ℕ) → k < n → in_turn (after k) 0 (numbers_in cell_of number_of k l) ≡ true)
        → rises fits after cell_of number_of (replicate n 0) l ≡ true
    rises_of l all rising = passes (replicate n 0) l (length-replicate {A = ℕ} n 0) all (λ k b. from_zero l k b ∙ rising k b)
