-- Lists of which some elements are selected, or the first that passes a test leaves or is changed: tests at every element, and numbers
-- that never fall. Assumes nothing.
use Rattle.std.specs.Prelude.{◌≡◌, refl, Bool, true, false, ◌&&◌, List, [], ◌∷◌, ◌++◌, map, ℕ, ◌≤◌, leb, length}
use Rattle.std.proofs.Common.{◌∙◌, arith, leb-true, le-leb}
use Rattle.base.specs.Lists.{select, every, without, change_first, never_falls}
use Rattle.base.specs.Laws.Lists.{
  every_map,
  every_both,
  every_select,
  every_selected,
  every_wider,
  every_change_first,
  every_append,
  every_without,
}
use Rattle.base.specs.Laws.Tests.{by_test, both, both_left, both_right}

-- Numbers that never fall, and a number after them that is below none of them, never fall.
pub never_falls_append : (l : List ℕ) (x : ℕ) → never_falls l ≡ true → every (λ y. leb y x) l ≡ true → never_falls (l ++ x ∷ []) ≡ true
never_falls_append [] x sorted below = refl
never_falls_append (y ∷ l) x sorted below =
    let first : every (leb y) (l ++ x ∷ []) ≡ true = rw (every_append, both_left (every (leb y) l) _ sorted, both_left (leb y x) _ below) in
    both first (never_falls_append l x (both_right (every (leb y) l) _ sorted) (both_right (leb y x) _ below))

module _ {A : Type 0} where
  -- Numbers of which one is left out still never fall.
  pub never_falls_without : (f : A → ℕ) (q : A → Bool) (l : List A) → never_falls (map f l) ≡ true
      → never_falls (map f (without q l)) ≡ true
  never_falls_without f q [] sorted = refl
  never_falls_without f q (x ∷ l) sorted =
      let first : every (λ y. leb (f x) (f y)) l ≡ true = rw every_map at (both_left (every (leb (f x)) (map f l)) _ sorted) in
      let others = both_right (every (leb (f x)) (map f l)) _ sorted in
      by_test (q x)
      (λ e. rw e others)
      (λ e. rw e
      (both {a = every (leb (f x)) (map f (without q l))}
      (rw every_map (every_without (λ y. leb (f x) (f y)) q l first))
      (never_falls_without f q l others)))

  -- Where every element passes t, every element that passes p passes what follows from both.
  pub every_chosen : (p t r : A → Bool) → ((x : A) → p x ≡ true → t x ≡ true → r x ≡ true) → (l : List A) → every t l ≡ true
      → every r (select p l) ≡ true
  every_chosen p t r follows l all = every_both p t r follows (select p l) (every_selected p l) (every_select t p l all)

  -- The list without the first that passes is no longer than the list.
  pub without_shorter : (q : A → Bool) (l : List A) → length (without q l) ≤ length l
  without_shorter q [] = omega arith
  without_shorter q (x ∷ l) = let h = without_shorter q l in by_test (q x) (λ e. rw e (omega arith)) (λ e. rw e (omega arith))

  -- Other numbers of elements that all pass p never fall where theirs do not, if any two that do not fall do not fall then.
  pub never_falls_kept : (g h : A → ℕ) (p : A → Bool)
      → ((x y : A) → p x ≡ true → p y ≡ true → leb (g x) (g y) ≡ true → leb (h x) (h y) ≡ true)
      → (l : List A) → every p l ≡ true → never_falls (map g l) ≡ true → never_falls (map h l) ≡ true
  never_falls_kept g h p rises [] all sorted = refl
  never_falls_kept g h p rises (x ∷ l) all sorted =
      let others = both_right (p x) (every p l) all in
      let first : every (λ y. leb (g x) (g y)) l ≡ true = rw every_map at (both_left (every (leb (g x)) (map g l)) _ sorted) in
      let first' = every_both p _ (λ y. leb (h x) (h y)) (λ y. rises x y (both_left (p x) _ all)) l others first in
      both {a = every (leb (h x)) (map h l)} (rw every_map first')
      (never_falls_kept g h p rises l others (both_right (every (leb (g x)) (map g l)) _ sorted))

  -- Numbers of elements that all pass p never fall when that of the first that passes q is lowered, if p does not see the change and the
  -- number stays no lower than those up to it of elements that do not pass q.
  pub never_falls_change_first : (g : A → ℕ) (p q : A → Bool) (f : A → A) → ((x : A) → p (f x) ≡ p x)
      → ((x : A) → q x ≡ true → g (f x) ≤ g x)
      → ((x y : A) → p x ≡ true → p y ≡ true → q x ≡ false → q y ≡ true → g x ≤ g y → g x ≤ g (f y))
      → (l : List A) → every p l ≡ true → never_falls (map g l) ≡ true → never_falls (map g (change_first q f l)) ≡ true
  never_falls_change_first g p q f kept lower above [] all sorted = refl
  never_falls_change_first g p q f kept lower above (x ∷ l) all sorted =
      let here = both_left (p x) (every p l) all in
      let others = both_right (p x) (every p l) all in
      let from : A → A → Bool = λ y z. leb (g y) (g z) in
      let first : every (from x) l ≡ true = rw every_map at (both_left (every (leb (g x)) (map g l)) (never_falls (map g l)) sorted) in
      let rest = both_right (every (leb (g x)) (map g l)) (never_falls (map g l)) sorted in
      by_test (q x)
      (λ e.
      let still : every (leb (g (f x))) (map g l) ≡ true =
      rw every_map (every_wider (from x) (from (f x)) (λ y h. le-leb (g (f x)) (g y) (omega (arith, lower x e, leb-true))) l first) in
      rw e (both still rest))
      (λ e.
      let after : every (λ y. p y && from x y) (change_first q f l) ≡ true =
      every_change_first (λ y. p y && from x y) q f
      (λ y h c.
      let mine = both_left (p y) (from x y) h in
      both (kept y ∙ mine) (le-leb (g x) (g (f y)) (above x y here mine e c (leb-true (g x) (g y) (both_right (p y) (from x y) h)))))
      l (every_both p (from x) (λ y. p y && from x y) (λ y h k. both h k) l others first)
      in
      let still : every (leb (g x)) (map g (change_first q f l)) ≡ true =
      rw every_map (every_wider (λ y. p y && from x y) (from x) (λ y h. both_right (p y) (from x y) h) (change_first q f l) after)
      in
      rw e (both still (never_falls_change_first g p q f kept lower above l others rest)))
