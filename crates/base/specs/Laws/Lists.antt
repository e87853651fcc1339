-- Laws of lists under a Boolean test: of the elements that pass, of the list without the first of them, and of the list with some changed.
-- Assumes nothing.
use Rattle.std.specs.Prelude.{◌≡◌, refl, Bool, true, false, ◌&&◌, not, ℕ, zero, suc, ◌+◌, ◌<◌, ◌≤◌, length, get_or, take, drop}
use Rattle.std.proofs.Math.Bool.{and_assoc}
use mathlib.Core.List.{List, [], ◌∷◌, ◌++◌, map, head-eq_of_cons-eq}
use Rattle.std.proofs.Common.{add-one, arith, length-append, length-take, drop-cons, get_or-take}
use Rattle.std.proofs.lemmas.Bool.{not-true}
use Rattle.base.specs.Lists.{select, tally, without, change_first, change_each, every}
use Rattle.base.specs.Laws.Tests.{by_test, both, both_left, both_right, not_both}

module _ {A : Type 0} where
  -- A test that always passes, passes at every element.
  pub every_always : (p : A → Bool) → ((x : A) → p x ≡ true) → (l : List A) → every p l ≡ true
  every_always p always [] = refl
  every_always p always (x ∷ l) = simp (always x, every_always p always l)

  -- A test that passes where two others do, passes at every element if they do.
  pub every_both : (p q r : A → Bool) → ((x : A) → p x ≡ true → q x ≡ true → r x ≡ true)
      → (l : List A) → every p l ≡ true → every q l ≡ true → every r l ≡ true
  every_both p q r joined [] ps qs = refl
  every_both p q r joined (x ∷ l) ps qs =
      simp (
        joined x (both_left (p x) _ ps) (both_left (q x) _ qs),
        every_both p q r joined l (both_right (p x) _ ps) (both_right (q x) _ qs),
      )

  -- A wider test passes at every element if the narrower does.
  pub every_wider : (p q : A → Bool) → ((x : A) → p x ≡ true → q x ≡ true) → (l : List A) → every p l ≡ true → every q l ≡ true
  every_wider p q wider l all = every_both p p q (λ x h _. wider x h) l all all

  -- Two tests that pass at every element pass together.
  pub every_and : (p q : A → Bool) (l : List A) → every p l ≡ true → every q l ≡ true → every (λ x. p x && q x) l ≡ true
  every_and p q l = every_both p q (λ x. p x && q x) (λ x g e. both g e) l

  -- A test of each of one list with each of another, the other way round.
  pub every_swap : (p q : A → A → Bool) → ((x y : A) → p x y ≡ true → q y x ≡ true)
      → (l m : List A) → every (λ x. every (p x) m) l ≡ true → every (λ y. every (q y) l) m ≡ true
  every_swap p q swap l [] h = refl
  every_swap p q swap l (y ∷ m) h =
      both (every_wider _ (q y) (λ x e. swap x y (both_left (p x y) (every (p x) m) e)) l h)
      (every_swap p q swap l m (every_wider _ (λ x. every (p x) m) (λ x. both_right (p x y) (every (p x) m)) l h))

  -- A test at every element of two lists joined.
  pub every_append : (p : A → Bool) (l m : List A) → every p (l ++ m) ≡ (every p l && every p m)
  every_append p [] m = refl
  every_append p (x ∷ l) m = simp (every_append p l m, and_assoc)

  -- A test at every element after a change.
  pub every_map : {B : Type 0} (p : B → Bool) (f : A → B) (l : List A) → every p (map f l) ≡ every (λ x. p (f x)) l
  every_map p f [] = refl
  every_map p f (x ∷ l) = simp (every_map p f l)

  -- What passes at every element passes at those that are selected.
  pub every_select : (p q : A → Bool) (l : List A) → every p l ≡ true → every p (select q l) ≡ true
  every_select p q [] all = refl
  every_select p q (x ∷ l) all =
      let rest : every p (select q l) ≡ true = every_select p q l (both_right (p x) _ all) in
      by_test (q x) (λ e. simp (e, both_left (p x) _ all, rest)) (λ e. simp (e, rest))

  -- What passes at every element passes where one is left out.
  pub every_without : (p q : A → Bool) (l : List A) → every p l ≡ true → every p (without q l) ≡ true
  every_without p q [] all = refl
  every_without p q (x ∷ l) all =
      by_test (q x)
      (λ e. simp e (both_right (p x) _ all))
      (λ e. simp (e, both_left (p x) _ all, every_without p q l (both_right (p x) _ all)))

  -- What a change of one that passes q keeps true, passes at every element after it.
  pub every_change_first : (p q : A → Bool) (f : A → A) → ((x : A) → p x ≡ true → q x ≡ true → p (f x) ≡ true)
      → (l : List A) → every p l ≡ true → every p (change_first q f l) ≡ true
  every_change_first p q f changed [] all = refl
  every_change_first p q f changed (x ∷ l) all =
      by_test (q x)
      (λ e. simp (e, changed x (both_left (p x) _ all) e) (both_right (p x) _ all))
      (λ e. simp (e, both_left (p x) _ all, every_change_first p q f changed l (both_right (p x) _ all)))

  -- Every selected element passes.
  pub every_selected : (p : A → Bool) (l : List A) → every p (select p l) ≡ true
  every_selected p [] = refl
  every_selected p (x ∷ l) = by_test (p x) (λ e. simp (e, every_selected p l)) (λ e. simp (e, every_selected p l))

  -- What passes at every element passes at one.
  pub every_at : (p : A → Bool) (l : List A) (i : ℕ) (d : A) → every p l ≡ true → i < length l → p (get_or l i d) ≡ true
  every_at p [] i d all inside = absurd (omega arith)
  every_at p (x ∷ l) zero d all inside = both_left (p x) _ all
  every_at p (x ∷ l) (suc i) d all inside = every_at p l i d (both_right (p x) _ all) (omega arith)

  -- What is left from an index of the first n elements is the one there and what is left from the next.
  pub read_slot : (n : ℕ) (l : List A) (i : ℕ) (d : A) → i < length (take n l) → drop i (take n l) ≡ get_or l i d ∷ drop (i + 1) (take n l)
  read_slot n l i d held = rw (add-one, drop-cons (take n l) i d, get_or-take n l i d (omega (arith, length-take n l)))

  -- Where none passes, none is selected.
  pub select_none : (p : A → Bool) (l : List A) → every (λ x. not (p x)) l ≡ true → select p l ≡ []
  select_none p [] none = refl
  select_none p (x ∷ l) none = simp (not-true (p x) (both_left _ _ none), select_none p l (both_right (not (p x)) _ none))

  -- Where none passes, every element fails.
  pub none_passes : (p : A → Bool) (l : List A) → select p l ≡ [] → every (λ x. not (p x)) l ≡ true
  none_passes p [] none = refl
  none_passes p (x ∷ l) none = by_test (p x) (λ e. cc (rw e at none)) (λ e. simp (e, none_passes p l (rw e at none)))

  -- What passes of two lists joined.
  pub select_append : (p : A → Bool) (l m : List A) → select p (l ++ m) ≡ select p l ++ select p m
  select_append p [] m = refl
  select_append p (x ∷ l) m = by_test (p x) (λ e. simp (e, select_append p l m)) (λ e. simp (e, select_append p l m))

  -- How many pass of two lists joined.
  pub tally_append : (p : A → Bool) (l m : List A) → tally p (l ++ m) ≡ tally p l + tally p m
  tally_append p l m = rw (select_append, length-append)

  -- No more pass than there are.
  pub tally_bounded : (p : A → Bool) (l : List A) → tally p l ≤ length l
  tally_bounded p [] = omega arith
  tally_bounded p (x ∷ l) = let rest = tally_bounded p l in by_test (p x) (λ e. simp e (omega arith)) (λ e. simp e (omega arith))

  -- What passes one test and then another passes both.
  pub select_select : (p q : A → Bool) (l : List A) → select q (select p l) ≡ select (λ x. p x && q x) l
  select_select p q [] = refl
  select_select p q (x ∷ l) = by_test (p x) (λ e. simp (e, select_select p q l)) (λ e. simp (e, select_select p q l))

  -- A change that a test does not see leaves alone which elements pass.
  pub select_map : (p : A → Bool) (f : A → A) → ((x : A) → p (f x) ≡ p x) → (l : List A) → select p (map f l) ≡ map f (select p l)
  select_map p f kept [] = refl
  select_map p f kept (x ∷ l) = by_test (p x) (λ e. simp (kept x, e, select_map p f kept l)) (λ e. simp (kept x, e, select_map p f kept l))

  -- Leaving out the first that passes q leaves alone what passes p, where nothing passes both.
  pub without_other : (p q : A → Bool) → ((x : A) → q x ≡ true → p x ≡ false) → (l : List A) → select p (without q l) ≡ select p l
  without_other p q apart [] = refl
  without_other p q apart (x ∷ l) = by_test (q x) (λ e. simp (e, apart x e)) (λ e. simp (e, without_other p q apart l))

  -- Where q is the narrower test, it is left out of what passes p.
  pub without_same : (p q : A → Bool) → ((x : A) → q x ≡ true → p x ≡ true) → (l : List A) → select p (without q l) ≡ without q (select p l)
  without_same p q within [] = refl
  without_same p q within (x ∷ l) =
      by_test (q x)
      (λ e. simp (e, within x e))
      (λ e. by_test (p x) (λ h. simp (e, h, without_same p q within l)) (λ h. simp (e, h, without_same p q within l)))

  -- Without the first that passes, what passes is the rest of what passed.
  pub without_head : (q : A → Bool) (l : List A) (x : A) (xs : List A) → select q l ≡ x ∷ xs → select q (without q l) ≡ xs
  without_head q [] x xs heads = cc
  without_head q (y ∷ l) x xs heads =
      by_test (q y) (λ e. let h = rw e at heads in rw e (cc)) (λ e. simp (e, without_head q l x xs (rw e at heads)))

  -- The first to pass is the first to pass a narrower test that it passes.
  pub first_narrower : (p q : A → Bool) → ((x : A) → q x ≡ true → p x ≡ true) → (l : List A) (x : A) (rest : List A)
      → select p l ≡ x ∷ rest → q x ≡ true → (more : List A) × (select q l ≡ x ∷ more)
  first_narrower p q within [] x rest first passes = let z : ◌≡◌ {A = ℕ} 0 1 = cc in absurd (omega arith)
  first_narrower p q within (y ∷ l) x rest first passes =
      by_test (p y)
      (λ e. let same : y ≡ x = head-eq_of_cons-eq (rw e at first) in (select q l, rw (same, passes)))
      (λ e. by_test (q y)
      (λ g. absurd (not_both (within y g) e))
      (λ g. rw g (first_narrower p q within l x rest (rw e at first) passes)))

  -- A narrower test that the first to pass also passes leaves out the same element.
  pub without_narrower : (p q : A → Bool) (l : List A) (x : A) (rest : List A) → select p l ≡ x ∷ rest → q x ≡ true
      → without (λ y. p y && q y) l ≡ without p l
  without_narrower p q [] x rest first passes = refl
  without_narrower p q (y ∷ l) x rest first passes =
      by_test (p y)
      (λ e. let same : y ≡ x = head-eq_of_cons-eq (rw e at first) in rw (e, same, passes))
      (λ e. simp (e, without_narrower p q l x rest (rw e at first) passes))

  -- Where something passes in front, it is left out there.
  pub without_append : (q : A → Bool) (l m : List A) → 0 < tally q l → without q (l ++ m) ≡ without q l ++ m
  without_append q [] m some = absurd (omega arith)
  without_append q (x ∷ l) m some = by_test (q x) (λ e. simp e) (λ e. simp (e, without_append q l m (rw e at some)))

  -- Behind elements of which none passes, the first that does is left out.
  pub without_at : (q : A → Bool) (l : List A) (x : A) (m : List A) → select q l ≡ [] → q x ≡ true → without q (l ++ x ∷ m) ≡ l ++ m
  without_at q [] x m none passes = rw passes
  without_at q (y ∷ l) x m none passes =
      by_test (q y) (λ e. cc (rw e at none)) (λ e. simp (e, without_at q l x m (rw e at none) passes))

  -- Behind elements of which none passes, the first that does is changed.
  pub change_first_at : (q : A → Bool) (f : A → A) (l : List A) (x : A) (m : List A) → select q l ≡ [] → q x ≡ true
      → change_first q f (l ++ x ∷ m) ≡ l ++ f x ∷ m
  change_first_at q f [] x m none passes = rw passes
  change_first_at q f (y ∷ l) x m none passes =
      by_test (q y) (λ e. cc (rw e at none)) (λ e. simp (e, change_first_at q f l x m (rw e at none) passes))

  -- A change that the test does not see, of the list without the first that passes.
  pub without_map : (f : A → A) (p : A → Bool) → ((x : A) → p (f x) ≡ p x) → (l : List A) → map f (without p l) ≡ without p (map f l)
  without_map f p kept [] = refl
  without_map f p kept (x ∷ l) = by_test (p x) (λ e. simp (kept x, e)) (λ e. simp (kept x, e, without_map f p kept l))

  -- Where something passes, the list without the first that does is one shorter.
  pub length_without : (q : A → Bool) (l : List A) → 0 < tally q l → suc (length (without q l)) ≡ length l
  length_without q [] some = omega arith
  length_without q (x ∷ l) some = by_test (q x) (λ e. simp e) (λ e. simp (e, length_without q l (rw e at some)))

  -- Where q is the narrower test and something passes it, one fewer passes p without the first that passes q.
  pub tally_without : (p q : A → Bool) → ((x : A) → q x ≡ true → p x ≡ true) → (l : List A) → 0 < tally q l
      → suc (tally p (without q l)) ≡ tally p l
  tally_without p q within [] some = omega arith
  tally_without p q within (x ∷ l) some =
      by_test (q x)
      (λ e. simp (e, within x e))
      (λ e. by_test (p x)
      (λ h. simp (e, h, tally_without p q within l (rw e at some)))
      (λ h. simp (e, h, tally_without p q within l (rw e at some))))

  -- A change of the first that passes keeps the length.
  pub length_change_first : (q : A → Bool) (f : A → A) (l : List A) → length (change_first q f l) ≡ length l
  length_change_first q f [] = refl
  length_change_first q f (x ∷ l) = by_test (q x) (λ e. simp e) (λ e. simp (e, length_change_first q f l))

  -- Where none passes, none is changed.
  pub change_first_unmet : (q : A → Bool) (f : A → A) (l : List A) → select q l ≡ [] → change_first q f l ≡ l
  change_first_unmet q f [] none = refl
  change_first_unmet q f (x ∷ l) none = by_test (q x) (λ e. cc (rw e at none)) (λ e. simp (e, change_first_unmet q f l (rw e at none)))

  -- What a change keeps of an element, the change of those that pass keeps.
  pub change_each_keeps : {B : Type 0} (g : A → B) (q : A → Bool) (f : A → A) → ((x : A) → g (f x) ≡ g x)
      → (x : A) → g (change_each q f x) ≡ g x
  change_each_keeps g q f kept x = by_test (q x) (λ e. simp (e, kept x)) (λ e. simp e)

  -- Where q is the narrower test, the first that passes it is changed in what passes p.
  pub change_first_same : (p q : A → Bool) (f : A → A) → ((x : A) → p (f x) ≡ p x) → ((x : A) → q x ≡ true → p x ≡ true)
      → (l : List A) → select p (change_first q f l) ≡ change_first q f (select p l)
  change_first_same p q f kept within [] = refl
  change_first_same p q f kept within (x ∷ l) =
      by_test (q x)
      (λ e. simp (e, kept x, within x e))
      (λ e. by_test (p x) (λ h. simp (e, h, change_first_same p q f kept within l))
      (λ h. simp (e, h, change_first_same p q f kept within l)))

  -- Changing the first that passes q leaves alone what passes p, where none of that passes q.
  pub change_first_none : (p q : A → Bool) (f : A → A) → ((x : A) → p (f x) ≡ p x)
      → (l : List A) → every (λ x. not (q x)) (select p l) ≡ true → select p (change_first q f l) ≡ select p l
  change_first_none p q f kept [] none = refl
  change_first_none p q f kept (x ∷ l) none =
      by_test (p x)
      (λ e.
      let h = rw e at none in
      simp (e, not-true (q x) (both_left _ _ h), change_first_none p q f kept l (both_right (not (q x)) _ h)))
      (λ e. by_test (q x) (λ h. simp (h, kept x, e)) (λ h. simp (h, e, change_first_none p q f kept l (rw e at none))))

  -- Where nothing passes both, none of what passes p passes q.
  pub none_of_other : (p q : A → Bool) → ((x : A) → q x ≡ true → p x ≡ false) → (l : List A) → every (λ x. not (q x)) (select p l) ≡ true
  none_of_other p q apart l =
      every_wider p (λ x. not (q x)) (λ x h. by_test (q x) (λ e. rw e (cc (apart x e))) (λ e. rw e)) (select p l) (every_selected p l)

  -- Changing the first that passes q leaves alone what passes p, where nothing passes both.
  pub change_first_other : (p q : A → Bool) (f : A → A) → ((x : A) → p (f x) ≡ p x) → ((x : A) → q x ≡ true → p x ≡ false)
      → (l : List A) → select p (change_first q f l) ≡ select p l
  change_first_other p q f kept apart l = change_first_none p q f kept l (none_of_other p q apart l)

  -- Changing the first that passes q leaves what f gives of those that pass p, where neither sees the change.
  pub change_first_unseen : {B : Type 0} (f : A → B) (p q : A → Bool) (g : A → A) → ((x : A) → f (g x) ≡ f x) → ((x : A) → p (g x) ≡ p x)
      → (l : List A) → map f (select p (change_first q g l)) ≡ map f (select p l)
  change_first_unseen f p q g same kept [] = refl
  change_first_unseen f p q g same kept (x ∷ l) =
      let rest = change_first_unseen f p q g same kept l in
      by_test (q x)
      (λ e. by_test (p x) (λ h. simp (e, kept x, h, same x)) (λ h. simp (e, kept x, h)))
      (λ e. by_test (p x) (λ h. simp (e, h, rest)) (λ h. simp (e, h, rest)))
