-- The pass by marks, each one more than a number, which leave 0 for a cell that had none: it is the pass by the numbers, and an
-- element whose mark is the last one of its cell needs no test. Assumes nothing.
use Rattle.std.specs.Prelude.{◌≡◌, refl, Bool, true, false, List, [], ◌∷◌, map, ℕ, ◌+◌, ◌<◌, ◌≤◌, eqb, leb, length, get_or, set, replicate}
use Rattle.std.proofs.Common.{sym, ◌∙◌, add-one, arith, eqb-true, le-leb}
use Rattle.std.proofs.Math.Bool.{and-false}
use Rattle.std.proofs.lemmas.Bool.{lt-leb}
use Rattle.std.proofs.Math.Dec.{leb-zero, leb-suc-suc}
use Rattle.std.proofs.lemmas.List.{length-replicate, get_or-replicate, set-get_or}
use Rattle.base.specs.Laws.Stores.{long_set, get_d_set}
use Rattle.base.specs.Laws.Tests.{by_test, same_truth}
use Rattle.soundness_messages.specs.Laws.Rising.{in_turn, rises_tells, rises_of}
use Rattle.soundness_messages.specs.Messages.{rises, not_below}

-- one more than an element's number
abbrev pub mark_of : {A : Type 0} → (A → ℕ) → A → ℕ
mark_of number_of x = number_of x + 1

-- the pass by marks stands before the rest with the answer still open: named elements whose mark is the last one of their cell fit
pub record Passing {A : Type 0} (fits named : A → Bool) (cell_of number_of : A → ℕ) (n : ℕ)
    (answer : Bool) (last : List ℕ) (rest : List A) : Type 0 where
  pub long : length last ≡ n
  pub tested : (x : A) → named x ≡ true → get_or last (cell_of x) 0 ≡ mark_of number_of x → fits x ≡ true
  pub same : rises fits not_below cell_of (mark_of number_of) last rest ≡ answer

module _ {A : Type 0} (number_of : A → ℕ) where
  -- Marks come after a mark where the numbers do after its number.
  marks_follow : (n : ℕ) (l : List A) → in_turn leb (n + 1) (map (mark_of number_of) l) ≡ in_turn leb n (map number_of l)
  marks_follow n [] = refl
  marks_follow n (x ∷ l) =
      rw (marks_follow (number_of x) l, add-one n, add-one (number_of x), leb-suc-suc)

  -- Marks fall where the numbers do.
  marks_fall : (l : List A) → in_turn leb 0 (map (mark_of number_of) l) ≡ in_turn leb 0 (map number_of l)
  marks_fall [] = refl
  marks_fall (x ∷ l) = rw (marks_follow (number_of x) l, leb-zero (mark_of number_of x), leb-zero (number_of x))

-- The pass by marks begins with the answer of the pass by numbers.
pub pass_begins : {A : Type 0} (fits named : A → Bool) (cell_of number_of : A → ℕ) (n : ℕ) → ((x : A) → fits x ≡ true → cell_of x < n)
    → ((x : A) → named x ≡ true → cell_of x < n) → (answer : Bool) (l : List A)
    → rises fits not_below cell_of number_of (replicate n 0) l ≡ answer → Passing fits named cell_of number_of n answer (replicate n 0) l
pass_begins fits named cell_of number_of n inside below answer l same =
    record {
      long = length-replicate {A = ℕ} n 0;
      tested = λ x name mark. absurd (omega (arith, mark, get_or-replicate {A = ℕ} n (cell_of x) 0 0 (below x name)));
      same =
          same_truth _ _
          (λ h.
          let told = rises_tells fits not_below cell_of (mark_of number_of) n inside l h in
          rises_of fits not_below cell_of number_of n inside l told.0 (λ k b. rw (marks_fall number_of) at (told.1 k b)))
          (λ h.
          let told = rises_tells fits not_below cell_of number_of n inside l h in
          rises_of fits not_below cell_of (mark_of number_of) n inside l told.0 (λ k b. rw (marks_fall number_of) (told.1 k b))) ∙
          same;
    }

module _ {A : Type 0} {fits named : A → Bool} {cell_of number_of : A → ℕ} {n : ℕ} {answer : Bool} {last : List ℕ} {x : A} {rest : List A}
    (p : Passing fits named cell_of number_of n answer last (x ∷ rest)) where
  -- An element that does not fit decides.
  pub pass_unfit : fits x ≡ false → false ≡ answer
  pass_unfit unfit = rw unfit at p.same

  -- So does a mark below the last one of its cell.
  pub pass_falls : mark_of number_of x < get_or last (cell_of x) 0 → false ≡ answer
  pass_falls falls = rw (lt-leb _ _ falls, and-false) at p.same

  -- A named element whose mark is the last one of its cell is passed untested.
  pub pass_again : named x ≡ true → get_or last (cell_of x) 0 ≡ mark_of number_of x
      → Passing fits named cell_of number_of n answer last rest
  pass_again name mark =
      let above = le-leb (get_or last (cell_of x) 0) (mark_of number_of x) (omega arith) in
      record { long = p.long; tested = p.tested; same = rw (p.tested x name mark, above, ← mark, set-get_or) at p.same }

  -- Any other that fits is passed, where elements of one cell and one number fit alike.
  pub pass_next : ((y : A) → fits y ≡ true → cell_of y < n)
      → ((y z : A) → fits y ≡ true → named z ≡ true → cell_of y ≡ cell_of z → number_of y ≡ number_of z → fits z ≡ true)
      → fits x ≡ true → get_or last (cell_of x) 0 ≤ mark_of number_of x
      → Passing fits named cell_of number_of n answer (set last (cell_of x) (mark_of number_of x)) rest
  pass_next inside alike fit above =
      record {
        long = long_set n last (cell_of x) (mark_of number_of x) p.long;
        tested = λ y name mark.
            let last_one = rw (get_d_set last (cell_of x) (cell_of y) (mark_of number_of x) 0 (rw p.long (inside x fit))) at mark in
            by_test (eqb (cell_of y) (cell_of x))
            (λ e. alike x y fit name (sym (eqb-true (cell_of y) (cell_of x) e)) (omega (arith, rw e at last_one)))
            (λ e. p.tested y name (rw e at last_one));
        same = rw (fit, le-leb _ _ above) at p.same;
      }
