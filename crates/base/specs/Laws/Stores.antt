-- What is read inside a list; a list after a store: its length, what is read, and how many pass a test. Assumes nothing.
use Rattle.std.specs.Prelude.{Bool, cond, List, [], ◌∷◌, map, ◌≢◌, ◌≡◌, refl, ℕ, zero, suc, ◌+◌, ◌<◌, eqb, length, get_or, set}
use Rattle.std.proofs.Common.{sym, ap, ◌∙◌, arith, eqb-true, length-set, get_or-set_same, get_or-set_other}
use Rattle.std.proofs.lemmas.Bool.{eqb-false}
use Rattle.std.proofs.Math.ListN.{get_or-map}
use Rattle.std.proofs.Math.Seq.{map-set_same}
use Rattle.base.specs.Lists.{tally}
use Rattle.base.specs.Laws.Tests.{by_test, by_equal}

module _ {A : Type 0} where
  -- what is read inside a list is the same with another default
  pub any_default : (l : List A) (n : ℕ) (d e : A) → n < length l → get_or l n d ≡ get_or l n e
  any_default [] n d e inside = absurd (omega arith)
  any_default (x ∷ l) zero d e inside = refl
  any_default (x ∷ l) (suc n) d e inside = any_default l n d e (omega arith)

  -- a list is as long after a store
  pub long_set : (n : ℕ) (l : List A) (i : ℕ) (x : A) → length l ≡ n → length (set l i x) ≡ n
  long_set n l i x e = rw length-set e

  -- what is read after a store is what was stored, or what stood there
  pub read_set : (l : List A) (i : ℕ) (x d : A) → i < length l → (P : A → Type 0) (j : ℕ)
      → (j ≡ i → P x) → (j ≢ i → P (get_or l j d)) → P (get_or (set l i x) j d)
  read_set l i x d inside P j same other =
      by_equal j i (λ e. rw (e, get_or-set_same l i x d inside) (same e)) (λ ne. rw (get_or-set_other l i j x d ne) (other ne))

  -- where the stored already stands, it stands after another store of it
  pub store_again : (l : List A) (i j : ℕ) (x d : A) → j < length l → get_or l j d ≡ x → get_or (set l i x) j d ≡ x
  store_again l i j x d b h =
      by_equal j i (λ e. rw e (get_or-set_same l i x d (omega arith))) (λ ne. rw (get_or-set_other l i j x d ne) h)

  -- a store changes how many pass a test by what it stores and what stood there
  pub tally_set : (q : A → Bool) (l : List A) (i : ℕ) (x d : A) → i < length l
      → tally q (set l i x) + cond (q (get_or l i d)) 1 0 ≡ tally q l + cond (q x) 1 0
  tally_set q [] i x d inside = absurd (omega arith)
  tally_set q (y ∷ l) zero x d inside =
      by_test (q y)
      (λ e. by_test (q x) (λ h. rw (e, h)) (λ h. rw (e, h) (omega arith)))
      (λ e. by_test (q x) (λ h. rw (e, h) (omega arith)) (λ h. rw (e, h)))
  tally_set q (y ∷ l) (suc i) x d inside =
      let rest = tally_set q l i x d (omega arith) in by_test (q y) (λ e. rw e (omega arith)) (λ e. rw e rest)

-- what stands after a store: the stored at its own index, and at every other what stood there
pub get_d_set : {A : Type 0} (l : List A) (i j : ℕ) (x d : A) → i < length l → get_or (set l i x) j d ≡ cond (eqb j i) x (get_or l j d)
get_d_set l i j x d h =
    by_test (eqb j i)
    (λ e. rw (e, eqb-true j i e) (get_or-set_same l i x d h))
    (λ e. rw e (get_or-set_other l i j x d (eqb-false j i e)))

-- what is read of each element is the same after a store of one of which the same is read
pub store_unseen : {A B : Type 0} (f : A → B) (l : List A) (i j : ℕ) (x d : A) → f x ≡ f (get_or l i d)
    → f (get_or (set l i x) j d) ≡ f (get_or l j d)
store_unseen f l i j x d e =
    sym (get_or-map f (set l i x) j d) ∙ ap (λ (k : List _). get_or k j (f d)) (map-set_same f l i x d e) ∙ get_or-map f l j d

-- a list of images after a store
pub map_set : {A B : Type 0} (f : A → B) (l : List A) (i : ℕ) (x : A) → map f (set l i x) ≡ set (map f l) i (f x)
map_set f [] i x = refl
map_set f (y ∷ l) zero x = refl
map_set f (y ∷ l) (suc i) x = rw (map_set f l i x)
