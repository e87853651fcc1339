-- A list given by what stands at each index: read, changed, and told from another list. Assumes nothing.
use Rattle.std.specs.Prelude.{◌≡◌, ◌≢◌, List, length, get_or, set}
use Rattle.std.proofs.Math.Path.{refl, ap}
use Rattle.std.proofs.Common.{sym, ◌∙◌, not-suc-le-zero, arith, ext_get_or}
use Prim.Native.Nat.{ℕ, zero, suc, ◌<◌, ◌≤◌}
use Rattle.std.proofs.Math.ListN.{get_or-eq_default}
use Rattle.std.proofs.Math.Seq.{set_out}
use Rattle.base.specs.Lists.{tabulate}

module _ {A : Type 0} where
  pub tabulate_long : (n : ℕ) (f : ℕ → A) → length (tabulate n f) ≡ n
  unfolding tabulate
  tabulate_long zero f = refl
  tabulate_long (suc n) f = ap suc (tabulate_long n (λ k. f (suc k)))

  -- at each index stands what was given for it
  pub tabulate_at : (n : ℕ) (f : ℕ → A) (i : ℕ) (d : A) → i < n → get_or (tabulate n f) i d ≡ f i
  unfolding tabulate
  tabulate_at zero f i d b = absurd (not-suc-le-zero b)
  tabulate_at (suc n) f zero d b = refl
  tabulate_at (suc n) f (suc i) d b = tabulate_at n (λ k. f (suc k)) i d (omega arith)

  pub tabulate_past : (n : ℕ) (f : ℕ → A) (i : ℕ) (d : A) → n ≤ i → get_or (tabulate n f) i d ≡ d
  tabulate_past n f i d b = get_or-eq_default (tabulate n f) d {n = i} (rw tabulate_long b)

  pub tabulate_set_past : (n : ℕ) (f : ℕ → A) (i : ℕ) (x : A) → n ≤ i → set (tabulate n f) i x ≡ tabulate n f
  tabulate_set_past n f i x b = set_out (tabulate n f) i x (rw tabulate_long b)

  -- it is the list that has the same at each index
  pub tabulate_is : (n : ℕ) (f : ℕ → A) (xs : List A) (d : A) → length xs ≡ n → ((k : ℕ) → k < n → f k ≡ get_or xs k d) → tabulate n f ≡ xs
  tabulate_is n f xs d long same =
      ext_get_or d (tabulate n f) xs (tabulate_long n f ∙ sym long)
      (λ k b. let below : k < n = rw tabulate_long at b in tabulate_at n f k d below ∙ same k below)

  pub tabulate_same : (n : ℕ) (f g : ℕ → A) → ((k : ℕ) → k < n → f k ≡ g k) → tabulate n f ≡ tabulate n g
  unfolding tabulate
  tabulate_same zero f g same = refl
  tabulate_same (suc n) f g same =
      rw (same 0 (omega arith), tabulate_same n (λ k. f (suc k)) (λ k. g (suc k)) (λ k b. same (suc k) (omega arith)))

  -- and with another element at one index, a store there
  pub tabulate_set : (n : ℕ) (f g : ℕ → A) (i : ℕ) (x : A) → i < n → f i ≡ x
      → ((k : ℕ) → k < n → k ≢ i → f k ≡ g k) → tabulate n f ≡ set (tabulate n g) i x
  unfolding tabulate
  tabulate_set zero f g i x b here others = absurd (not-suc-le-zero b)
  tabulate_set (suc n) f g zero x b here others =
      rw (here, tabulate_same n (λ k. f (suc k)) (λ k. g (suc k)) (λ k c. others (suc k) (omega arith) (λ e. omega arith)))
  tabulate_set (suc n) f g (suc i) x b here others =
      let later : (k : ℕ) → k < n → k ≢ i → f (suc k) ≡ g (suc k) = λ k c d. others (suc k) (omega arith) (λ e. d (omega arith)) in
      rw (
        others 0 (omega arith) (λ e. omega arith),
        tabulate_set n (λ k. f (suc k)) (λ k. g (suc k)) i x (omega arith) here later,
      )
