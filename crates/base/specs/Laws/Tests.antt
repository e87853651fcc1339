-- Booleans: proofs by the answers of a test or by the order of two numbers, disjunctions, conjunctions and chains of them, and when two
-- tests are the same.
-- Assumes nothing.
use Rattle.std.specs.Prelude.{
  ◌≡◌,
  refl,
  Bool,
  true,
  false,
  not,
  cond,
  ◌&&◌,
  ◌||◌,
  List,
  [],
  ◌∷◌,
  ◌≢◌,
  ℕ,
  zero,
  suc,
  ◌<◌,
  ◌≤◌,
  T,
  eqb,
  ltb,
  get_or,
}
use Rattle.std.proofs.Common.{sym, ◌∙◌, true≢false, eqb-true, ne_eqb, ltb-true, ltb-false}
use Rattle.std.proofs.Math.Bool.{and-false}
use Rattle.std.proofs.lemmas.Bool.{eqb-false}

-- What holds by either answer of a test holds.
pub by_test {ℓ} : {P : Type ℓ} (b : Bool) → (b ≡ true → P) → (b ≡ false → P) → P
by_test true passes fails = passes refl
by_test false passes fails = fails refl

-- What holds of two numbers that are the same, and of two that are not, holds.
pub by_equal {ℓ} : {P : Type ℓ} (a b : ℕ) → (a ≡ b → P) → (a ≢ b → P) → P
by_equal a b same other = by_test (eqb a b) (λ e. same (eqb-true a b e)) (λ e. other (eqb-false a b e))

-- What holds of a number below another, and of one that is not, holds.
pub by_less {ℓ} : {P : Type ℓ} (a b : ℕ) → (a < b → P) → (b ≤ a → P) → P
by_less a b below above = by_test (ltb a b) (λ e. below (ltb-true a b e)) (λ e. above (ltb-false a b e))

-- Two tests that pass, pass together.
pub both : {a b : Bool} → a ≡ true → b ≡ true → (a && b) ≡ true
both p q = rw (p, q)

-- Of two tests that pass together the first passes.
pub both_left : (a b : Bool) → (a && b) ≡ true → a ≡ true
both_left true b p = refl
both_left false b p = p

-- Of two tests that pass together the second passes.
pub both_right : (a b : Bool) → (a && b) ≡ true → b ≡ true
both_right true b p = p
both_right false b p = cc

-- what holds of either value, under the answer that chooses it, holds of the chosen
pub chosen : {A : Type 0} (P : A → Type 0) (b : Bool) (x y : A) → (b ≡ true → P x) → (b ≡ false → P y) → P (cond b x y)
chosen P true x y p q = p refl
chosen P false x y p q = q refl

-- where both values are one, a test chooses it
pub same_either : {A : Type 0} (b : Bool) (v : A) → cond b v v ≡ v
same_either true v = refl
same_either false v = refl

-- where a chosen test passes, it passes with a wider first test
pub first_wider : (b x y z : Bool) → (x ≡ true → y ≡ true) → cond b x z ≡ true → cond b y z ≡ true
first_wider true x y z wider h = wider h
first_wider false x y z wider h = h

-- a disjunction holds where its second part does
pub or_right : (a : Bool) {b : Bool} → b ≡ true → (a || b) ≡ true
or_right true p = refl
or_right false p = p

pub or_false_left : (a b : Bool) → (a || b) ≡ false → a ≡ false
or_false_left true b h = h
or_false_left false b h = refl

-- a test passes wherever one does from which it follows
pub if_so_lem : (a b : Bool) → (a ≡ true → b ≡ true) → (not a || b) ≡ true
if_so_lem true b follows = follows refl
if_so_lem false b follows = refl

-- a value is not both true and false
pub not_both : {b : Bool} → b ≡ true → b ≡ false → ⊥
not_both p q = true≢false (sym p ∙ q)

pub true_of : (b : Bool) → T b → b ≡ true
true_of true t = refl
true_of false t = absurd t

-- a chain of conjunctions, b && c && d ..
abbrev pub chain : Bool → List Bool → Bool
chain b [] = b
chain b (c ∷ cs) = chain (b && c) cs

abbrev pub AllTrue : List Bool → Type 0
AllTrue [] = Unit {0}
AllTrue (c ∷ cs) = (c ≡ true) × AllTrue cs

chain_false : (cs : List Bool) → chain false cs ≡ false
chain_false [] = refl
chain_false (c ∷ cs) = chain_false cs

-- where a chain holds, each part does
pub parts : (b : Bool) (cs : List Bool) → chain b cs ≡ true → (b ≡ true) × AllTrue cs
parts b [] h = (h, tt)
parts true (c ∷ cs) h = let p = parts c cs h in (refl, (p.0, p.1))
parts false (c ∷ cs) h = absurd (not_both h (chain_false cs))

-- and the one at each index
pub chain_at : (b : Bool) (cs : List Bool) → chain b cs ≡ true → (i : ℕ) → get_or (b ∷ cs) i true ≡ true
chain_at b cs h zero = (parts b cs h).0
chain_at b [] h (suc i) = refl
chain_at true (c ∷ cs) h (suc i) = chain_at c cs h i
chain_at false (c ∷ cs) h (suc i) = absurd (not_both h (chain_false cs))

-- where each part holds, the chain does
pub chained : (b : Bool) (cs : List Bool) → b ≡ true → AllTrue cs → chain b cs ≡ true
chained b [] h t = h
chained b (c ∷ cs) h t = chained (b && c) cs (both h t.0) t.1

-- Two tests of which each passes where the other does are the same.
pub same_truth : (a b : Bool) → (a ≡ true → b ≡ true) → (b ≡ true → a ≡ true) → a ≡ b
same_truth true b to from = sym (to refl)
same_truth false true to from = from refl
same_truth false false to from = refl

-- A conjunction fails where its first part does.
pub fails_left : {a : Bool} (b : Bool) → a ≡ false → (a && b) ≡ false
fails_left b fails = rw fails

-- And where its second part does.
pub fails_right : (a : Bool) {b : Bool} → b ≡ false → (a && b) ≡ false
fails_right a fails = rw fails (and-false a)

-- Two numbers are compared either way round.
pub eqb_swap : (m n : ℕ) → eqb m n ≡ eqb n m
eqb_swap m n = by_test (eqb m n) (λ e. rw (eqb-true m n e)) (λ e. e ∙ sym (ne_eqb n m (λ h. eqb-false m n e (sym h))))
