-- What slots hold after one of them is filled, or dies, or what they hold changes: for any columns beside the pairs.
-- Assumes nothing.
use Rattle.std.specs.Prelude.{
  Bool,
  true,
  false,
  not,
  List,
  [],
  ◌∷◌,
  ◌++◌,
  map,
  ◌≢◌,
  ◌≡◌,
  refl,
  ℕ,
  suc,
  ◌+◌,
  ◌<◌,
  ◌≤◌,
  ltb,
  length,
  get_or,
  set,
  take,
  drop,
}
use Rattle.std.proofs.Common.{
  append-nil,
  sym,
  ap,
  ◌∙◌,
  add-one,
  arith,
  lt-ltb,
  le-ltb,
  length-append,
  length-drop,
  take-append-drop,
  take-suc,
  get_or-take,
  get_or-drop,
  length-take-le,
}
use Rattle.std.proofs.lemmas.List.{set_split, set-get_or}
use Rattle.base.specs.Lists.{select, without, change_first, every}
use Rattle.transit.specs.Slots.{held}
use Rattle.base.specs.Laws.Tests.{by_test, by_less, both}
use Rattle.base.specs.Laws.Lists.{select_none, select_append, without_at, change_first_at}
use Rattle.transit.specs.Columns.{DEAD}
use Rattle.transit.specs.Message.{cells}

module _ {A : Type 0} where
  -- Dead slots hold nothing.
  pub held_dead : (f : ℕ → ℕ → A) (i : ℕ) (ps : List ℕ) → ((k : ℕ) → k < length ps → get_or ps k 0 ≡ DEAD) → held f i ps ≡ []
  held_dead f i [] dead = refl
  held_dead f i (p ∷ ps) dead = rw (dead 0 (omega arith)) (held_dead f (suc i) ps (λ k h. dead (suc k) (omega arith)))

  -- Slots that hold the same hold the same list.
  pub held_same : (f g : ℕ → ℕ → A) (i : ℕ) (ps : List ℕ) → ((k x : ℕ) → i ≤ k → k < i + length ps → g k x ≡ f k x)
      → held g i ps ≡ held f i ps
  held_same f g i [] same = refl
  held_same f g i (p ∷ ps) same =
      rw (same i p (omega arith) (omega arith), held_same f g (suc i) ps (λ k x l h. same k x (omega arith) (omega arith)))

  -- Slots one further are those of which each holds what the next does.
  held_shift : (f : ℕ → ℕ → A) (i : ℕ) (ps : List ℕ) → held f (suc i) ps ≡ held (λ k. f (suc k)) i ps
  held_shift f i [] = refl
  held_shift f i (p ∷ ps) = rw (held_shift f (suc i) ps)

  -- What passes at each live slot passes at every element.
  pub held_every : (f : ℕ → ℕ → A) (q : A → Bool) (ps : List ℕ)
      → ((k : ℕ) → k < length ps → get_or ps k 0 < cells → q (f k (get_or ps k 0)) ≡ true) → every q (held f 0 ps) ≡ true
  held_every f q [] all = refl
  held_every f q (p ∷ ps) all =
      let rest = held_every (λ k. f (suc k)) q ps (λ k h l. all (suc k) (omega arith) l) in
      by_less p cells
      (λ live. rw (lt-ltb p cells live, held_shift f 0 ps) (both (all 0 (omega arith) live) rest))
      (λ dead. rw (le-ltb p cells dead, held_shift f 0 ps) rest)

  -- What live slots hold is changed as the list is.
  pub held_map : (f g : ℕ → ℕ → A) (h : A → A) (ps : List ℕ)
      → ((k : ℕ) → k < length ps → get_or ps k 0 < cells → g k (get_or ps k 0) ≡ h (f k (get_or ps k 0)))
      → held g 0 ps ≡ map h (held f 0 ps)
  held_map f g h [] same = refl
  held_map f g h (p ∷ ps) same =
      let rest = held_map (λ k. f (suc k)) (λ k. g (suc k)) h ps (λ k b l. same (suc k) (omega arith) l) in
      by_less p cells
      (λ live. rw (lt-ltb p cells live, held_shift g 0 ps, held_shift f 0 ps, rest, same 0 (omega arith) live))
      (λ dead. rw (le-ltb p cells dead, held_shift g 0 ps, held_shift f 0 ps, rest))

  -- What two rows of slots hold, one behind the other.
  held_append : (f : ℕ → ℕ → A) (ps qs : List ℕ) → held f 0 (ps ++ qs) ≡ held f 0 ps ++ held f (length ps) qs
  held_append f [] qs = refl
  held_append f (p ∷ ps) qs =
      let rest = held_append (λ k. f (suc k)) ps qs in
      by_test (ltb p cells)
      (λ e. rw (e, held_shift f 0 (ps ++ qs), held_shift f 0 ps, held_shift f (length ps) qs, rest))
      (λ e. rw (e, held_shift f 0 (ps ++ qs), held_shift f 0 ps, held_shift f (length ps) qs, rest))

  module _ (f : ℕ → ℕ → A) (ps : List ℕ) (i : ℕ) where
    -- The first slots hold no more than all.
    pub held_part : length (held f 0 (take i ps)) ≤ length (held f 0 ps)
    held_part =
        let all = ap (held f 0) (sym (take-append-drop i ps)) ∙ held_append f (take i ps) (drop i ps) in
        omega (arith, simp length-append at (ap length all))

    -- Those before the dead hold all.
    pub held_all : ((k : ℕ) → i ≤ k → k < length ps → get_or ps k 0 ≡ DEAD) → held f 0 (take i ps) ≡ held f 0 ps
    held_all dead =
        let all = ap (held f 0) (sym (take-append-drop i ps)) ∙ held_append f (take i ps) (drop i ps) in
        let none =
        held_dead f (length (take i ps)) (drop i ps)
        (λ k h. get_or-drop i ps k 0 ∙ dead (i + k) (omega arith) (omega (arith, length-drop i ps))) in
        sym (all ∙ rw (none, append-nil))

    module _ (inside : i < length ps) where
      -- The first slots with one more.
      held_next : held f 0 (take (i + 1) ps) ≡ held f 0 (take i ps) ++ held f i (get_or ps i 0 ∷ [])
      held_next = rw (add-one, take-suc ps i 0, held_append f (take i ps) (get_or ps i 0 ∷ []), length-take-le i ps (omega arith))

      -- The first slots with one more, which is live.
      pub held_live : get_or ps i 0 < cells → held f 0 (take (i + 1) ps) ≡ held f 0 (take i ps) ++ (f i (get_or ps i 0) ∷ [])
      held_live live = held_next ∙ rw (lt-ltb (get_or ps i 0) cells live)

      -- The first slots with one more, which is dead.
      pub held_gone : cells ≤ get_or ps i 0 → held f 0 (take (i + 1) ps) ≡ held f 0 (take i ps)
      held_gone gone = held_next ∙ rw (le-ltb (get_or ps i 0) cells gone, append-nil)

      -- A store in a slot leaves the slots before it and those behind it.
      held_at : (p : ℕ) → held f 0 (set ps i p) ≡ held f 0 (take i ps) ++ held f i (p ∷ drop (suc i) ps)
      held_at p = rw (set_split ps i p, held_append f (take i ps) (p ∷ drop (suc i) ps), length-take-le i ps (omega arith))

      -- A live slot holds one, between those before it and those behind it.
      held_cut : get_or ps i 0 < cells → held f 0 ps ≡ held f 0 (take i ps) ++ f i (get_or ps i 0) ∷ held f (suc i) (drop (suc i) ps)
      held_cut live = rw set-get_or at (held_at (get_or ps i 0)) ∙ rw (lt-ltb (get_or ps i 0) cells live)

  -- A slot filled behind all others holds the last.
  pub held_put : (f g : ℕ → ℕ → A) (t p : ℕ) (ps : List ℕ) → t < length ps → p < cells
      → ((k : ℕ) → t ≤ k → k < length ps → get_or ps k 0 ≡ DEAD) → ((k x : ℕ) → k < t → g k x ≡ f k x)
      → held g 0 (set ps t p) ≡ held f 0 ps ++ (g t p ∷ [])
  held_put f g t p ps inside small dead same =
      let before = length-take-le t ps (omega arith) in
      rw (
        held_at g ps t inside p,
        lt-ltb p cells small,
        held_dead g (suc t) (drop (suc t) ps)
            (λ k h. get_or-drop (suc t) ps k 0 ∙ dead (suc t + k) (omega arith) (omega (arith, length-drop (suc t) ps))),
        held_same f g 0 (take t ps) (λ k x _ h. same k x (omega arith)),
        held_all f ps t dead,
      )

  -- Where no live slot passes a test, none does.
  pub held_none : (f : ℕ → ℕ → A) (q : A → Bool) (ps : List ℕ)
      → ((k : ℕ) → k < length ps → get_or ps k 0 < cells → q (f k (get_or ps k 0)) ≡ false) → select q (held f 0 ps) ≡ []
  held_none f q ps others = select_none q (held f 0 ps) (held_every f (λ x. not (q x)) ps (λ k h l. rw (others k h l)))

-- The first live slot that passes a test.
module _ {A : Type 0} (f : ℕ → ℕ → A) (q : A → Bool) (ps : List ℕ) (j : ℕ) (inside : j < length ps) (live : get_or ps j 0 < cells)
    (passes : q (f j (get_or ps j 0)) ≡ true) (others : (k : ℕ) → k < j → get_or ps k 0 < cells → q (f k (get_or ps k 0)) ≡ false) where
  -- None before it does.
  before_none : select q (held f 0 (take j ps)) ≡ []
  before_none =
      held_none f q (take j ps) (λ k h l.
      let before : k < j = omega (arith, length-take-le j ps (omega arith)) in
      rw (get_or-take j ps k 0 before) (others k before (rw (get_or-take j ps k 0 before) at l)))

  -- It holds the first that passes.
  pub held_first : select q (held f 0 ps) ≡ f j (get_or ps j 0) ∷ select q (held f (suc j) (drop (suc j) ps))
  held_first = rw (held_cut f ps j inside live, select_append, before_none, passes)

  -- Where it dies, the list is without the first that passes.
  pub held_without : held f 0 (set ps j DEAD) ≡ without q (held f 0 ps)
  held_without =
      rw (held_at f ps j inside DEAD, held_cut f ps j inside live)
      (sym (without_at q (held f 0 (take j ps)) (f j (get_or ps j 0)) (held f (suc j) (drop (suc j) ps)) before_none passes))

  -- Where it alone changes, the list has its first that passes changed.
  pub held_changed : (g : ℕ → ℕ → A) (h : A → A) → g j (get_or ps j 0) ≡ h (f j (get_or ps j 0)) → ((k x : ℕ) → k ≢ j → g k x ≡ f k x)
      → held g 0 ps ≡ change_first q h (held f 0 ps)
  held_changed g h becomes same =
      let before = length-take-le j ps (omega arith) in
      rw (
        held_cut g ps j inside live,
        held_cut f ps j inside live,
        change_first_at q h (held f 0 (take j ps)) (f j (get_or ps j 0)) (held f (suc j) (drop (suc j) ps)) before_none passes,
        becomes,
        held_same f g 0 (take j ps) (λ k x _ b. same k x (λ e. omega (arith, e))),
        held_same f g (suc j) (drop (suc j) ps) (λ k x b _. same k x (λ e. omega (arith, e))),
      )
