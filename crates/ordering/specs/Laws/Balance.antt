-- What is taken from a to b, and behind it what is left, is what was there, and behind it what is sent: of any number that a message keeps
-- wherever it is, over each step and over a list of steps. Assumes nothing.
use Rattle.std.specs.Prelude.{◌≡◌, true, false, ◌&&◌, List, [], ◌∷◌, ◌++◌, map, ℕ, ◌<◌, Ok}
use Rattle.std.proofs.Math.Path.{sym, ap}
use Rattle.std.proofs.Common.{◌∙◌, append-nil, append_assoc}
use Rattle.std.proofs.lemmas.List.{map-append}
use Rattle.std.proofs.Math.Option.{none}
use Rattle.base.specs.Laws.Lists.{select_append, without_other}
use Rattle.base.specs.Laws.Tests.{by_test}
use Rattle.base.specs.Lists.{select}
use Rattle.transit.specs.Laws.Pairs.{other_pair}
use Rattle.transit.specs.Message.{letter, is_same_rank, between, place_order, ranks}
use Rattle.transit.specs.Unread.{next_message}
use Rattle.transit.specs.declared.Message.{Message}
use Rattle.transit.specs.declared.Place.TheVariants.{EndList}
use Rattle.transit.specs.declared.Rank.{Rank}
use Rattle.transit.specs.declared.Selection.TheVariants.{Between}
use Rattle.protocol.specs.Checks.{refusal}
use Rattle.protocol.proofs.Laws.Accepted.{TakeFits, take_fits}
use Rattle.protocol.specs.Laws.Core.{Core, core, core_step, each_between, unread_each}
use Rattle.protocol.proofs.Laws.CoreStep.{core_step_lem}
use Rattle.protocol.specs.Laws.State.{same_rank_eq, same_rank_self}
use Rattle.record.specs.Record.{decode}
use Rattle.protocol.specs.Sound.{sound}
use Rattle.broker.specs.State.{State, messages}
use Rattle.protocol.specs.Step.{apply}
use Rattle.record.specs.declared.Record.{Record}
use Rattle.record.specs.declared.Record.TheVariants.{Start, Call, Route, Send, Take, Move, Heed, Drain, Land, Part, End, Look}
use Rattle.ordering.specs.Claim.{Reading, Entry, after, accepted, is_take, sent}
use Rattle.ordering.specs.Laws.Runs.{entry, along}

-- from a to b: the numbers that the takes of the entries answer, and a number of what an entry sent
abbrev took : Rank → Rank → (Entry → ℕ) → List Entry → List ℕ
took a b answer es = map answer (select (is_take a b) es)

abbrev pub posted : Rank → Rank → (Message → ℕ) → State → Entry → List ℕ
posted a b f s e = map (λ v. f (next_message a b EndList v s.unread.sent)) (sent a b (e ∷ []))

-- What one entry takes stands in front.
took_cons : (a b : Rank) (answer : Entry → ℕ) (e : Entry) (es : List Entry)
    → took a b answer (e ∷ es) ≡ took a b answer (e ∷ []) ++ took a b answer es
took_cons a b answer e es = by_test (is_take a b e) (λ t. rw t) (λ t. rw t)

-- From a to b: a number of a message, and where a take answers it.
module _ (a b : Rank) (f : Message → ℕ) (answer : Entry → ℕ) where
  -- what an accepted record takes, and behind it what is left, is what was there, and behind it what it sends
  Balanced : (s : State) (r : Record) → Type 0
  Balanced s r =
      took a b answer (entry r s ∷ []) ++ each_between f a b (core_step r (core s)) ≡
      each_between f a b (core s) ++ posted a b f s (entry r s)

  -- a take answers the first number of its pair
  abbrev pub Answered : Type 0
  Answered = (s : State) → sound s ≡ true → TakeFits s b a
      → answer (entry (Take b a) s) ∷ each_between f a b (core_step (Take b a) (core s)) ≡ each_between f a b (core s)

  send_balanced : (s : State) (c d : Rank) (v : ℕ) → Balanced s (Send c d v)
  unfolding Balanced
  send_balanced s c d v =
      rw (select_append, map-append)
      (by_test (is_same_rank c a)
      (λ e. by_test (is_same_rank d b) (λ h. rw (e, h, same_rank_eq c a e, same_rank_eq d b h)) (λ h. rw (e, h)))
      (λ e. rw e))

  module _ (answered : Answered) where
    -- A take takes the first of its own pair, and leaves every other pair's.
    take_balanced : (s : State) (d c : Rank) → sound s ≡ true → refusal s (Take d c) ≡ none → Balanced s (Take d c)
    unfolding Balanced apply
    take_balanced s d c sd p =
        by_test (is_same_rank c a)
        (λ e. by_test (is_same_rank d b) (λ h. own (same_rank_eq c a e) (same_rank_eq d b h)) (λ h. rw (e, h) (other (rw (e, h)))))
        (λ e. rw e (other (rw e)))
      where
        own : c ≡ a → d ≡ b → Balanced s (Take d c)
        own ca db =
            rw (ca, db, same_rank_self a, same_rank_self b)
            (answered s sd (take_fits s b a (rw (ca, db) at p)) ∙ sym (append-nil _))

        other : (is_same_rank c a && is_same_rank d b) ≡ false
            → each_between f a b (core_step (Take d c) (core s)) ≡ each_between f a b (core s) ++ []
        other e = rw (append-nil, without_other (between a b) (between c d) (other_pair c d a b e) (core s).letters)

    step_balanced : (s : State) (r : Record) → sound s ≡ true → refusal s r ≡ none → Balanced s r
    unfolding Balanced
    step_balanced s (Start r h) sd p = sym (append-nil _)
    step_balanced s (Call c d) sd p = sym (append-nil _)
    step_balanced s (Route c d) sd p = sym (append-nil _)
    step_balanced s (Send c d v) sd p = send_balanced s c d v
    step_balanced s (Take d c) sd p = take_balanced s d c sd p
    step_balanced s (Move r h) sd p = sym (append-nil _)
    step_balanced s (Heed c r) sd p = sym (append-nil _)
    step_balanced s (Drain r q) sd p = sym (append-nil _)
    step_balanced s (Land r) sd p = sym (append-nil _)
    step_balanced s (Part c d) sd p = sym (append-nil _)
    step_balanced s (End r) sd p = sym (append-nil _)
    step_balanced s (Look r) sd p = sym (append-nil _)

-- Two balances, one after the other.
balances_join : (t u v w x y z : List ℕ) → t ++ w ≡ v ++ y → u ++ x ≡ w ++ z → t ++ u ++ x ≡ v ++ (y ++ z)
balances_join t u v w x y z e f =
    append_assoc t u x ∙ ap (λ (l : List ℕ). t ++ l) f ∙ sym (append_assoc t w z) ∙ ap (λ (l : List ℕ). l ++ z) e ∙ append_assoc v y z

-- what the sends of a list of entries add, from a state on: nothing where there are none, and what one entry sends stands in front
pub record Adds (a b : Rank) (f : Message → ℕ) (new : State → List Entry → List ℕ) : Type 0 where
  pub none_new : (s : State) → new s [] ≡ []
  pub one_new : (s : State) (r : Record) (es : List Entry) → sound s ≡ true → refusal s r ≡ none
      → new s (entry r s ∷ es) ≡ posted a b f s (entry r s) ++ new (apply r s).state es

module _ (a b : Rank) (f : Message → ℕ) (answer : Entry → ℕ) (new : State → List Entry → List ℕ)
    (answered : Answered a b f answer) (adds : Adds a b f new) where
  -- the same of the entries and the end of a list of steps from a state
  abbrev Balances : State → List Entry → State → Type 0
  Balances s es end =
      took a b answer es ++ map f (place_order (Between a b) (messages end)) ≡ each_between f a b (core s) ++ new s es

  step_balances : (s : State) (x : Reading) (r : Record) (next : ℕ) → sound s ≡ true → decode x.log x.at ≡ Ok (r, next)
      → refusal s r ≡ none → (es : List Entry) (end : State) → Balances (apply r s).state es end
      → Balances s (entry r s ∷ es) end
  unfolding Balanced
  step_balances s x r next h reads p es end rest =
      let e = entry r s in
      let s' = (apply r s).state in
      let here : took a b answer (e ∷ []) ++ each_between f a b (core s') ≡ each_between f a b (core s) ++ posted a b f s e =
      ap (λ (c : Core). took a b answer (e ∷ []) ++ each_between f a b c) (core_step_lem s r h p) ∙
      step_balanced a b f answer answered s r h p in
      rw (took_cons a b answer e es, adds.one_new s r es h p)
      (balances_join (took a b answer (e ∷ [])) (took a b answer es) (each_between f a b (core s)) (each_between f a b (core s'))
      (map f (place_order (Between a b) (messages end))) (posted a b f s e) (new s' es) here rest)

  -- It holds of every list of steps from a sound state, of a number that a message keeps wherever it is.
  pub balances : ((m : Message) → f (letter m) ≡ f m) → a.0 < ranks → b.0 < ranks → (xs : List Reading) (s : State) → sound s ≡ true
      → Balances s (accepted s xs) (after s xs)
  balances kept ha hb =
      along Balances (λ s h. unread_each f kept s a b h ha hb ∙ rw (adds.none_new s) (sym (append-nil _))) step_balances
