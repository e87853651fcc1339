-- A receiver that goes by its looks takes its messages in the order in which they were sent over all senders. Paper 02, change 6.
-- Assumes nothing.
use Rattle.std.specs.Prelude.{◌≡◌, true, ◌&&◌, ℕ, zero, suc, ◌+◌, ◌-◌, ◌≤◌, ltb, length, get_or, set, drop}
use Rattle.std.proofs.Math.Path.{refl, sym, ap}
use Rattle.std.proofs.Common.{subst, ◌∙◌, arith, take-append-drop, take_at}
use Rattle.std.proofs.Math.Bool.{false}
use mathlib.Core.List.{List, [], ◌∷◌, ◌++◌, map, append-nil, append_assoc, head-eq_of_cons-eq}
use Rattle.std.proofs.Math.Option.{Option, none, some}
use borrow.Author.Tests.{eqb-true, lt-ltb}
use Rattle.std.proofs.Math.Dec.{eqb}
use Rattle.std.proofs.Math.ListN as ListN
use Rattle.std.proofs.lemmas.List.{length-map, take-append-le}
use Rattle.std.proofs.Math.Seq.{drop-append_seam, drop-append-add}
use Rattle.base.specs.Laws.Lists.{
  every_both,
  every_append,
  every_map,
  every_select,
  every_selected,
  select_append,
  select_map,
  without_other,
  without_same,
  first_narrower,
}
use Rattle.base.specs.Laws.Tests.{by_test, both, both_left, both_right, not_both}
use Rattle.base.specs.Lists.{select, tally, every}
use Rattle.transit.specs.Message.{message, letter, is_same_rank, between, to, pair_of}
use Rattle.transit.specs.Unread.{sent_at, one_message_more}
use Rattle.transit.specs.declared.Message.{Message}
use Rattle.transit.specs.declared.Place.TheVariants.{EndList}
use Rattle.transit.specs.declared.Rank.{Rank}
use Rattle.record.specs.Kind
use Rattle.record.specs.Parts.{is}
use Rattle.protocol.specs.Checks.{refusal}
use Rattle.protocol.proofs.Laws.Accepted.{take_fits, look_fits}
use Rattle.protocol.specs.Laws.Core.{Core}
use Rattle.protocol.proofs.Laws.CoreStep.{core_step_lem, take_letter}
use Rattle.protocol.specs.Laws.Links.{receiver_of}
use Rattle.protocol.specs.Laws.State.{same_rank_eq, same_rank_self}
use Rattle.protocol.specs.Messages.{look, take}
use Rattle.protocol.specs.Sound.{sound}
use Rattle.broker.specs.State.{State, messages}
use Rattle.protocol.specs.Step.{apply}
use Rattle.record.specs.declared.Record.{Record}
use Rattle.record.specs.declared.Record.TheVariants.{Start, Call, Route, Send, Take, Move, Heed, Drain, Land, Part, End, Look}
use Rattle.ordering.specs.Claim.{Reading, Entry, after, accepted}
use Rattle.fairness.proofs.Laws.Sending.{step_letters, step_counts}
use Rattle.ordering.specs.Laws.Runs.{entry, along}
use Rattle.fairness.specs.Sending.{first_in, second_in, letters, posted, counts_after, letters_sent, less_taken}
use Rattle.fairness.specs.Served.{is_look_of, is_take_of, goes_by_looks, letters_taken, sent_since, Served}

module _ (r : Rank) where
  -- what is unread by r, in order of sending
  abbrev unread_by : State → List Message
  unread_by s = select (to r) (letters s)

  -- what accepted steps send to r
  abbrev sent_to : List Entry → List ℕ → List Message
  sent_to es counts = select (to r) (letters_sent counts es)

  -- the first of what is unread by r is from the rank of a number
  pub record FirstFrom (s : State) (n : ℕ) : Type 0 where
    pub first : Message
    pub rest : List Message
    pub stands : unread_by s ≡ first ∷ rest
    pub sender : first.sender.0 ≡ n

  -- the rank that a look named, where no take of r has followed it, is that of the first
  Pending : Option ℕ → State → Type 0
  Pending none s = Unit {0}
  Pending (some n) s = FirstFrom s n

  -- What stands first stays first where more is sent.
  stays_first : (named : Option ℕ) (s s' : State) (more : List Message) → unread_by s' ≡ unread_by s ++ more →
      Pending named s → Pending named s'
  unfolding Pending
  stays_first none s s' more e first = tt
  stays_first (some n) s s' more e x =
      record { first = x.first; rest = x.rest ++ more; stands = e ∙ rw x.stands; sender = x.sender }

  -- A take of another rank is not seen.
  unseen : (x : Record) (l : List Message) → (is (Kind.take ∷ []) x && is_same_rank (first_in x) r) ≡ false →
      select (to r) (less_taken x l) ≡ select (to r) l
  unseen x l apart =
      by_test (is (Kind.take ∷ []) x)
      (λ t. rw t (without_other (to r) (between (second_in x) (first_in x))
      (λ m e. rw (receiver_of (second_in x) (first_in x) m e) (rw t at apart)) l))
      (λ t. rw t)

  module _ (s : State) (h : sound s ≡ true) where
    -- An accepted record that is no take of r leaves what is unread by r, and what it sends to r behind it.
    others_leave : (x : Record) → refusal s x ≡ none → (is (Kind.take ∷ []) x && is_same_rank (first_in x) r) ≡ false →
        unread_by (apply x s).state ≡ unread_by s ++ select (to r) (posted s.unread.sent x)
    others_leave x p apart =
        let new = posted s.unread.sent x in
        let left : letters (apply x s).state ≡ less_taken x (letters s ++ new) =
        sym (append-nil (letters (apply x s).state)) ∙ sym (step_letters s x h p []) ∙
        ap (λ (l : List Message). less_taken x (letters s ++ l)) (append-nil new) in
        ap (select (to r)) left ∙ unseen x (letters s ++ new) apart ∙ select_append (to r) (letters s) new

    -- A take of r from the rank of the first takes the first.
    pub own_take : (a : Rank) → refusal s (Take r a) ≡ none → FirstFrom s a.0 →
        unread_by s ≡ message a r EndList (take r a s).values.0 (take r a s).values.2 ∷ unread_by (apply (Take r a) s).state
    own_take a p x =
        let from : x.first.sender ≡ a = ap (λ (n : ℕ). record { 0 = n }) x.sender in
        let passes : to r x.first ≡ true = both_left _ _ (rw x.stands at (every_selected (to r) (letters s))) in
        let own : between a r x.first ≡ true = rw (from, same_rank_self a) passes in
        let within : (m : Message) → between a r m ≡ true → to r m ≡ true = λ m. both_right (is_same_rank m.sender a) (to r m) in
        let narrower = first_narrower (to r) (between a r) within (letters s) x.first x.rest x.stands own in
        let answered = take_letter s r a h (take_fits s r a p) in
        let same : x.first ≡ message a r EndList (take r a s).values.0 (take r a s).values.2 =
        head-eq_of_cons-eq (sym narrower.1 ∙ answered.1) in
        let left : unread_by (apply (Take r a) s).state ≡ x.rest =
        ap (λ (c : Core). select (to r) c.letters) (core_step_lem s (Take r a) h p) ∙
        without_same (to r) (between a r) within (letters s) ∙ rw (x.stands, own) in
        x.stands ∙ rw (same, left)

    -- An accepted look of r names the sender of the first.
    pub look_names_first : refusal s (Look r) ≡ none → FirstFrom s (look r s).values.0
    unfolding look
    look_names_first p = at (select (to r) (messages s)) refl (look_fits s r p).unread
      where
        at : (l : List Message) → select (to r) (messages s) ≡ l → eqb (length l) 0 ≡ false → FirstFrom s (look r s).values.0
        at [] e n = absurd (not_both refl n)
        at (m ∷ l) e n =
            record {
              first = letter m;
              rest = map letter l;
              stands = select_map (to r) letter (λ m. refl) (messages s) ∙ ap (map letter) e;
              sender = rw e;
            }

  -- what is claimed of the order, along a list of steps
  Serves : State → List Entry → State → Type 0
  Serves s es end =
      (named : Option ℕ) → Pending named s → goes_by_looks r named es ≡ true →
      letters_taken r es ++ unread_by end ≡ unread_by s ++ sent_to es s.unread.sent

  module _ (s : State) (h : sound s ≡ true) (es : List Entry) (end : State) where
    -- A record that is no look and no take of r.
    others_serve : (x : Record) → refusal s x ≡ none → is_look_of r (entry x s) ≡ false → is_take_of r (entry x s) ≡ false →
        Serves (apply x s).state es end → Serves s (entry x s ∷ es) end
    unfolding Serves
    others_serve x p no_look no_take rest named first goes =
        let new = select (to r) (posted s.unread.sent x) in
        let there = others_leave s h x p no_take in
        rw (no_take, select_append (to r) (posted s.unread.sent x) (letters_sent (counts_after s.unread.sent x) es))
        (rest named (stays_first named s (apply x s).state new there first) (rw (no_look, no_take) at goes) ∙
        ap (λ (l : List Message). l ++ sent_to es (apply x s).state.unread.sent) there ∙
        append_assoc (unread_by s) new (sent_to es (apply x s).state.unread.sent) ∙
        ap (λ (c : List ℕ). unread_by s ++ (new ++ sent_to es c)) (sym (step_counts s x h p)))

    -- A look of r: the rank that it names is that of the first.
    look_serves : refusal s (Look r) ≡ none → Serves (apply (Look r) s).state es end → Serves s (entry (Look r) s ∷ es) end
    unfolding Serves Pending apply look
    look_serves p rest named first goes =
        rest (some (look r s).values.0) (look_names_first s h p) (rw (same_rank_self r) at goes)

    -- A take of r, from the rank that a look named: it takes the first.
    take_serves : (a : Rank) → refusal s (Take r a) ≡ none → Serves (apply (Take r a) s).state es end →
        Serves s (entry (Take r a) s ∷ es) end
    unfolding Serves Pending apply
    take_serves a p rest none first goes = absurd (not_both refl (sym (rw (same_rank_self r) at goes)))
    take_serves a p rest (some n) first goes =
        let told = rw (same_rank_self r) at goes in
        let is_named_lem : a.0 ≡ n = eqb-true a.0 n (both_left (eqb a.0 n) (goes_by_looks r none es) told) in
        let behind = rest none tt (both_right (eqb a.0 n) (goes_by_looks r none es) told) in
        let taken = message a r EndList (take r a s).values.0 (take r a s).values.2 in
        let own = own_take s h a p (rw is_named_lem first) in
        rw (same_rank_self r)
        (ap (λ (l : List Message). taken ∷ l)
        (behind ∙ ap (λ (c : List ℕ). unread_by (apply (Take r a) s).state ++ sent_to es c) (sym (step_counts s (Take r a) h p))) ∙
        ap (λ (l : List Message). l ++ sent_to es s.unread.sent) (sym own))

    serves_step : (x : Record) → refusal s x ≡ none → Serves (apply x s).state es end → Serves s (entry x s ∷ es) end
    serves_step (Start q k) p rest = others_serve (Start q k) p refl refl rest
    serves_step (Call a b) p rest = others_serve (Call a b) p refl refl rest
    serves_step (Route a b) p rest = others_serve (Route a b) p refl refl rest
    serves_step (Send a b v) p rest = others_serve (Send a b v) p refl refl rest
    serves_step (Take b a) p rest =
        by_test (is_same_rank b r)
        (λ t. subst
        (λ (q : Rank). refusal s (Take q a) ≡ none → Serves (apply (Take q a) s).state es end → Serves s (entry (Take q a) s ∷ es) end)
        (sym (same_rank_eq b r t)) (take_serves a) p rest)
        (λ t. others_serve (Take b a) p refl t rest)
    serves_step (Move q k) p rest = others_serve (Move q k) p refl refl rest
    serves_step (Heed a b) p rest = others_serve (Heed a b) p refl refl rest
    serves_step (Drain a b) p rest = others_serve (Drain a b) p refl refl rest
    serves_step (Land q) p rest = others_serve (Land q) p refl refl rest
    serves_step (Part a b) p rest = others_serve (Part a b) p refl refl rest
    serves_step (End q) p rest = others_serve (End q) p refl refl rest
    serves_step (Look q) p rest =
        by_test (is_same_rank q r)
        (λ t. subst
        (λ (k : Rank). refusal s (Look k) ≡ none → Serves (apply (Look k) s).state es end → Serves s (entry (Look k) s ∷ es) end)
        (sym (same_rank_eq q r t)) look_serves p rest)
        (λ t. others_serve (Look q) p t refl rest)

  -- So it is along every list of steps from a sound state.
  serves : (xs : List Reading) (s : State) → sound s ≡ true → Serves s (accepted s xs) (after s xs)
  unfolding Serves
  serves =
      along Serves (λ s h named first goes. sym (append-nil (unread_by s)))
      (λ s x q next h reads p es end rest. serves_step s h es end q p rest)

-- Counts sent never fall.
counts_grow : (l : List ℕ) (k j : ℕ) → get_or l j 0 ≤ get_or (set l k (get_or l k 0 + 1)) j 0
counts_grow [] k j = omega arith
counts_grow (x ∷ l) zero zero = omega arith
counts_grow (x ∷ l) zero (suc j) = omega arith
counts_grow (x ∷ l) (suc k) zero = omega arith
counts_grow (x ∷ l) (suc k) (suc j) = counts_grow l k j

-- What is sent has a number that its pair had not sent before.
sent_is_new : (before : List ℕ) (es : List Entry) (counts : List ℕ) → ((k : ℕ) → get_or before k 0 ≤ get_or counts k 0) →
    every (λ m. ltb (sent_at m.sender m.receiver before) m.sequence) (letters_sent counts es) ≡ true
sent_is_new before [] counts least = refl
sent_is_new before (e ∷ es) counts least =
    let pair = pair_of (first_in e.read) (second_in e.read) in
    by_test (is (Kind.send ∷ []) e.read)
    (λ t. rw t
    (both (lt-ltb (get_or before pair 0) (get_or counts pair 0 + 1) (omega (arith, least pair)))
    (sent_is_new before es (one_message_more (first_in e.read) (second_in e.read) counts)
    (λ k. omega (arith, least k, counts_grow counts pair k)))))
    (λ t. rw t (sent_is_new before es counts least))

-- The claim of a receiver that goes by its looks.
pub served : (r : Rank) (xs : List Reading) (s : State) → sound s ≡ true → goes_by_looks r none (accepted s xs) ≡ true →
    Served r s (accepted s xs) (after s xs)
unfolding Serves Pending
served r xs s h goes =
    let es = accepted s xs in
    let took = letters_taken r es in
    let left = unread_by r (after s xs) in
    let new = sent_to r es s.unread.sent in
    let order : took ++ left ≡ unread_by r s ++ new = serves r xs s h none tt goes in
    let many : length (unread_by r s) ≡ tally (to r) (messages s) =
    rw (select_map (to r) letter (λ m. refl) (messages s), length-map) in
    let since : every (sent_since r s) new ≡ true =
    every_both (to r) (λ m. ltb (sent_at m.sender m.receiver s.unread.sent) m.sequence) (sent_since r s)
    (λ m own old. rw (← same_rank_eq m.receiver r own) old)
    new (every_selected (to r) (letters_sent s.unread.sent es))
    (every_select _ (to r) (letters_sent s.unread.sent es) (sent_is_new s.unread.sent es s.unread.sent (λ k. omega arith))) in
    record {
      in_order = order;
      all_taken = λ enough.
          sym (take-append-le (tally (to r) (messages s)) took left enough) ∙ ap (ListN.take (tally (to r) (messages s))) order ∙
          take_at (unread_by r s) new (tally (to r) (messages s)) many;
      none_left = λ enough.
          let k = length took - length (unread_by r s) in
          let long : length took ≡ length (unread_by r s) + k = omega (arith, many) in
          let rest : left ≡ drop k new =
          sym (drop-append_seam took left) ∙ ap (drop (length took)) order ∙
          ap (λ (n : ℕ). drop n (unread_by r s ++ new)) long ∙ drop-append-add (unread_by r s) new k in
          let all : every (sent_since r s) left ≡ true =
          rw rest (both_right (every (sent_since r s) (ListN.take k new)) _
          (rw every_append at (rw (← take-append-drop k new) at since))) in
          rw (select_map (to r) letter (λ m. refl) (messages (after s xs)), every_map) at all;
    }
