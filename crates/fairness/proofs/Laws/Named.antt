-- What a look named can be taken, whatever others did since. Paper 02, change 6. Assumes nothing.
use Rattle.std.specs.Prelude.{◌≡◌, refl, true, ◌&&◌, ℕ, suc, eqb, length}
use Rattle.std.proofs.Common.{sym, ap, ◌∙◌, arith, ltb-true, ne_eqb}
use mathlib.Core.List.{List, [], ◌∷◌, ◌++◌, map, head-eq_of_cons-eq}
use Rattle.std.proofs.Math.Option.{Option, none, some}
use Rattle.std.proofs.lemmas.Bool.{not-true}
use Rattle.base.specs.Laws.Lists.{every_select, every_selected, select_map, first_narrower}
use Rattle.base.specs.Laws.Tests.{by_test, both_left, both_right}
use Rattle.base.specs.Lists.{select}
use Rattle.transit.specs.Message.{message, letter, is_same_rank, between, to, is_rank, ranks}
use Rattle.transit.specs.declared.Message.{Message}
use Rattle.transit.specs.declared.Place.TheVariants.{EndList}
use Rattle.transit.specs.declared.Rank.{Rank}
use Rattle.broker.specs.Names.{is_running, is_started}
use Rattle.broker.specs.State.{State, status, messages}
use Rattle.protocol.specs.Checks.{refusal}
use Rattle.protocol.proofs.Laws.Accepted.{started_of_running}
use Rattle.protocol.proofs.Laws.Accepts.{take_accepted}
use Rattle.protocol.specs.Laws.Sound.{facts, is_named, has_ends}
use Rattle.protocol.specs.Laws.State.{same_rank_eq, same_rank_self, same_rank_turned}
use Rattle.protocol.specs.Messages.{look, take, oldest_sender}
use Rattle.protocol.specs.Sound.{sound}
use Rattle.record.specs.declared.Record.TheVariants.{Take, Look}
use Rattle.ordering.specs.Claim.{Reading, Entry, after, accepted}
use Rattle.ordering.specs.Laws.Runs.{sound_after}
use Rattle.fairness.proofs.Laws.Served.{FirstFrom, own_take, look_names_first, served}
use Rattle.fairness.specs.Sending.{letters, letters_sent}
use Rattle.fairness.specs.Served.{is_look_of, is_take_of, goes_by_looks, letters_taken}

-- A receiver that takes nothing goes by its looks.
takes_nothing : (r : Rank) (es : List Entry) (named : Option ℕ) → letters_taken r es ≡ [] → goes_by_looks r named es ≡ true
takes_nothing r [] named nothing = refl
takes_nothing r (e ∷ es) named nothing =
    by_test (is_take_of r e)
    (λ t. cc (rw t at nothing))
    (λ t. by_test (is_look_of r e)
    (λ l. rw l (takes_nothing r es (some e.v1) (rw t at nothing)))
    (λ l. rw (l, t) (takes_nothing r es named (rw t at nothing))))

-- A rank whose message is the first of those unread by a rank that runs can be taken from.
first_can_be_taken : (r : Rank) (s : State) (a : Rank) → sound s ≡ true → is_running (status s r) ≡ true →
    FirstFrom r s a.0 → refusal s (Take r a) ≡ none
first_can_be_taken r s a h running x = at (select (to r) (messages s)) refl
  where
    letters_there : map letter (select (to r) (messages s)) ≡ x.first ∷ x.rest
    letters_there = sym (select_map (to r) letter (λ m. refl) (messages s)) ∙ x.stands

    at : (l : List Message) → select (to r) (messages s) ≡ l → refusal s (Take r a) ≡ none
    at [] e = cc (rw e at letters_there)
    at (m ∷ l) e =
        let first : letter m ≡ x.first = head-eq_of_cons-eq (rw e at letters_there) in
        let from : m.sender ≡ a = ap (λ (n : ℕ). record { 0 = n }) (ap (λ (k : Message). k.sender.0) first ∙ x.sender) in
        let mine : to r m ≡ true = both_left _ _ (rw e at (every_selected (to r) (messages s))) in
        let receiver : m.receiver ≡ r = same_rank_eq m.receiver r mine in
        let name : is_named m ≡ true = both_left _ _ (rw e at (every_select is_named (to r) (messages s) (facts s h).mail.named)) in
        let ends : has_ends s m ≡ true =
        both_left _ _ (rw e at (every_select (has_ends s) (to r) (messages s) (facts s h).mail.ends_fit_lem)) in
        let ranked = both_left (is_rank m.sender && is_rank m.receiver) _ name in
        let apart = not-true (is_same_rank m.sender m.receiver) (both_right (is_rank m.sender && is_rank m.receiver) _ name) in
        let own : between a r m ≡ true = rw (from, same_rank_self a) mine in
        let narrower =
        first_narrower (to r) (between a r) (λ k. both_right (is_same_rank k.sender a) (to r k)) (messages s) m l e own in
        take_accepted s r a
        (record {
          two =
              record {
                first = rw receiver at (ltb-true m.receiver.0 ranks (both_right (is_rank m.sender) _ ranked));
                second = rw from at (ltb-true m.sender.0 ranks (both_left (is_rank m.sender) _ ranked));
                apart = rw (from, receiver) at (same_rank_turned m.sender m.receiver apart);
                first_started = started_of_running (status s r) running;
                second_started = rw from at (both_left (is_started (status s m.sender)) _ ends);
              };
          running = running;
          unread =
              ap (λ (k : List Message). eqb (length k) 0) narrower.1 ∙ ne_eqb (suc (length narrower.0)) 0 (λ z. omega arith);
        })

-- Where a look of r is accepted and then others do what they do, a take of r from the rank named is accepted as long as r runs, and takes
-- the message that was the oldest when r looked.
pub named_can_be_taken : (r : Rank) (xs : List Reading) (s : State) → sound s ≡ true → refusal s (Look r) ≡ none →
    letters_taken r (accepted s xs) ≡ [] → is_running (status (after s xs) r) ≡ true →
    let a = oldest_sender r s in
    let values = (take r a (after s xs)).values in
    (refusal (after s xs) (Take r a) ≡ none) ×
    (rest : List Message) ×
    (select (to r) (letters s) ≡ message a r EndList values.0 values.2 ∷ rest)
unfolding look
named_can_be_taken r xs s h looks nothing running =
    let end = after s xs in
    let ok = sound_after xs s h in
    let first = look_names_first r s h looks in
    let goes = takes_nothing r (accepted s xs) none nothing in
    let order = rw nothing at (served r xs s h goes).in_order in
    let still : FirstFrom r end (oldest_sender r s).0 =
    record {
      first = first.first;
      rest = first.rest ++ select (to r) (letters_sent s.unread.sent (accepted s xs));
      stands = order ∙ rw first.stands;
      sender = first.sender;
    } in
    let passes = first_can_be_taken r end (oldest_sender r s) ok running still in
    let taken = own_take r end ok (oldest_sender r s) passes still in (
      passes,
      first.rest,
      first.stands ∙ ap (λ (m : Message). m ∷ first.rest) (head-eq_of_cons-eq (sym still.stands ∙ taken)),
    )
