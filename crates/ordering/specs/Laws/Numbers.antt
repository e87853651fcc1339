-- The running numbers over a list of steps: those taken, then those unread, are 1 to the count sent. Assumes nothing.
use Rattle.std.specs.Prelude.{◌≡◌, refl, true, List, [], ◌∷◌, ◌++◌, ℕ, ◌+◌, ◌<◌, length}
use Rattle.std.proofs.Common.{sym, ap, ◌∙◌, arith, length-append}
use Rattle.std.proofs.Math.Option.{none}
use Rattle.std.proofs.lemmas.List.{length-map, get_or-replicate}
use Rattle.base.specs.Laws.Numbers.{up_from_append, up_from_begins}
use Rattle.base.specs.Laws.Tests.{by_test}
use Rattle.base.specs.Lists.{up_from}
use Rattle.transit.specs.Message.{is_same_rank, ranks, cells}
use Rattle.transit.specs.Unread.{sent_at}
use Rattle.transit.specs.declared.Rank.{Rank}
use Rattle.protocol.specs.Checks.{refusal}
use Rattle.protocol.proofs.Laws.Accepted.{send_fits}
use Rattle.protocol.specs.Laws.Core.{Core, core, core_step}
use Rattle.protocol.proofs.Laws.CoreStep.{core_step_lem, take_sequence}
use Rattle.protocol.specs.Laws.Sound.{facts}
use Rattle.protocol.specs.Laws.State.{same_rank_eq, cell_below, sent_after}
use Rattle.protocol.specs.Messages.{sent_between}
use Rattle.protocol.specs.Sound.{sound}
use Rattle.broker.specs.State.{State, fresh, cell}
use Rattle.protocol.specs.Step.{apply}
use Rattle.record.specs.declared.Record.{Record}
use Rattle.record.specs.declared.Record.TheVariants.{Start, Call, Route, Send, Take, Move, Heed, Drain, Land, Part, End, Look}
use Rattle.ordering.specs.Claim.{Reading, Entry, after, accepted, is_send, sent, taken}
use Rattle.ordering.specs.Laws.Balance.{posted, Adds, balances}
use Rattle.ordering.specs.Laws.Runs.{fresh_sound, entry, sent_cons, along}
use Rattle.ordering.specs.Numbered.{numbers_taken, numbers_unread, Numbered}

module _ (a b : Rank) (ha : a.0 < ranks) (hb : b.0 < ranks) where
  -- how many messages an entry sent from a to b
  abbrev sends : Entry → ℕ
  sends e = length (sent a b (e ∷ []))

  -- An accepted record counts what it sends.
  step_counted : (s : State) (r : Record) → sound s ≡ true → refusal s r ≡ none
      → sent_between a b (apply r s).state ≡ sent_between a b s + sends (entry r s)
  step_counted s r h p = ap (λ (c : Core). sent_at a b c.sent) (core_step_lem s r h p) ∙ of_kind r p
    where
      of_kind : (r : Record) → refusal s r ≡ none → sent_at a b (core_step r (core s)).sent ≡ sent_between a b s + sends (entry r s)
      of_kind (Start r h) p = omega arith
      of_kind (Call c d) p = omega arith
      of_kind (Route c d) p = omega arith
      of_kind (Send c d v) p =
          let two = (send_fits s c d v p).two in
          rw (sent_after s.unread.sent c d a b (facts s h).shape.sent_long two.first two.second hb)
          (by_test (is_same_rank c a)
          (λ e. by_test (is_same_rank d b) (λ f. rw (e, f, same_rank_eq c a e, same_rank_eq d b f)) (λ f. rw (e, f) (omega arith)))
          (λ e. rw e (omega arith)))
      of_kind (Take d c) p = omega arith
      of_kind (Move r h) p = omega arith
      of_kind (Heed c r) p = omega arith
      of_kind (Drain r q) p = omega arith
      of_kind (Land r) p = omega arith
      of_kind (Part c d) p = omega arith
      of_kind (End r) p = omega arith
      of_kind (Look r) p = omega arith

  -- So does a list of steps.
  sends_counted : (xs : List Reading) (s : State) → sound s ≡ true
      → sent_between a b (after s xs) ≡ sent_between a b s + length (sent a b (accepted s xs))
  sends_counted =
      along (λ s es end. sent_between a b end ≡ sent_between a b s + length (sent a b es))
      (λ s h. omega arith)
      (λ s x r next h reads p es end rest.
      rw (sent_cons a b (entry r s) es, length-append)
      (omega (arith, rest, step_counted s r h p)))

  -- the numbers that a list of entries sends, from a state on
  abbrev numbers_sent : State → List Entry → List ℕ
  numbers_sent s es = up_from (sent_between a b s + 1) (length (sent a b es))

  -- One entry sends no number, or the next one.
  next_number : (s : State) (e : Entry) → posted a b (λ m. m.sequence) s e ≡ up_from (sent_between a b s + 1) (sends e)
  unfolding up_from
  next_number s e = by_test (is_send a b e) (λ t. rw t) (λ t. rw t)

  -- And behind it the others go on.
  goes_on : (s : State) (r : Record) (es : List Entry) → sound s ≡ true → refusal s r ≡ none
      → numbers_sent s (entry r s ∷ es)
      ≡ posted a b (λ m. m.sequence) s (entry r s) ++ numbers_sent (apply r s).state es
  goes_on s r es h p =
      let e = entry r s in
      let k = sent_between a b s + 1 in
      let on : sent_between a b (apply r s).state + 1 ≡ k + sends e = omega (arith, step_counted s r h p) in
      rw (sent_cons a b e es, length-append, next_number s e, on) (sym (up_from_append k (sends e) (length (sent a b es))))

  numbers_add : Adds a b (λ m. m.sequence) numbers_sent
  unfolding up_from
  numbers_add = record { none_new = λ s. refl; one_new = goes_on }

-- Nothing is sent and nothing unread in the fresh state.
pub numbered : Numbered
unfolding apply
numbered xs a b ha hb =
    let es = accepted fresh xs in
    let none_sent : sent_between a b fresh ≡ 0 = get_or-replicate cells (cell a b) 0 0 (cell_below a b ha hb) in
    let counted : sent_between a b (after fresh xs) ≡ length (sent a b es) =
    omega (arith, none_sent, sends_counted a b ha hb xs fresh fresh_sound) in
    let whole : numbers_taken a b es ++ numbers_unread a b (after fresh xs) ≡ up_from 1 (sent_between a b (after fresh xs)) =
    balances a b (λ m. m.sequence) (λ e. e.v3) (numbers_sent a b ha hb)
    (λ s h f. take_sequence s b a h f)
    (numbers_add a b ha hb)
    (λ m. refl) ha hb xs fresh fresh_sound ∙
    rw (none_sent, counted) in
    let many : length (numbers_taken a b es) ≡ length (taken a b es) = rw (length-map, length-map) in
    record {
      without_a_gap = up_from_begins 1 _ (numbers_taken a b es) (numbers_unread a b (after fresh xs)) whole ∙ ap (up_from 1) many;
      to_the_count_sent = whole;
      sends_counted = counted;
    }
