-- The order of sending over all pairs is kept along every list of steps. Paper 02, change 6. Assumes nothing.
use Rattle.std.specs.Prelude.{◌≡◌, refl, true, List, ◌++◌, ℕ, ◌<◌}
use Rattle.std.proofs.Common.{sym, ap, ◌∙◌, append-nil, append_assoc, pos_of_ne-zero}
use Rattle.std.proofs.Math.Option.{none}
use Rattle.std.proofs.lemmas.Bool.{eqb-false}
use Rattle.std.proofs.lemmas.List.{length-map}
use Rattle.base.specs.Laws.Lists.{select_map, without_append}
use Rattle.base.specs.Lists.{tally}
use Rattle.transit.specs.Message.{letter, between}
use Rattle.transit.specs.declared.Message.{Message}
use Rattle.transit.specs.declared.Rank.{Rank}
use Rattle.protocol.specs.Checks.{refusal}
use Rattle.protocol.proofs.Laws.Accepted.{take_fits}
use Rattle.protocol.specs.Laws.Core.{Core, core, core_step}
use Rattle.protocol.proofs.Laws.CoreStep.{core_step_lem}
use Rattle.protocol.specs.Sound.{sound}
use Rattle.broker.specs.State.{State, messages}
use Rattle.protocol.specs.Step.{apply}
use Rattle.record.specs.declared.Record.{Record}
use Rattle.record.specs.declared.Record.TheVariants.{Start, Call, Route, Send, Take, Move, Heed, Drain, Land, Part, End, Look}
use Rattle.ordering.specs.Claim.{Reading, after, accepted}
use Rattle.ordering.specs.Laws.Runs.{along}
use Rattle.fairness.specs.Sending.{letters, posted, counts_after, letters_sent, less_taken, less_all_taken, KeptInOrder}

module _ (s : State) where
  -- A take that is accepted takes a letter.
  letter_there : (b a : Rank) → refusal s (Take b a) ≡ none → 0 < tally (between a b) (letters s)
  letter_there b a p =
      rw (select_map (between a b) letter (λ m. refl) (messages s), length-map)
      (pos_of_ne-zero (eqb-false (tally (between a b) (messages s)) 0 (take_fits s b a p).unread))

  -- What an accepted record does to the core is what it takes and sends.
  core_letters : (r : Record) → refusal s r ≡ none → (more : List Message) →
      less_taken r (letters s ++ (posted s.unread.sent r ++ more)) ≡ (core_step r (core s)).letters ++ more
  core_letters (Start r h) p more = refl
  core_letters (Call a b) p more = refl
  core_letters (Route a b) p more = refl
  core_letters (Send a b v) p more = sym (append_assoc (letters s) _ more)
  core_letters (Take b a) p more = without_append (between a b) (letters s) more (letter_there b a p)
  core_letters (Move r h) p more = refl
  core_letters (Heed b r) p more = refl
  core_letters (Drain r q) p more = refl
  core_letters (Land r) p more = refl
  core_letters (Part a b) p more = refl
  core_letters (End r) p more = refl
  core_letters (Look r) p more = refl

  core_counts : (r : Record) → counts_after s.unread.sent r ≡ (core_step r (core s)).sent
  core_counts (Start r h) = refl
  core_counts (Call a b) = refl
  core_counts (Route a b) = refl
  core_counts (Send a b v) = refl
  core_counts (Take b a) = refl
  core_counts (Move r h) = refl
  core_counts (Heed b r) = refl
  core_counts (Drain r q) = refl
  core_counts (Land r) = refl
  core_counts (Part a b) = refl
  core_counts (End r) = refl
  core_counts (Look r) = refl

  module _ (r : Record) (h : sound s ≡ true) (p : refusal s r ≡ none) where
    -- What is unread after it, before all that is sent later.
    pub step_letters : (more : List Message) →
        less_taken r (letters s ++ (posted s.unread.sent r ++ more)) ≡ letters (apply r s).state ++ more
    step_letters more = core_letters r p more ∙ ap (λ (c : Core). c.letters ++ more) (sym (core_step_lem s r h p))

    -- How many each pair has sent then.
    pub step_counts : counts_after s.unread.sent r ≡ (apply r s).state.unread.sent
    step_counts = core_counts r ∙ ap (λ (c : Core). c.sent) (sym (core_step_lem s r h p))

-- It is kept along a list of steps.
pub kept_in_order : (xs : List Reading) (s : State) → sound s ≡ true → KeptInOrder s (accepted s xs) (after s xs)
kept_in_order =
    along KeptInOrder (λ s h. sym (append-nil (letters s)))
    (λ s x r next h reads p es end rest.
    rest ∙
    ap (less_all_taken es)
    (sym (step_letters s r h p (letters_sent (apply r s).state.unread.sent es)) ∙
    ap (λ (c : List ℕ). less_taken r (letters s ++ (posted s.unread.sent r ++ letters_sent c es))) (sym (step_counts s r h p))))
