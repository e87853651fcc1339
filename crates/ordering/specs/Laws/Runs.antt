-- Lists of steps: what a step adds to the accepted ones, and induction along a list, in which a refused step changes nothing.
-- Assumes nothing.
use Rattle.std.specs.Prelude.{◌≡◌, true, List, [], ◌∷◌, ◌++◌, ℕ, Ok}
use Rattle.std.proofs.Common.{sym, subst₂}
use Rattle.std.proofs.Math.Option.{none}
use Rattle.base.specs.Laws.Tests.{by_test, true_of}
use Rattle.transit.specs.declared.Rank.{Rank}
use Rattle.protocol.specs.Checks.{refusal}
use Rattle.protocol.proofs.Laws.Edges.{fresh_is_sound}
use Rattle.protocol.proofs.Laws.Kept.{sound_kept}
use Rattle.protocol.proofs.Laws.Step.{Course, turned_away, carried_out, course, past_record, step_accepted}
use Rattle.record.specs.Record.{decode}
use Rattle.protocol.specs.Sound.{sound}
use Rattle.broker.specs.State.{State, fresh}
use Rattle.protocol.specs.Step.{apply}
use Rattle.record.specs.declared.Record.{Record}
use Rattle.ordering.specs.Claim.{Reading, Entry, after, accepted, is_send, is_take, sent, taken, is_five, five_kinds}

pub fresh_sound : sound fresh ≡ true
fresh_sound = true_of (sound fresh) fresh_is_sound

-- the entry of an accepted record
abbrev pub entry : Record → State → Entry
entry r s = record { read = r; v1 = (apply r s).values.0; v3 = (apply r s).values.2 }

-- What one entry adds in front.
pub sent_cons : (a b : Rank) (e : Entry) (es : List Entry) → sent a b (e ∷ es) ≡ sent a b (e ∷ []) ++ sent a b es
sent_cons a b e es = by_test (is_send a b e) (λ t. rw t) (λ t. rw t)

pub taken_cons : (a b : Rank) (e : Entry) (es : List Entry) → taken a b (e ∷ es) ≡ taken a b (e ∷ []) ++ taken a b es
taken_cons a b e es = by_test (is_take a b e) (λ t. rw t) (λ t. rw t)

pub five_cons : (e : Entry) (es : List Entry) → five_kinds (e ∷ es) ≡ five_kinds (e ∷ []) ++ five_kinds es
five_cons e es = by_test (is_five e.read) (λ t. rw t) (λ t. rw t)

-- A step that is carried out adds its entry, and the list goes on from the state that it leaves.
module _
    (s : State)
    (x : Reading)
    (xs : List Reading)
    (r : Record)
    (next : ℕ)
    (h : sound s ≡ true)
    (reads : decode x.log x.at ≡ Ok (r, next))
    (p : refusal s r ≡ none)
  where
    pub carried_enters : accepted s (x ∷ xs) ≡ entry r s ∷ accepted (apply r s).state xs
    carried_enters = rw (step_accepted s x.log x.at r next h reads p, reads)

    pub carried_leaves : after s (x ∷ xs) ≡ after (apply r s).state xs
    carried_leaves = rw (step_accepted s x.log x.at r next h reads p)

-- What holds of no steps, and of one step more in front, refused or accepted, holds of every list of steps from a sound state.
module _
    (P : List Reading → State → List Entry → State → Type 0)
    (no_steps : (s : State) → sound s ≡ true → P [] s [] s)
    (one_refused :
    (x : Reading) (xs : List Reading) (s : State) (es : List Entry) (end : State) → P xs s es end → P (x ∷ xs) s es end)
    (one_accepted :
    (s : State) (x : Reading) (r : Record) (next : ℕ) →
    sound s ≡ true →
    decode x.log x.at ≡ Ok (r, next) →
    refusal s r ≡ none →
    (xs : List Reading) (es : List Entry) (end : State) →
    P xs (apply r s).state es end →
    P (x ∷ xs) s (entry r s ∷ es) end)
  where
    pub along_readings : (xs : List Reading) (s : State) → sound s ≡ true → P xs s (accepted s xs) (after s xs)
    along_readings [] s h = no_steps s h
    along_readings (x ∷ xs) s h = at (course s x.log x.at) (along_readings xs)
      where
        at :
            Course s x.log x.at →
            ((t : State) → sound t ≡ true → P xs t (accepted t xs) (after t xs)) →
            P (x ∷ xs) s (accepted s (x ∷ xs)) (after s (x ∷ xs))
        at (turned_away n t) rest =
            let enters : accepted s (x ∷ xs) ≡ accepted s xs = rw t in
            let leaves : after s (x ∷ xs) ≡ after s xs = rw t in
            subst₂ (P (x ∷ xs) s) (sym enters) (sym leaves) (one_refused x xs s (accepted s xs) (after s xs) (rest s h))
        at (carried_out r k reads p t) rest =
            let next = past_record x.log x.at in
            let s' = (apply r s).state in
            subst₂ (P (x ∷ xs) s) (sym (carried_enters s x xs r next h reads p)) (sym (carried_leaves s x xs r next h reads p))
            (one_accepted s x r next h reads p xs (accepted s' xs) (after s' xs) (rest s' (sound_kept s r h p)))

-- The same of the accepted steps alone.
module _
    (P : State → List Entry → State → Type 0)
    (no_steps : (s : State) → sound s ≡ true → P s [] s)
    (one_more :
    (s : State) (x : Reading) (r : Record) (next : ℕ) →
    sound s ≡ true →
    decode x.log x.at ≡ Ok (r, next) →
    refusal s r ≡ none →
    (es : List Entry) (end : State) →
    P (apply r s).state es end →
    P s (entry r s ∷ es) end)
  where
    pub along : (xs : List Reading) (s : State) → sound s ≡ true → P s (accepted s xs) (after s xs)
    along =
        along_readings (λ xs. P) no_steps (λ x xs s es end rest. rest) (λ s x r next h reads p xs. one_more s x r next h reads p)

-- A list of steps keeps a sound state sound.
pub sound_after : (xs : List Reading) (s : State) → sound s ≡ true → sound (after s xs) ≡ true
sound_after = along (λ s es end. sound end ≡ true) (λ s h. h) (λ s x r next h reads p es end rest. rest)
