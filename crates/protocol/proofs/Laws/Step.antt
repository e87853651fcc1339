-- A step as a whole: when it is accepted, what a refusal leaves, and that a sound state stays sound. Paper 01, "Where each step is
-- checked". Assumes nothing.
use Rattle.std.specs.Prelude.{◌≡◌, refl, Bool, true, false, cond, not, List, [], ◌∷◌, ℕ, ◌+◌, leb, ltb, length, get_or, Ok, Err}
use Rattle.std.proofs.Common.{ap, sym, ◌∙◌, arith}
use Rattle.std.proofs.Math.Option.{Option, none, some}
use Rattle.std.proofs.lemmas.Bool.{not-true}
use Rattle.base.specs.Laws.Tests.{by_test, both_left, both_right}
use Rattle.base.specs.Lists.{every}
use Rattle.answer.specs.Answer.{refusal_number, values}
use Rattle.protocol.specs.Checks.{Check, checks, first_of, refusal}
use Rattle.protocol.proofs.Laws.Kept.{sound_kept}
use Rattle.protocol.specs.Done.{Done}
use Rattle.record.specs.Record.{is_kind, body_length, decode, Decoded}
use Rattle.protocol.specs.Sound.{sound}
use Rattle.broker.specs.State.{State}
use Rattle.protocol.specs.Step.{Outcome, apply, refused, settle, step_sound, step}
use Rattle.answer.specs.declared.Refusal.{Refusal}
use Rattle.answer.specs.declared.Refusal.TheVariants.{Unsound, UnknownKind, CutShort}
use Rattle.record.specs.declared.Fault.TheVariants.{Unknown, Cut}
use Rattle.record.specs.declared.Record.{Record}

-- "The position passes the record, except at 1, 2 and 3, where it stays."
abbrev pub stays_at : Refusal → Bool
stays_at n = leb (refusal_number n) 3

abbrev pub past_record : List ℕ → ℕ → ℕ
past_record log at = at + 1 + body_length (get_or log at 0)

-- the outcome of a record that is carried out
abbrev pub carried : Done → ℕ → Outcome
carried d next = record { answer = Ok d.values; next = next; state = d.state }

-- What a step comes to: a refusal that leaves the state as it was, or a record that passes every check and is carried out.
pub data Course (s : State) (log : List ℕ) (at : ℕ) : Type 0 where
  turned_away : (n : Refusal) → step s log at ≡ refused n (cond (stays_at n) at (past_record log at)) s → Course s log at
  carried_out : (r : Record) → sound s ≡ true → decode log at ≡ Ok (r, past_record log at) → refusal s r ≡ none
      → step s log at ≡ carried (apply r s) (past_record log at) → Course s log at

-- What is read whole ends at one position.
ends_once : (p q : Record × ℕ) → ◌≡◌ {A = Decoded} (Ok p) (Ok q) → p.1 ≡ q.1
ends_once p q e =
    let same : p ≡ q = cc in
    ap (λ (w : Record × ℕ). w.1) same

-- A record that is read whole ends where its kind says.
pub whole_ends : (log : List ℕ) (at : ℕ) (r : Record) (next : ℕ) → decode log at ≡ Ok (r, next) → next ≡ past_record log at
unfolding decode
whole_ends log at r next e =
    by_test (ltb at (length log))
    (λ b. by_test (is_kind (get_or log at 0))
    (λ c. by_test (leb (past_record log at) (length log)) (λ d. sym (ends_once _ _ (rw (b, c, d) at e))) (λ d. cc (rw (b, c, d) at e)))
    (λ c. cc (rw (b, c) at e)))
    (λ b. cc (rw b at e))

-- No row of the table of checks has a number up to 3.
pub checks_pass_record : (cs : List Check) → every (λ c. not (stays_at c.refusal)) cs ≡ true
    → (s : State) (r : Record) (n : Refusal) → first_of cs s r ≡ some n → stays_at n ≡ false
checks_pass_record [] all s r n e = cc
checks_pass_record (c ∷ cs) all s r n e =
    by_test (c.given s r)
    (λ g.
    let same : c.refusal ≡ n = cc (rw g at e) in
    rw (← same) (not-true (stays_at c.refusal) (both_left _ _ all)))
    (λ g. checks_pass_record cs (both_right (not (stays_at c.refusal)) _ all) s r n (rw g at e))

-- A step of a sound state goes by the record that it reads.
pub step_of_sound : (s : State) (log : List ℕ) (at : ℕ) → sound s ≡ true → step s log at ≡ step_sound s log at
unfolding step
step_of_sound s log at h = rw h

-- Any other is refused.
pub step_of_unsound : (s : State) (log : List ℕ) (at : ℕ) → sound s ≡ false → step s log at ≡ refused Unsound at s
unfolding step
step_of_unsound s log at h = rw h

-- A record that passes every check is carried out.
pub step_accepted : (s : State) (log : List ℕ) (at : ℕ) (r : Record) (next : ℕ) → sound s ≡ true
    → decode log at ≡ Ok (r, next) → refusal s r ≡ none → step s log at ≡ carried (apply r s) next
unfolding step_sound settle
step_accepted s log at r next h d p = step_of_sound s log at h ∙ rw (d, p)

-- Every step takes one of the two courses.
pub course : (s : State) (log : List ℕ) (at : ℕ) → Course s log at
unfolding step step_sound settle checks refusal
course s log at = by_test (sound s) (λ h. by_record h (decode log at) refl) (λ h. turned_away Unsound (rw h))
  where
    by_check : (r : Record) → sound s ≡ true → decode log at ≡ Ok (r, past_record log at) → (o : Option Refusal) → refusal s r ≡ o
        → Course s log at
    by_check r h d none p = carried_out r h d p (step_accepted s log at r (past_record log at) h d p)
    by_check r h d (some n) p =
        turned_away n (step_of_sound s log at h ∙ rw (d, p, checks_pass_record checks refl s r n p))

    by_record : sound s ≡ true → (d : Decoded) → decode log at ≡ d → Course s log at
    by_record h (Ok (r, next)) e = by_check r h (rw (whole_ends log at r next e) at e) (refusal s r) refl
    by_record h (Err Unknown) e = turned_away UnknownKind (step_of_sound s log at h ∙ rw e)
    by_record h (Err Cut) e = turned_away CutShort (step_of_sound s log at h ∙ rw e)

-- "A refusal leaves the state lent for a step unchanged, v1 to v3 zero. The position passes the record, except at 1, 2 and 3, where it
-- stays."
pub record Leaves (s : State) (log : List ℕ) (at : ℕ) (n : Refusal) (o : Outcome) : Type 0 where
  pub state_kept : o.state ≡ s
  pub zeros : values o.answer ≡ 0 ∷ 0 ∷ 0 ∷ []
  pub position : o.next ≡ cond (stays_at n) at (past_record log at)

pub step_refused : (s : State) (log : List ℕ) (at : ℕ) (n : Refusal) → (step s log at).answer ≡ Err n
    → Leaves s log at n (step s log at)
step_refused s log at n e = go (course s log at)
  where
    go : Course s log at → Leaves s log at n (step s log at)
    go (turned_away m t) =
        let same : m ≡ n = cc in
        record { state_kept = ap (λ (o : Outcome). o.state) t; zeros = rw e; position = rw (t, same) }
    go (carried_out r h d p t) = let z : ◌≡◌ {A = ℕ} 0 1 = cc in absurd (omega arith)

-- "Every step keeps a sound state sound."
pub step_keeps_sound : (s : State) (log : List ℕ) (at : ℕ) → sound s ≡ true → sound (step s log at).state ≡ true
step_keeps_sound s log at h = go (course s log at)
  where
    go : Course s log at → sound (step s log at).state ≡ true
    go (turned_away n t) = rw t h
    go (carried_out r h d p t) = rw t (sound_kept s r h p)
