-- A run by steps is its whole records and the step that ends it. Paper 01, "The printed run". Assumes nothing.
use Rattle.std.specs.Prelude.{◌≡◌, List, ℕ, suc, ◌+◌, ◌≤◌, leb, length, Ok, Err}
use Rattle.std.proofs.Math.Path.{refl, ap}
use Rattle.std.proofs.Common.{◌∙◌, arith, lt-ltb}
use Rattle.std.proofs.Math.Bool.{true, false}
use Rattle.std.proofs.Math.Option.{Option, none, some}
use Rattle.std.proofs.Math.Nat.{zero-add}
use Rattle.std.proofs.Math.Dec.{ltb}
use Rattle.base.specs.Laws.Tests.{by_test, fails_right}
use Rattle.answer.specs.Answer.{refusal_number}
use Rattle.protocol.specs.Checks.{refusal, checks}
use Rattle.protocol.proofs.Laws.Step.{checks_pass_record, step_of_sound, step_keeps_sound}
use Rattle.record.specs.Record.{decode, Decoded}
use Rattle.protocol.specs.Sound.{sound}
use Rattle.broker.specs.State.{State}
use Rattle.protocol.specs.Step.{apply, on_refusal, settle, step_sound, step, on_decoded}
use Rattle.answer.specs.declared.Refusal.{Refusal}
use Rattle.record.specs.declared.Fault.TheVariants.{Unknown, Cut}
use Rattle.record.specs.declared.Record.{Record}
use Rattle.print_run.proofs.Laws.Ending.{closing_at_end}
use Rattle.print_run.specs.Laws.Wholes.{along, ahead}
use Rattle.print_run.specs.Laws.Window.{stands}
use Rattle.print_run.specs.Run.{Came, stops, run_log}
use Rattle.print_run.specs.Wholes.{is_whole, closing, wholes, ended, run_from}

-- No check has a number up to 3, so that a run goes on behind a record that was read whole.
goes_on : (r : Record) (s : State) → stops (settle r s).answer ≡ false
unfolding settle checks refusal
goes_on r s = by_check (refusal s r) refl
  where
    by_check : (o : Option Refusal) → refusal s r ≡ o → stops (on_refusal o (apply r s) s).answer ≡ false
    by_check none e = refl
    by_check (some n) e = fails_right (leb 1 (refusal_number n)) (checks_pass_record checks refl s r n e)

module _ (s : State) (log : List ℕ) (at : ℕ) (h : sound s ≡ true) where
  -- A step of a sound state goes by what stands there.
  step_read : (d : Decoded) → decode log at ≡ d → step s log at ≡ on_decoded at s d
  unfolding step_sound
  step_read d e = step_of_sound s log at h ∙ rw e

  -- A record that was read whole leaves it sound.
  pub settled_sound : (r : Record) (next : ℕ) → decode log at ≡ Ok (r, next) → sound (settle r s).state ≡ true
  settled_sound r next e = rw (step_read (Ok (r, next)) e) at (step_keeps_sound s log at h)

  -- A whole record is one step, and the run goes on from what it leaves.
  run_goes_on : (n : ℕ) (r : Record) (next : ℕ) → decode log at ≡ Ok (r, next) →
      run_log (suc n) s log at ≡ ahead 0 log s at r (run_log n (settle r s).state log next)
  unfolding run_log
  run_goes_on n r next e =
      rw (lt-ltb at (length log) (stands log at e).inside, step_read (Ok (r, next)) e, goes_on r s, zero-add at)

  -- Where none stands, the run ends.
  run_ends : (n : ℕ) → is_whole (decode log at) ≡ false →
      run_log (suc n) s log at ≡ record { state = s; at = at; answers = closing 0 log at }
  unfolding run_log closing
  run_ends n g = by_test (ltb at (length log)) (λ t. by (decode log at) refl g t) (λ t. rw t)
    where
      by : (d : Decoded) → decode log at ≡ d → is_whole d ≡ false → ltb at (length log) ≡ true →
          run_log (suc n) s log at ≡ record { state = s; at = at; answers = closing 0 log at }
      by (Ok (r, next)) e g t = cc
      by (Err Unknown) e g t = rw (t, step_read (Err Unknown) e, e, zero-add at)
      by (Err Cut) e g t = rw (t, step_read (Err Cut) e, e, zero-add at)

module _ (log : List ℕ) where
  -- A run by steps leaves the state that the whole records leave, and where it is at its end it is the run in one pass.
  in_one_pass : (n : ℕ) (s : State) (at : ℕ) → sound s ≡ true →
      ((run_log n s log at).state ≡ (wholes 0 n s log at).state) ×
      (length log ≤ at + n → run_log n s log at ≡ ended 0 log (wholes 0 n s log at))
  unfolding run_log
  in_one_pass =
      along 0 log
      (λ n s at c. sound s ≡ true → ((run_log n s log at).state ≡ c.state) ×
      (length log ≤ at + n → run_log n s log at ≡ ended 0 log c))
      (λ s at h. (refl, λ l. rw (closing_at_end 0 log at (omega arith), zero-add at)))
      (λ n s at g h. let end = run_ends s log at h n g in (ap (λ (c : Came). c.state) end, λ l. end ∙ rw (zero-add at)))
      (λ n s at r next e c later h.
      let first = run_goes_on s log at h n r next e in
      let rest = later (settled_sound s log at h r next e) in
      let there = stands log at e in
      (ap (λ (c : Came). c.state) first ∙ rest.0, λ l. first ∙ ap (ahead 0 log s at r) (rest.1 (omega arith))))

  pub same_state : (n : ℕ) (s : State) (at : ℕ) → sound s ≡ true → (run_log n s log at).state ≡ (wholes 0 n s log at).state
  same_state n s at h = (in_one_pass n s at h).0

  -- So the run of a log from its start is the run in one pass.
  pub run_is_one_pass : (s : State) → sound s ≡ true → run_log (length log) s log 0 ≡ run_from 0 s log
  unfolding run_from
  run_is_one_pass s h = (in_one_pass (length log) s 0 h).1 (omega arith)
