-- What a record comes to, by a verdict that gives the refusal of the definition. Assumes nothing.
use Rattle.std.proofs.Math.Option.{none, some}
use Rattle.std.specs.Prelude.{◌≡◌, ⊤, Result, Ok, Err}
use Rattle.std.proofs.Math.Path.{sym, ap}
use Rattle.std.proofs.Common.{◌∙◌}
use Rattle.protocol.specs.Checks.{refusal}
use Rattle.protocol.specs.Done.{Done}
use Rattle.broker.specs.State.{State}
use Rattle.protocol.specs.Step.{Settlement, settle, apply}
use Rattle.answer.specs.declared.Refusal.{Refusal}
use Rattle.answer.specs.declared.Values.{Values}
use Rattle.record.specs.declared.Record.{Record}
use Rattle.desk.specs.Desk.{Judges, Does}
use Rattle.verdict.specs.Verdict.{verdict_of}

module _ (r : Record) (s : State) (v : Result ⊤ Refusal) (judged : Judges r s v) where
  -- a verdict that refuses: the state is as it was
  pub settle_refused : (n : Refusal) → v ≡ Err n → ◌≡◌ {A = Settlement} (record { answer = Err n; state = s }) (settle r s)
  unfolding settle
  settle_refused n e = let h : refusal s r ≡ some n = sym judged ∙ ap verdict_of e in rw h

  -- a verdict that passes: what the record does
  pub settle_accepted :
      {x : ⊤} (w : Values) (s' : State) → v ≡ Ok x → Does (apply r) s w s' →
      ◌≡◌ {A = Settlement} (record { answer = Ok w; state = s' }) (settle r s)
  unfolding settle
  settle_accepted w s' e does =
      let h : refusal s r ≡ none = sym judged ∙ ap verdict_of e in
      rw h (ap (λ (d : Done). record { answer = Ok d.values; state = d.state }) does)
