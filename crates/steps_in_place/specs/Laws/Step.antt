-- Laws of a step of a sound state: its outcome by what stands at the position. Assumes nothing.
use Rattle.std.specs.Prelude.{◌≡◌, List, ℕ, Ok, Err}
use Rattle.record.specs.Record.{decode}
use Rattle.broker.specs.State.{State}
use Rattle.protocol.specs.Step.{Settlement, Outcome, settle, step_sound, refused}
use Rattle.answer.specs.declared.Refusal.TheVariants.{UnknownKind, CutShort}
use Rattle.record.specs.Refused.{refusal_of}
use Rattle.record.specs.declared.Fault.{Fault}
use Rattle.record.specs.declared.Fault.TheVariants.{Unknown, Cut}
use Rattle.record.specs.declared.Record.{Record}

module _ (s : State) (log : List ℕ) (at : ℕ) where
  -- a whole record is settled, and the position passes it
  pub on_whole :
      (r : Record) (next : ℕ) (x : Settlement) → decode log at ≡ Ok (r, next) → x ≡ settle r s →
      ◌≡◌ {A = Outcome} (record { answer = x.answer; next = next; state = x.state }) (step_sound s log at)
  unfolding step_sound
  on_whole r next x e h = rw (e, h)

  -- a kind that is none, and a record cut short, leave state and position
  pub on_fault : (fault : Fault) → decode log at ≡ Err fault → refused (refusal_of fault) at s ≡ step_sound s log at
  unfolding step_sound
  on_fault fault e = rw e

  pub on_unknown : decode log at ≡ Err Unknown → refused UnknownKind at s ≡ step_sound s log at
  on_unknown e = on_fault Unknown e

  pub on_cut : decode log at ≡ Err Cut → refused CutShort at s ≡ step_sound s log at
  on_cut e = on_fault Cut e
