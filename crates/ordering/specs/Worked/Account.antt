-- All that a list of steps comes to, field by field: what a worked run is computed by. Assumes nothing.
use Rattle.std.specs.Prelude.{◌≡◌, refl, Bool, true, ◌&&◌, List, [], ◌∷◌, ◌++◌}
use Rattle.std.proofs.Common.{ap, ◌∙◌}
use Rattle.protocol.specs.Laws.Opened.{opened}
use Rattle.protocol.proofs.Laws.Step.{step_of_sound, step_keeps_sound}
use Rattle.record.specs.Record.{decode}
use Rattle.protocol.specs.Sound.{sound}
use Rattle.broker.specs.State.{State, fresh}
use Rattle.protocol.specs.Step.{Outcome, step_sound}
use Rattle.ordering.specs.Claim.{Reading, Entry, step_at, after, is_accepted, every_accepted, entry_of, accepted}
use Rattle.ordering.specs.Laws.Runs.{fresh_sound}

-- the accepted steps, whether all are, and the state at the end
pub record Account : Type 0 where
  pub steps : List Entry
  pub all : Bool
  pub end : State

abbrev pub account : State → List Reading → Account
account s xs =
    record {
      steps = accepted s xs;
      all = every_accepted s xs;
      end = after s xs;
    }

-- a step ahead of an account
abbrev ahead : Reading → Outcome → Account → Account
ahead x o t =
    record {
      steps = entry_of o.answer (decode x.log x.at) ++ t.steps;
      all = is_accepted o.answer && t.all;
      end = t.end;
    }

abbrev sound_step_at : State → Reading → Outcome
sound_step_at s x = step_sound s x.log x.at

-- an account in one pass, without the test of soundness
abbrev sound_account : State → List Reading → Account
sound_account s [] = account s []
sound_account s (x ∷ xs) = ahead x (sound_step_at s x) (sound_account (sound_step_at s x).state xs)

-- From a sound state that test may be left out: every step passes it.
sound_account_lem : (s : State) (xs : List Reading) → sound s ≡ true → account s xs ≡ sound_account s xs
sound_account_lem s [] h = refl
sound_account_lem s (x ∷ xs) h =
    ap
    (ahead x (step_at s x))
    (sound_account_lem (step_at s x).state xs (step_keeps_sound s x.log x.at h)) ∙
    ap
    (λ (o : Outcome). ahead x o (sound_account o.state xs))
    (step_of_sound s x.log x.at h)

-- the account from a sound state; where this is opened, all that a step computes with is open
unfoldable pub computed_from : State → List Reading → Account
unfolding opened
computed_from s xs = sound_account s xs

pub from_sound : (s : State) (xs : List Reading) → sound s ≡ true → account s xs ≡ computed_from s xs
unfolding computed_from
from_sound s xs h = sound_account_lem s xs h

-- the account from the fresh state
unfoldable pub computed : List Reading → Account
unfolding computed_from
computed xs = computed_from fresh xs

pub from_fresh : (xs : List Reading) → account fresh xs ≡ computed xs
unfolding computed
from_fresh xs = from_sound fresh xs fresh_sound
