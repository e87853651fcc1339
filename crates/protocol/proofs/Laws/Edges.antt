-- The fresh state is sound, and every case of the table of edges holds: both computed from the definitions. Assumes nothing.
use Rattle.std.specs.Prelude.{◌≡◌, refl, Bool, true, ◌&&◌, List, [], ◌∷◌, T}
use Rattle.std.proofs.Common.{ap, ◌∙◌}
use Rattle.protocol.specs.Edges.{Try, Edge, plays, holds, A, B, C, D, E, F, G, G_lands, H, I, J, EdgesHold}
use Rattle.base.specs.Laws.Tests.{true_of}
use Rattle.protocol.specs.Laws.Opened.{opened, opened_sound}
use Rattle.protocol.proofs.Laws.Step.{step_of_sound, step_keeps_sound}
use Rattle.protocol.specs.Sound
use Rattle.broker.specs.State.{State, fresh}
use Rattle.protocol.specs.Step.{Outcome, step, step_sound}

pub fresh_is_sound : T (Sound.sound fresh)
unfolding opened_sound
fresh_is_sound = tt

-- From a sound state the test of soundness may be left out: every step passes it.
pub plays_sound :
    (ts : List Try) (test : State → Bool) (s : State) →
    Sound.sound s ≡ true →
    plays (λ s log. step s log 0) ts test s ≡ plays (λ s log. step_sound s log 0) ts test s
plays_sound [] test s h = refl
plays_sound (t ∷ ts) test s h =
    let o = step s t.log 0 in
    ap (λ (b : Bool). t.fits o.answer && b) (plays_sound ts test o.state (step_keeps_sound s t.log 0 h)) ∙
    ap
    (λ (o : Outcome). t.fits o.answer && plays (λ s log. step_sound s log 0) ts test o.state)
    (step_of_sound s t.log 0 h)

abbrev pub holds_sound : Edge → Bool
holds_sound e = plays (λ s log. step_sound s log 0) e.steps e.then fresh

-- So a run is computed without it.
pub by_computing : (e : Edge) → holds_sound e ≡ true → holds e ≡ true
by_computing e h = plays_sound e.steps e.then fresh (true_of (Sound.sound fresh) fresh_is_sound) ∙ h

pub edges_hold : EdgesHold
unfolding opened
edges_hold =
    record {
      case_A = by_computing A refl;
      case_B = by_computing B refl;
      case_C = by_computing C refl;
      case_D = by_computing D refl;
      case_E = by_computing E refl;
      case_F = by_computing F refl;
      case_G = by_computing G refl;
      case_G_lands = by_computing G_lands refl;
      case_H = by_computing H refl;
      case_I = by_computing I refl;
      case_J = by_computing J refl;
    }
