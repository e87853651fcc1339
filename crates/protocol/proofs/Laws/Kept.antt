-- Every accepted record keeps a sound state sound: the shape, the names, the pairs and the messages, each in a file of its own.
-- Assumes nothing.
pub mod Effects
pub mod Names
pub mod Order
pub mod Shape
pub mod Views
use Rattle.std.specs.Prelude.{◌≡◌, true}
use Rattle.std.proofs.Math.Option.{none}
use Rattle.protocol.specs.Checks.{refusal}
use Rattle.protocol.specs.Laws.Fit.{ends_from_fits, unheeded_from_fits, places_from_fits}
use Rattle.protocol.proofs.Laws.Kept.Names.{names_kept}
use Rattle.protocol.proofs.Laws.Kept.Shape.{shape_kept}
use Rattle.protocol.proofs.Laws.Kept.Views.{views_kept}
use Rattle.protocol.specs.Laws.Sound.{Facts, facts, of_facts}
use Rattle.protocol.specs.Sound.{sound}
use Rattle.broker.specs.State.{State, messages}
use Rattle.protocol.specs.Step.{apply}
use Rattle.record.specs.declared.Record.{Record}

facts_kept : (s : State) (r : Record) → Facts s → refusal s r ≡ none → Facts (apply r s).state
facts_kept s r f p =
    let after = (apply r s).state in
    let views = views_kept s r f p in
    let order = views.order in
    record {
      shape = shape_kept s r f.shape;
      names = names_kept s r f p;
      pairs = views.pairs;
      mail =
          record {
            few = order.few;
            counted = order.counted;
            named = order.named;
            places_rise_lem = order.places_rise_lem;
            numbers_rise_lem = order.numbers_rise_lem;
            ends_fit_lem = ends_from_fits after (messages after) views.placed;
            unheeded_places_lem = unheeded_from_fits after (messages after) views.placed;
            places_fit_lem = places_from_fits after (messages after) views.placed;
          };
    }

-- "Every step keeps a sound state sound."
pub sound_kept : (s : State) (r : Record) → sound s ≡ true → refusal s r ≡ none → sound (apply r s).state ≡ true
sound_kept s r h p = of_facts (apply r s).state (facts_kept s r (facts s h) p)
