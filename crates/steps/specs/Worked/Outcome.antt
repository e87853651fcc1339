-- What a refusal keeps is all of a state: one with another message in an unused slot is another state, though it is one to the desk.
-- Assumes nothing.
use Rattle.std.specs.Prelude.{[], ◌∷◌, ◌≡◌, refl, ℕ, get_or, Err}
use Rattle.std.proofs.Common.{ap, arith}
use Rattle.answer.specs.declared.Refusal.TheVariants.{Unsound}
use Rattle.broker.specs.State.{view}
use Rattle.broker.specs.declared.state.Broker.{Broker}
use Rattle.transit.specs.Message.{message, rank}
use Rattle.transit.specs.declared.Message.{Message}
use Rattle.transit.specs.declared.Place.TheVariants.{Channel}
use Rattle.steps.specs.Outcome.{RefusalKeeps}

-- a message with a value, as the one slot has it
abbrev slot : ℕ → Message
slot v = message (rank 0) (rank 1) Channel v 1

-- nothing is unread, and so the slot is unused
abbrev unused : ℕ → Broker
unused v =
    record { processes = []; locations = []; links = []; drawn = []; transit = record { messages = slot v ∷ []; count = 0; sent = [] } }

pub same_to_the_desk : view (unused 1) ≡ view (unused 2)
same_to_the_desk = refl

pub another_slot_is_not_kept : RefusalKeeps (Err Unsound) (unused 1) (unused 2) → ⊥
another_slot_is_not_kept keeps =
    let other : ◌≡◌ {A = ℕ} 2 1 = ap (λ (b : Broker). (get_or b.transit.messages 0 (slot 0)).value) (keeps Unsound refl) in omega arith
