-- A state by value goes into the arrays: what they hold then. Assumes nothing.
use Rattle.std.specs.Prelude.{◌≡◌, refl, Bool, true, false, not, ◌&&◌, List, ℕ}
use Rattle.std.proofs.Common.{ap, ◌∙◌}
use Rattle.base.specs.Laws.Lists.{every_wider}
use Rattle.base.specs.Lists.{every}
use Rattle.transit.specs.Columns.{sent_in}
use Rattle.transit.specs.Mail.{messages_in, unread_in}
use Rattle.transit.specs.Message.{is_same_rank, is_rank}
use Rattle.transit.specs.Slots.{ranked}
use Rattle.transit.specs.Unread.{Unread, nothing, counted}
use Rattle.transit.specs.declared.Message.{Message}
use Rattle.protocol.specs.Laws.Sound.{facts}
use Rattle.protocol.specs.Sound.{sound}
use Rattle.broker.specs.State.{State, messages, with_unread}
use Rattle.roster.specs.Roster.{ranks_of}

-- from a rank to another rank
abbrev named : Message → Bool
named m = is_rank m.sender && is_rank m.receiver && not (is_same_rank m.sender m.receiver)

-- the messages of a sound state are between ranks
pub sound_ranked : (s : State) → sound s ≡ true → every ranked (messages s) ≡ true
sound_ranked s ok =
    every_wider named ranked (λ m e. between_ranks (is_rank m.sender) (is_rank m.receiver) _ e) (messages s)
    (facts s ok).mail.named
  where
    between_ranks : (a b c : Bool) → (a && b && c) ≡ true → (a && b) ≡ true
    between_ranks true true c e = refl
    between_ranks true false c e = e
    between_ranks false b c e = e

-- the arrays hold a sound state where they hold its messages and all else of it
pub state_held :
    (s : State) (slots contents roster : List ℕ) → sound s ≡ true →
    messages_in slots contents ≡ messages s → sent_in contents ≡ s.unread.sent → ranks_of roster ≡ with_unread nothing s →
    with_unread (unread_in slots contents) (ranks_of roster) ≡ s
state_held s slots contents roster ok mail counts ranks =
    let unread : unread_in slots contents ≡ s.unread =
    ap (λ (l : List Message). counted (sent_in contents) l) mail ∙ ap (λ (k : List ℕ). counted k (messages s)) counts ∙
    ap (λ (n : ℕ). record { messages = messages s; count = n; sent = s.unread.sent }) (facts s ok).mail.counted in
    ap (λ (u : Unread). with_unread u (ranks_of roster)) unread ∙ ap (λ (t : State). with_unread s.unread t) ranks
