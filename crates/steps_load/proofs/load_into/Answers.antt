use Rattle.std.proofs.Common.{ap, sym, ◌∙◌, ◌≡◌, true}
use Rattle.transit.specs.Unread.{Unread}
use Rattle.broker.specs.State.{view}
use Rattle.protocol.specs.Laws.Sound.{facts}
use Rattle.protocol.specs.Sound.{sound}
use Rattle.steps_load.specs.Laws.Held.{sound_ranked, state_held}
use Rattle.steps_load.proofs.load_into.Goals as goal
use Rattle.steps_load.proofs.load_into.Goals.{Else-not-is_sound}

-- Behind the test the state is sound.
passed : (c : Else-not-is_sound) → sound (view c.args.broker) ≡ true
passed c = sym c.is_sound.ensures ∙ c.if-not-is_sound.false

pub load_into-requires-clause-count_le_limit : goal.load_into-requires-clause-count_le_limit
load_into-requires-clause-count_le_limit c =
    let ok = passed (goal.at.load_into-requires-clause-count_le_limit c).Else-not-is_sound in (facts (view c.args.broker) ok).mail.few

pub load_into-requires-clause-counted : goal.load_into-requires-clause-counted
load_into-requires-clause-counted c =
    let ok = passed (goal.at.load_into-requires-clause-counted c).Else-not-is_sound in
    sym (facts (view c.args.broker) ok).mail.counted

pub load_into-requires-clause-t_value : goal.load_into-requires-clause-t_value
load_into-requires-clause-t_value c =
    sound_ranked (view c.args.broker) (passed (goal.at.load_into-requires-clause-t_value c).Else-not-is_sound)

pub returns-clause-tells : goal.returns-clause-tells
returns-clause-tells c = sym (passed (goal.at.returns-clause-tells c).Else-not-is_sound)

pub returns-clause-holds : goal.returns-clause-holds
returns-clause-holds c = λ _.
    let ok = passed (goal.at.returns-clause-holds c).Else-not-is_sound in
    let same = c.load_into.ensures.same in
    let messages = ap (λ (u : Unread). u.messages) same in
    let sent = ap (λ (u : Unread). u.sent) same in
    state_held (view c.args.broker) _ _ _ ok messages sent c.load.ensures.same
