use Rattle.std.proofs.Common.{ℕ, ◌+◌, ◌<◌, List, ◌∷◌, drop, get_or, length, sym, ◌∙◌, add-one, drop-cons}
use Rattle.std.proofs.lemmas.Bool.{lt-leb}
use Rattle.std.proofs.lemmas.List.{drop_all}
use Rattle.base.specs.Laws.Tests.{both, fails_left, fails_right}
use Rattle.transit.specs.Unread.{Unread, unread_of}
use Rattle.transit.specs.declared.Message.{Message}
use Rattle.protocol.specs.Laws.Sound.{is_named}
use Rattle.broker.specs.declared.link.Link.{Link}
use Rattle.broker.specs.declared.process.Process.{Process}
use Rattle.soundness_messages.specs.Laws.Pass.{
  MessagesPass,
  begins,
  ends,
  unfit_decides,
  fall_decides,
  number_decides,
  passed_again,
  passed_next,
}
use Rattle.soundness_messages.specs.Messages.{messages_sound}
use Rattle.transit.proofs.Slots.{blank}
use Rattle.soundness_messages.proofs.messages_sound.Goals as goal
use Rattle.soundness_messages.proofs.messages_sound.Goals.{then-last-pair+else-mark-last+else-not-message_fits, else-last-pair}

-- in a turn the pass stands before its message
stands : {ps : List Process} {ls : List Link} {u : Unread} {last numbers : List ℕ} (l : List Message) (i : ℕ) → i < length l
    → MessagesPass ps ls u last numbers (drop i l) → MessagesPass ps ls u last numbers (get_or l i blank ∷ drop (i + 1) l)
stands l i inside pass = rw (add-one, ← drop-cons l i blank inside) pass

pub returns-then-t-gt-LIMIT : goal.returns-then-t-gt-LIMIT
unfolding messages_sound
returns-then-t-gt-LIMIT c = rw (lt-leb _ _ c.if-t-gt-LIMIT.true)

pub loop-m-init : goal.loop-m-init
loop-m-init c = let x = c.args in begins x.processes x.links (unread_of x.t)

pub returns-then-not-is_named : goal.returns-then-not-is_named
returns-then-not-is_named c =
    unfit_decides (stands (unread_of c.args.t).messages c.loop-m.m-index c.loop-m-test.true c.loop-m.invariant)
    (fails_left _ (sym c.is_named.ensures ∙ c.if-not-is_named.true))

pub returns-then-not-numbers-pair : goal.returns-then-not-numbers-pair
returns-then-not-numbers-pair c =
    number_decides (stands (unread_of c.args.t).messages c.loop-m.m-index c.loop-m-test.true c.loop-m.invariant)
    c.if-not-numbers-pair.true

pub returns-then-mark-last : goal.returns-then-mark-last
returns-then-mark-last c =
    fall_decides (stands (unread_of c.args.t).messages c.loop-m.m-index c.loop-m-test.true c.loop-m.invariant)
    (rw (← c.number-mark.ensures) c.if-mark-last.true)

pub returns-then-not-message_fits : goal.returns-then-not-message_fits
returns-then-not-message_fits c =
    let l = (unread_of c.args.t).messages in
    let unfit = sym c.message_fits.ensures ∙ c.if-not-message_fits.true in
    unfit_decides (stands l c.loop-m.m-index c.loop-m-test.true c.loop-m.invariant)
    (fails_right (is_named (get_or l c.loop-m.m-index blank)) unfit)

pub loop-m-preserved : goal.loop-m-preserved
loop-m-preserved c =
    let pass = stands (unread_of c.args.t).messages c.loop-m.m-index c.loop-m-test.true c.loop-m.invariant in
    let name = sym c.is_named.ensures ∙ c.if-not-is_named.false in
    let next = c.if-not-numbers-pair.false in
    elim c.if-last-pair.branch [
      | then-last-pair+else-mark-last+else-not-message_fits w ↦
          let fits = both name (sym w.message_fits.ensures ∙ w.if-not-message_fits.false) in
          rw (w.last-is, c.number-mark.ensures) (passed_next pass name next fits (rw (← c.number-mark.ensures) w.if-mark-last.false))
      | else-last-pair w ↦
          rw w.last-is (passed_again pass name next (rw (← c.number-mark.ensures) w.if-last-pair.false))
    ]

pub returns : goal.returns
returns c = ends (rw (drop_all _ _ c.loop-m-test.false) at c.loop-m.invariant) c.if-t-gt-LIMIT.false
