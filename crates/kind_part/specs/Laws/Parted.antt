-- What reading both channels and closing both lines leaves and answers. Assumes nothing.
use Rattle.std.specs.Prelude.{◌≡◌, false, List, ℕ, eqb, length}
use Rattle.std.proofs.Math.Path.{ap}
use Rattle.std.proofs.Common.{◌∙◌, arith, eqb-true, ne_eqb}
use Rattle.std.proofs.lemmas.Bool.{eqb-false}
use Rattle.std.proofs.lemmas.List.{length-map}
use Rattle.base.specs.Laws.Lists.{select_map}
use Rattle.transit.specs.Laws.Operations.{relabels}
use Rattle.base.specs.Laws.Tests.{by_test, both_left}
use Rattle.base.specs.Lists.{tally, change_each}
use Rattle.transit.specs.Message.{is_same_rank, between, picks, relabelled}
use Rattle.transit.specs.Unread.{Unread, each_to, relabel_all}
use Rattle.transit.specs.declared.Message.{Message}
use Rattle.transit.specs.declared.Place.TheVariants.{EndList}
use Rattle.transit.specs.declared.Rank.{Rank}
use Rattle.protocol.specs.Connect.{connect_both, on_channel, part}
use Rattle.protocol.specs.Done.{done}
use Rattle.broker.specs.State.{State, with_unread}
use Rattle.broker.specs.declared.link.Connection.TheVariants.{Closed}

module _ (a b : Rank) (apart : is_same_rank a b ≡ false) where
  -- a message that is on the one channel is not on the other, before it is read and after
  on_one : (m : Message) → picks (on_channel a b) (change_each (picks (on_channel b a)) (relabelled EndList) m) ≡ picks (on_channel a b) m
  on_one m =
      by_test (picks (on_channel b a) m)
      (λ e.
      let from : m.sender.0 ≡ b.0 = eqb-true m.sender.0 b.0 (both_left _ _ (both_left (between b a m) _ e)) in
      let not : eqb m.sender.0 a.0 ≡ false = ne_eqb m.sender.0 a.0 (λ h. omega (arith, eqb-false a.0 b.0 apart)) in
      rw (e, not))
      (λ e. rw e)

  -- reading the one channel leaves what is on the other
  pub other_channel :
      (l : List Message) →
      tally (picks (on_channel a b)) (each_to (on_channel b a) EndList l) ≡ tally (picks (on_channel a b)) l
  other_channel l =
      ap length (select_map (picks (on_channel a b)) (change_each (picks (on_channel b a)) (relabelled EndList)) on_one l)
      ∙ simp length-map

  pub part_done :
      (u : Unread) {u1 u2 : Unread} {n1 n2 : ℕ} {after : State} (known : State) →
      u1 ≡ relabel_all (on_channel b a) EndList u →
      n1 ≡ tally (picks (on_channel b a)) u.messages →
      u2 ≡ relabel_all (on_channel a b) EndList u1 →
      n2 ≡ tally (picks (on_channel a b)) u1.messages →
      after ≡ connect_both a b Closed known →
      done (with_unread u2 after) n1 n2 0 ≡ part a b (with_unread u known)
  unfolding part
  part_done u {n1 = n1} {n2 = n2} {after} known read to_first both to_second lines =
      let moved = both ∙ ap (relabel_all (on_channel a b) EndList) read in
      let listed = ap (λ (v : Unread). v.messages) (read ∙ relabels (on_channel b a) u EndList) in
      ap (λ (v : Unread). done (with_unread v after) n1 n2 0) moved ∙
      rw (lines, to_second, to_first, listed, other_channel u.messages)
