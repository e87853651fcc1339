-- What each routine over the slots makes of the unread messages, as the definitions have it: the promise to the layers above.
-- Assumes nothing.
use Rattle.std.specs.Prelude.{Some, ◌≡◌, refl, true, List, [], ◌∷◌, ◌++◌, map, ℕ, ◌+◌, ◌<◌, length}
use Rattle.std.proofs.Common.{arith, length-append}
use Rattle.std.proofs.lemmas.List.{length-map}
use Rattle.base.specs.Laws.Lists.{length_change_first}
use Rattle.transit.specs.Laws.Operations.{appends, relabels, relabels_first}
use Rattle.transit.specs.Laws.Removed.{removed_sent_first}
use Rattle.base.specs.Lists.{select, tally, without, never_falls}
use Rattle.transit.specs.Columns.{sent_in}
use Rattle.transit.specs.Mail.{messages_in, unread_in, Appended, Left, Relabelled, FirstRelabelled}
use Rattle.transit.specs.Message.{place_index, between}
use Rattle.transit.specs.Unread.{
  Unread,
  limit,
  counted,
  next_message,
  head,
  first_sent,
  appended,
  removed,
  relabel_all,
  relabel_first,
}
use Rattle.transit.specs.declared.Message.{Message}
use Rattle.transit.specs.declared.Place.{Place}
use Rattle.transit.specs.declared.Rank.{Rank}
use Rattle.transit.specs.declared.Selection.{Selection}
use Rattle.transit.specs.declared.Selection.TheVariants.{Between}

module _ {slots contents slots' : List ℕ} where
  -- a message behind all others, with the next number of its pair
  pub appended_unread : {a b : Rank} {p : Place} {v n : ℕ} {contents' : List ℕ} → Appended a b p v slots contents n slots' contents'
      → length (messages_in slots contents) < limit → (appended (unread_in slots contents) a b p v).unread ≡ unread_in slots' contents'
  appended_unread {a} {b} {p} {v} x room =
      let l = messages_in slots contents in
      let m = next_message a b p v (sent_in contents) in
      let long : length l + 1 ≡ length (l ++ (m ∷ [])) = omega (arith, length-append l (m ∷ [])) in
      rw (appends (unread_in slots contents) a b p v room, x.same, x.counts, long)

  -- the selected messages at a place
  pub relabelled_unread : {s : Selection} {p : Place} {n : ℕ} → Relabelled s p slots contents n slots'
      → unread_in slots' contents ≡ relabel_all s p (unread_in slots contents)
  relabelled_unread {s} {p} x = rw (relabels s (unread_in slots contents) p, x.same, length-map)

  -- the first of them at a place
  pub first_relabelled_unread : {s : Selection} {p : Place} → FirstRelabelled s p slots contents slots'
      → unread_in slots' contents ≡ relabel_first s p (unread_in slots contents)
  first_relabelled_unread {s} {p} x = rw (relabels_first s (unread_in slots contents) p, x.same, length_change_first)

-- the pair's first message has left: where places never fall, that is the first in place order
module _ (a b : Rank) (u : Unread) where
  pub first_removed : {m : Message} → first_sent (Between a b) u ≡ Some m
      → 0 < tally (between a b) u.messages
      → never_falls (map place_index (select (between a b) u.messages)) ≡ true
      → removed (Between a b) u ≡ record { found = Some m; unread = counted u.sent (without (between a b) u.messages) }
  first_removed found some rises = rw (← found) (at (select (between a b) u.messages) refl some)
    where
      at : (l : List Message) → select (between a b) u.messages ≡ l → 0 < length l
          → removed (Between a b) u ≡ record { found = head l; unread = counted u.sent (without (between a b) u.messages) }
      at [] e h = absurd (omega arith)
      at (m ∷ l) e h = removed_sent_first (Between a b) u m l rises e

module _ {slots contents slots' : List ℕ} where
  -- the same of the slots
  pub left_unread : {a b : Rank} {m : Message} {rest : ℕ} → Left a b slots contents m rest slots'
      → 0 < tally (between a b) (messages_in slots contents)
      → never_falls (map place_index (select (between a b) (messages_in slots contents))) ≡ true
      → removed (Between a b) (unread_in slots contents)
      ≡ record { found = Some m; unread = unread_in slots' contents }
  left_unread {a} {b} x some rises = rw x.same (first_removed a b (unread_in slots contents) x.found some rises)
