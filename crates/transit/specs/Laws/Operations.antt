-- What the operations on the unread messages do, for the layers above: these do not open them, and cite these laws. Assumes nothing.
use Rattle.std.specs.Prelude.{◌≡◌, true, false, [], ◌∷◌, ◌++◌, ℕ, ◌+◌, ◌<◌, ◌≤◌}
use Rattle.std.proofs.Math.Path.{refl}
use Rattle.std.proofs.Common.{lt-ltb, le-ltb}
use Rattle.transit.specs.Message.{place_order}
use Rattle.transit.specs.Unread.{
  Unread,
  next_message,
  one_message_more,
  limit,
  head,
  each_to,
  first_to,
  appended,
  relabel_all,
  relabel_first,
  leave,
  removed,
}
use Rattle.transit.specs.declared.Place.{Place}
use Rattle.transit.specs.declared.Rank.{Rank}
use Rattle.transit.specs.declared.Selection.{Selection}

-- where there is room the new message comes last, and its pair has sent one more
pub appends : (u : Unread) (a b : Rank) (p : Place) (v : ℕ) → u.count < limit
    → appended u a b p v
    ≡ record {
      full = false;
      unread = record {
        messages = u.messages ++ (next_message a b p v u.sent ∷ []);
        count = u.count + 1;
        sent = one_message_more a b u.sent;
      };
    }
unfolding appended
appends u a b p v room = rw (lt-ltb u.count limit room)

-- where there is none, all is as it was
pub full_stays : (u : Unread) (a b : Rank) (p : Place) (v : ℕ) → limit ≤ u.count → appended u a b p v ≡ record { full = true; unread = u }
unfolding appended
full_stays u a b p v full = rw (le-ltb u.count limit full)

module _ (s : Selection) (u : Unread) where
  -- each selected message is at the place, and nothing else changes
  pub relabels : (p : Place) → relabel_all s p u ≡ record { messages = each_to s p u.messages; count = u.count; sent = u.sent }
  unfolding relabel_all
  relabels p = refl

  -- the selected message that was sent first is at the place, and nothing else changes
  pub relabels_first : (p : Place)
      → relabel_first s p u ≡ record { messages = first_to s p u.messages; count = u.count; sent = u.sent }
  unfolding relabel_first
  relabels_first p = refl

  -- what leaves is the first of the selected messages in place order
  pub removes : removed s u ≡ leave s u (head (place_order s u.messages))
  unfolding removed
  removes = refl
