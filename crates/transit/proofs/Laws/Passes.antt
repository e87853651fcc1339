-- Passes over all slots: one slot further, how many messages they count, and what they leave.
-- Assumes nothing.
use Rattle.std.specs.Prelude.{Bool, true, false, cond, List, ◌≡◌, leb, set}
use Rattle.std.specs.Int.{from_bool}
use Rattle.std.proofs.Math.Path.{refl}
use Rattle.std.proofs.Common.{sym, ap, ◌∙◌, arith, le-ltb, length-set, get_or-set_same, get_or-set_other}
use Prim.Native.Nat.{ℕ, zero, suc, ◌+◌, ◌<◌, ◌≤◌}
use Rattle.std.proofs.Math.Numerals.{add-one}
use Rattle.std.proofs.Math.ListN.{length, get_or, take}
use Rattle.std.proofs.lemmas.List.{length-map}
use Rattle.std.proofs.Math.Seq.{take_all}
use Rattle.transit.specs.Columns.{Columns, columns_of, PLACES, SLOTS, slots_length}
use Rattle.base.specs.Lists.{tally, change_each}
use Rattle.transit.specs.Mail.{messages_in, IsMail, Relabelled}
use Rattle.transit.specs.Message.{place_number, picks, relabelled, cells}
use Rattle.transit.specs.Pick.{picked, hits, Passed}
use Rattle.transit.specs.Slots.{held, message_of, message_at}
use Rattle.transit.specs.Unread.{each_to}
use Rattle.transit.specs.declared.Place.{Place}
use Rattle.transit.specs.declared.Selection.{Selection}
use Rattle.transit.specs.declared.pick.Pick.{Pick}
use Rattle.transit.specs.Laws.Columns.{column_sizes, store_place, pair_at, place_at}
use Rattle.transit.specs.Laws.Held.{held_map, held_live, held_gone}
use Rattle.transit.specs.Laws.Mail.{mail_places}
use Rattle.base.specs.Laws.Lists.{tally_append}
use Rattle.transit.specs.Laws.Messages.{place_back_lem}
use Rattle.transit.specs.Laws.Order.{place_below_four}
use Rattle.base.specs.Laws.Tests.{by_test, by_equal, by_less}

-- A slot counts once at most.
pub one_at_most : (b : Bool) → cond b 1 0 ≤ 1
one_at_most true = omega arith
one_at_most false = omega arith

-- A test as a number: 1 where it passes, and 0 elsewhere.
pub one_if : (b : Bool) → from_bool b ≡ cond b 1 0
one_if true = refl
one_if false = refl

-- No more slots are picked than were passed.
pub hits_few : (w : Pick) (c : Columns) (i : ℕ) → hits w c i ≤ i
unfolding hits
hits_few w c zero = omega arith
hits_few w c (suc i) =
    omega (arith, hits_few w c i, one_at_most (picked w (get_or c.pairs i 0) (get_or c.places i 0)))

-- A slot of no pair is not picked.
dead_other : (w : Pick) (p n : ℕ) → w.high ≤ cells → cells ≤ p → picked w p n ≡ false
dead_other w p n top dead =
    by_test (leb w.low p) (λ e. rw (e, le-ltb p w.high (omega arith))) (λ e. rw e)

-- Before a pass nothing has changed.
pub pass_start : (w : Pick) (to : ℕ) (s : List ℕ) → length s ≡ slots_length → Passed w to s 0 0 s
unfolding hits
pass_start w to s long =
    record { long = long; others = refl; done = λ k h. absurd (omega arith); rest = λ k _. refl; counted = refl }

-- A pass has come one slot further.
pub pass_next : {w : Pick} {to : ℕ} {s s' : List ℕ} {i n : ℕ} → i < SLOTS → Passed w to s i n s'
    → let hit = picked w (get_or s' i 0) (get_or s' (PLACES + i) 0) in
    Passed w to s (i + 1) (n + cond hit 1 0) (set s' (PLACES + i) (cond hit to (get_or s' (PLACES + i) 0)))
unfolding hits
pass_next {w} {to} {s} {s'} {i} {n} inside g =
    let c = columns_of s in
    let hit = picked w (get_or s' i 0) (get_or s' (PLACES + i) 0) in
    let x = cond hit to (get_or s' (PLACES + i) 0) in
    let stored = store_place s' i x inside in
    let places = (columns_of s').places in
    let fits : i < length places = omega (arith, (column_sizes s' g.long).places_long) in
    let pair : get_or s' i 0 ≡ get_or c.pairs i 0 = sym (pair_at s' i inside) ∙ ap (λ (y : Columns). get_or y.pairs i 0) g.others in
    let place : get_or s' (PLACES + i) 0 ≡ get_or c.places i 0 = sym (place_at s' i inside) ∙ g.rest i (omega arith) in
    record {
      long = length-set s' (PLACES + i) x ∙ g.long;
      others = rw (stored, g.others);
      done = λ k h. rw stored (by_equal k i
          (λ e. rw (e, get_or-set_same places i x 0 fits, pair, place))
          (λ ne. get_or-set_other places i k x 0 ne ∙ g.done k (omega (arith, ne))));
      rest = λ k h. rw stored (get_or-set_other places i k x 0 (λ e. omega (arith, e)) ∙ g.rest k (omega arith));
      counted = rw (add-one, g.counted, pair, place);
    }

module _ {s v : List ℕ} (d : IsMail s v) (sel : Selection) (w : Pick) (top : w.high ≤ cells)
    (agree : (p n x k : ℕ) → p < cells → n < 4 → picks sel (message_of p n x k) ≡ picked w p n) where
  -- A live slot is picked if its message is selected.
  here : (k : ℕ) → k < SLOTS → get_or (columns_of s).pairs k 0 < cells
      → picks sel (message_at (columns_of s).places v k (get_or (columns_of s).pairs k 0))
      ≡ picked w (get_or (columns_of s).pairs k 0) (get_or (columns_of s).places k 0)
  here k h live = agree _ _ _ _ live (d.placed k h live)

  -- As many of the first slots are picked as of their messages are selected.
  hits_held : (i : ℕ) → i ≤ SLOTS
      → hits w (columns_of s) i ≡ tally (picks sel) (held (message_at (columns_of s).places v) 0 (take i (columns_of s).pairs))
  unfolding hits
  hits_held zero fits = refl
  hits_held (suc i) fits =
      let c = columns_of s in
      let f = message_at c.places v in
      let p = get_or c.pairs i 0 in
      let fits' : i < length c.pairs = omega (arith, (column_sizes s d.slots_long).pairs_long) in
      let before = hits_held i (omega arith) in
      by_less p cells
      (λ live.
      let grown = rw add-one at (held_live f c.pairs i fits' live) in
      rw (grown, tally_append, before, here i (omega arith) live) (by_test (picked w p (get_or c.places i 0)) (λ h. rw h) (λ h. rw h)))
      (λ dead.
      let same = rw add-one at (held_gone f c.pairs i fits' dead) in
      rw (same, dead_other w p (get_or c.places i 0) top dead) (omega (arith, before)))

  -- As many slots are picked as messages are selected.
  pub hits_tally : hits w (columns_of s) SLOTS ≡ tally (picks sel) (messages_in s v)
  unfolding messages_in
  hits_tally =
      let c = columns_of s in
      let all : take SLOTS c.pairs ≡ c.pairs = take_all SLOTS c.pairs (omega (arith, (column_sizes s d.slots_long).pairs_long)) in
      hits_held SLOTS (omega arith) ∙ rw all

  module _ (to : Place) {n : ℕ} {s' : List ℕ} (g : Passed w (place_number to) s SLOTS n s') where
    -- Each selected message is at the place.
    pass_same : messages_in s' v ≡ each_to sel to (messages_in s v)
    unfolding messages_in
    pass_same =
        let c = columns_of s in
        let f = message_at c.places v in
        let f' = message_at (columns_of s').places v in
        rw g.others (held_map f f' (change_each (picks sel) (relabelled to)) c.pairs (λ k h live.
        let inside : k < SLOTS = omega (arith, (column_sizes s d.slots_long).pairs_long) in
        rw (g.done k inside) (by_test (picked w (get_or c.pairs k 0) (get_or c.places k 0))
        (λ e. rw (here k inside live, e, place_back_lem to))
        (λ e. rw (here k inside live, e)))))

    -- What a whole pass leaves.
    pub pass_end : Relabelled sel to s v n s'
    pass_end =
        let c = columns_of s in
        record {
          kept =
              mail_places d g.long g.others
              (λ k h live. rw (g.done k h) (by_test (picked w (get_or c.pairs k 0) (get_or c.places k 0))
              (λ e. rw e (place_below_four to))
              (λ e. rw e (d.placed k h live))))
              (ap length pass_same ∙ simp length-map);
          same = pass_same;
          moved = g.counted ∙ hits_tally;
        }
