-- The oldest message to a receiver stands in the least of the first slots of its sixteen pairs.
-- Assumes nothing.
use Rattle.std.specs.Prelude.{List, ◌≡◌, refl, ℕ, ◌+◌, ◌*◌, ◌/◌, ◌%◌, ◌<◌, ◌≤◌, min, get_or}
use Rattle.std.proofs.Common.{arith, eq-eqb, ne_eqb}
use Rattle.std.proofs.Math.Nat.{min-eq_left, min-eq_right}
use Rattle.transit.specs.Columns.{Columns, columns_of, SLOTS}
use Rattle.transit.specs.Mail.{IsMail}
use Rattle.transit.specs.Message.{picks, ranks}
use Rattle.transit.specs.Search.{Oldest}
use Rattle.transit.specs.declared.Rank.{Rank}
use Rattle.transit.specs.declared.Selection.TheVariants.{To}
use Rattle.transit.proofs.Laws.Earliest.{Earliest}
use Rattle.base.specs.Laws.Tests.{by_equal, by_less}

module _ (c : Columns) (r : ℕ) where
  -- Of no pair there is none.
  pub oldest_start : Oldest c r 0 SLOTS
  oldest_start = record { least = λ s h. absurd (omega arith); from = λ h. absurd (omega arith); within = omega arith }

  module _ {senders at : ℕ} (o : Oldest c r senders at) where
    -- The next pair's first slot is before the others.
    pub oldest_less : get_or c.first (ranks * senders + r) 0 < at → Oldest c r (senders + 1) (get_or c.first (ranks * senders + r) 0)
    oldest_less less = record {
      least = λ s h. by_equal s senders (λ e. rw e (omega arith)) (λ ne. omega (arith, o.least s (omega (arith, ne))));
      from = λ _. (senders, omega arith, refl);
      within = omega (arith, o.within);
    }

    -- It is not.
    pub oldest_kept : at ≤ get_or c.first (ranks * senders + r) 0 → Oldest c r (senders + 1) at
    oldest_kept kept = record {
      least = λ s h. by_equal s senders (λ e. rw e kept) (λ ne. o.least s (omega (arith, ne)));
      from = λ h. let f = o.from h in (f.0, omega (arith, f.1), f.2);
      within = o.within;
    }

    -- The lesser of the two is the least.
    pub oldest_next : Oldest c r (senders + 1) (min at (get_or c.first (ranks * senders + r) 0))
    oldest_next =
        let first = get_or c.first (ranks * senders + r) 0 in
        by_less first at (λ less. let before : first ≤ at = omega (arith, less) in rw (min-eq_right before) (oldest_less less))
        (λ kept. rw (min-eq_left kept) (oldest_kept kept))

module _ {s v : List ℕ} (d : IsMail s v) (r : Rank) (small : r.0 < ranks) {at : ℕ} (o : Oldest (columns_of s) r.0 ranks at) where
  -- The least, where it is a slot, is of a pair to the receiver.
  own : at < SLOTS → (a : ℕ) × (a < ranks) × (get_or (columns_of s).pairs at 0 ≡ ranks * a + r.0)
  own inside =
      let f = o.from inside in
      (f.0, f.1, rw f.2 ((d.index.firsts (ranks * f.0 + r.0) (omega (arith, f.1))).here (omega (arith, f.2))))

  -- It is the first slot of a message to the receiver.
  pub oldest_earliest : Earliest s v (picks (To r)) at
  oldest_earliest = record {
    live = λ inside. omega (arith, (own inside).1, (own inside).2);
    passes = λ inside. eq-eqb (get_or (columns_of s).pairs at 0 % ranks) r.0 (omega (arith, (own inside).2));
    others = λ k h _ live.
        let p = get_or (columns_of s).pairs k 0 in
        ne_eqb (p % ranks) r.0 (λ e.
        let q = ranks * (p / ranks) + r.0 in
        (d.index.firsts q (omega arith)).apart k (omega arith) (omega (arith, o.least (p / ranks) (omega arith))) (omega (arith, e)));
  }
