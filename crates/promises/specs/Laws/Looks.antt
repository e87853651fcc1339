-- How a receiver that goes by its looks is told from the accepted steps, one step after the other; and when a look is accepted.
-- Assumes nothing.
use Rattle.std.specs.Prelude.{◌≡◌, true, false, List, [], ◌∷◌, ℕ, ◌<◌, eqb}
use Rattle.std.proofs.Math.Option.{Option, none, some}
use Rattle.std.proofs.Common.{pos_of_ne-zero, arith, ne_eqb}
use Rattle.std.proofs.lemmas.Bool.{eqb-false}
use Rattle.base.specs.Laws.Tests.{by_test}
use Rattle.base.specs.Lists.{tally}
use Rattle.broker.specs.Names.{is_running}
use Rattle.broker.specs.State.{State, status, messages}
use Rattle.ordering.specs.Claim.{Entry}
use Rattle.fairness.specs.Served.{goes_by_looks}
use Rattle.protocol.specs.Checks.{refusal}
use Rattle.protocol.proofs.Laws.Accepted.{look_fits, started_of_running}
use Rattle.protocol.proofs.Laws.Accepts.{look_accepted}
use Rattle.protocol.specs.Laws.State.{same_rank_self}
use Rattle.record.specs.Parts.{kind_of, is}
use Rattle.record.specs.declared.Record.TheVariants.{Take, Look}
use Rattle.transit.specs.Message.{is_same_rank, to, ranks}
use Rattle.transit.specs.declared.Rank.{Rank}

module _ (r : Rank) (named : Option ℕ) (es : List Entry) (v1 v3 : ℕ) where
  pub looks : goes_by_looks r named (record { read = Look r; v1 = v1; v3 = v3 } ∷ es) ≡ goes_by_looks r (some v1) es
  looks = rw (same_rank_self r)

  pub takes_from_the_named : (a : Rank) →
      goes_by_looks r (some a.0) (record { read = Take r a; v1 = v1; v3 = v3 } ∷ es) ≡ goes_by_looks r none es
  takes_from_the_named a = rw (same_rank_self r, same_rank_self a)

  module _ (q : Rank) (other : is_same_rank q r ≡ false) where
    pub another_looks : goes_by_looks r named (record { read = Look q; v1 = v1; v3 = v3 } ∷ es) ≡ goes_by_looks r named es
    another_looks = rw other

    pub another_takes : (a : Rank) → goes_by_looks r named (record { read = Take q a; v1 = v1; v3 = v3 } ∷ es) ≡ goes_by_looks r named es
    another_takes a = rw other

-- A step of another kind does not count.
pub another_kind : (r : Rank) (named : Option ℕ) (e : Entry) (es : List Entry) → is (0x05 ∷ 0x0C ∷ []) e.read ≡ false →
    goes_by_looks r named (e ∷ es) ≡ goes_by_looks r named es
another_kind r named e es neither =
    by_test (eqb (kind_of e.read) 0x05)
    (λ t. cc (rw t at neither))
    (λ t. by_test (eqb (kind_of e.read) 0x0C) (λ l. cc (rw (t, l) at neither)) (λ l. rw (l, t)))

-- A look is accepted where r runs and has something unread, and nowhere else.
pub look_where_unread : (s : State) (r : Rank) → r.0 < ranks → is_running (status s r) ≡ true → 0 < tally (to r) (messages s) →
    refusal s (Look r) ≡ none
look_where_unread s r in_range running waiting =
    look_accepted s r
    (record {
      one = record { in_range = in_range; started = started_of_running (status s r) running };
      running = running;
      unread = ne_eqb (tally (to r) (messages s)) 0 (λ z. omega arith);
    })

pub unread_where_look : (s : State) (r : Rank) → refusal s (Look r) ≡ none →
    (r.0 < ranks) × (is_running (status s r) ≡ true) × (0 < tally (to r) (messages s))
unread_where_look s r p =
    let fits = look_fits s r p in
    (fits.one.in_range, fits.running, pos_of_ne-zero (eqb-false (tally (to r) (messages s)) 0 fits.unread))
