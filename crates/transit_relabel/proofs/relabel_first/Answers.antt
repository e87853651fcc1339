use Rattle.std.proofs.Common.{refl, ◌+◌, set}
use Rattle.transit.specs.Columns.{columns_of, PLACES}
use Rattle.transit.specs.Mail.{FirstRelabelled}
use Rattle.transit.specs.Message.{place_number, pair_of}
use Rattle.transit.specs.Search.{Reached}
use Rattle.transit.specs.declared.Selection.TheVariants.{BetweenAt}
use Rattle.transit.proofs.Laws.Search.{first_changed, first_unchanged}
use Rattle.transit.specs.Laws.Promise.{first_relabelled_unread}
use Rattle.transit_relabel.proofs.relabel_first.Goals as goal
use Rattle.transit_relabel.proofs.relabel_first.Goals.{After-seek-at, After-from-then-at-lt-SLOTS}

-- The walk came to the pair's first slot at the place.
reached : (c : After-seek-at) →
    Reached (columns_of c.args.mail.now.slots) (pair_of c.args.a c.args.b) (place_number c.args.from) c.seek-at.result
reached c = rw (c.pair_of.ensures, c.from.ensures, c.number.ensures) at c.seek-at.ensures

-- The first message is at the other place.
changed : (c : After-from-then-at-lt-SLOTS) →
    let m = c.args.mail.now in
    Reached (columns_of m.slots) (pair_of c.args.a c.args.b) (place_number c.args.from) c.seek-at.result →
    FirstRelabelled (BetweenAt c.args.a c.args.b c.args.from) c.args.to m.slots m.contents
    (set m.slots (PLACES + c.seek-at.result) c.from-then-at-lt-SLOTS.result)
changed c there =
    let a = c.args in
    let r = c.requires in
    rw (c.from-then-at-lt-SLOTS.ensures, c.number-then-at-lt-SLOTS.ensures)
    (first_changed a.mail.now.kept a.a a.b r.a_lt_ranks r.b_lt_ranks a.from there a.to c.if-at-lt-SLOTS.true)

pub invariant_of-mail : goal.invariant_of-mail
invariant_of-mail c =
    let at = goal.at.invariant_of-mail c in
    record { kept = (changed at.After-from-then-at-lt-SLOTS (reached at.After-seek-at)).kept }

pub returns-then-at-lt-SLOTS : goal.returns-then-at-lt-SLOTS
returns-then-at-lt-SLOTS c =
    let at = goal.at.returns-then-at-lt-SLOTS c in
    record {
      first = first_relabelled_unread (changed at.After-from-then-at-lt-SLOTS (reached at.After-seek-at));
      contents = refl;
    }

pub returns-else-at-lt-SLOTS : goal.returns-else-at-lt-SLOTS
returns-else-at-lt-SLOTS c =
    let a = c.args in
    let r = c.requires in
    let there = reached (goal.at.returns-else-at-lt-SLOTS c).After-seek-at in
    record {
      first =
          first_relabelled_unread
          (first_unchanged a.mail.now.kept a.a a.b r.a_lt_ranks r.b_lt_ranks a.from there a.to c.if-at-lt-SLOTS.false);
      contents = refl;
    }
