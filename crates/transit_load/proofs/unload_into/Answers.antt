use Rattle.std.proofs.Common.{
  arith,
  rules,
  ◌≡◌,
  ◌<◌,
  ◌≤◌,
  ◌+◌,
  refl,
  ap,
  ◌∙◌,
  add-one,
  length,
  get_or,
  length-set,
  length-append,
  take-suc-set,
}
use Rattle.transit.specs.Columns.{columns_of, SLOTS}
use Rattle.transit.specs.Laws.Columns.{column_sizes, pair_at, place_at, tail_is}
use Rattle.transit.specs.Laws.Held.{held_live, held_gone, held_part, held_all}
use Rattle.transit.specs.Mail.{messages_in}
use Rattle.transit.specs.Message.{cells}
use Rattle.transit.specs.Slots.{message_at}
use Rattle.transit_load.proofs.unload_into.Goals as goal
use Rattle.transit_load.proofs.unload_into.Goals.{At-loop-i, then-mail-i-lt-DEAD, else-mail-i-lt-DEAD}

-- The tail is at most the number of slots.
tail_within : (c : At-loop-i) → c.from-i-end.result ≤ SLOTS
tail_within c =
    let m = c.args.mail.now in omega (arith, c.from-i-end.ensures, m.kept.within, tail_is m.slots)

-- At a live slot the value has room.
room : (c : At-loop-i) → let s = c.args.mail.now.slots in
    c.loop-i.i < c.from-i-end.result → get_or s c.loop-i.i 0 < cells → c.loop-i.n < 1024
unfolding messages_in
room c before live =
    let m = c.args.mail.now in
    let s = m.slots in
    let i = c.loop-i.i in
    let cols = columns_of s in
    let f = message_at cols.places m.contents in
    let inside : i < SLOTS = omega (arith, before, tail_within c) in
    let z = column_sizes s m.kept.slots_long in
    let more = held_live f cols.pairs i (omega (arith, z.pairs_long, inside)) (omega (arith, pair_at s i inside, live)) in
    omega
    (arith, simp length-append at (ap length more), held_part f cols.pairs (i + 1), m.kept.few, c.loop-i.invariant.many)

pub loop-i-init : goal.loop-i-init
loop-i-init c = record { long = search rules; many = refl; same = refl }

pub bounds-mail-i : goal.bounds-mail-i
bounds-mail-i c = omega (arith, tail_within (goal.at.bounds-mail-i c).At-loop-i)

pub message_at-requires-clause-at_lt_slots : goal.message_at-requires-clause-at_lt_slots
message_at-requires-clause-at_lt_slots c =
    omega (arith, tail_within (goal.at.message_at-requires-clause-at_lt_slots c).At-loop-i)

pub bounds-value-n : goal.bounds-value-n
bounds-value-n c = room (goal.at.bounds-value-n c).At-loop-i (omega arith) (omega arith)

pub loop-i-preserved : goal.loop-i-preserved
loop-i-preserved c =
    let m = c.args.mail.now in
    let s = m.slots in
    let i = c.loop-i.i in
    let cols = columns_of s in
    let f = message_at cols.places m.contents in
    let here = (goal.at.loop-i-preserved c).At-loop-i in
    let inv = c.loop-i.invariant in
    let t = c.loop-i.value in
    let n = c.loop-i.n in
    let inside : i < SLOTS = omega (arith, tail_within here) in
    let fits : i < length cols.pairs = omega (arith, inside, (column_sizes s m.kept.slots_long).pairs_long) in
    let pair = pair_at s i inside in
    elim c.if-mail-i-lt-DEAD.branch [
      | then-mail-i-lt-DEAD w ↦
          let more = held_live f cols.pairs i fits (omega (arith, pair, w.if-mail-i-lt-DEAD.true)) in
          let has_room = room here (omega arith) w.if-mail-i-lt-DEAD.true in
          let fits_t : n < length t.messages = omega (arith, has_room, inv.long) in
          rw (w.value-is, w.n-is, w.message_at.ensures, more) record {
            long = length-set t.messages n _ ∙ inv.long;
            many = simp length-append (omega (arith, inv.many));
            same = rw (add-one, take-suc-set t.messages n, inv.same, pair, place_at s i inside);
          }
      | else-mail-i-lt-DEAD w ↦ rw (w.value-is, w.n-is, held_gone f cols.pairs i fits (omega (arith, pair, w.if-mail-i-lt-DEAD.false)))
          record { long = inv.long; many = inv.many; same = inv.same }
    ]

pub returns : goal.returns
unfolding messages_in
returns c =
    let here = c.loop-i in
    let m = c.args.mail.now in
    let s = m.slots in
    let cols = columns_of s in
    let f = message_at cols.places m.contents in
    let end : here.i ≡ cols.tail = omega (arith, c.from-i-end.ensures, tail_is s) in
    let long = (column_sizes s m.kept.slots_long).pairs_long in
    let all = held_all f cols.pairs cols.tail (λ k past h. m.kept.index.dead k past (omega (arith, long))) in
    rw (rw (end, all) at here.invariant.same, rw (end, all) at here.invariant.many, c.counts_in-value.ensures)
