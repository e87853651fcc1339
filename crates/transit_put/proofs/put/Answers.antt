use Rattle.std.proofs.Common.{arith, ◌∙◌, ◌+◌, get_or, set}
use Rattle.transit.specs.Columns.{PLACES, NEXT, COUNT, TAIL, SEQUENCES, SLOTS}
use Rattle.transit.specs.Mail.{Put}
use Rattle.transit.specs.Laws.Appended.{
  Room,
  Branched,
  begun,
  ended,
  tail_inside,
  counts_few,
  begins,
  before_inside,
  goes_behind,
  has_put,
  tail_further,
}
use Rattle.transit_put.proofs.put.Goals as goal
use Rattle.transit_put.proofs.put.Goals.{
  After-from-number,
  Joined-first-eq-NONE,
  then-first-eq-NONE,
  else-first-eq-NONE,
}

-- The message can be put at the tail.
room : (c : After-from-number) →
    Room c.args.mail.now.slots c.args.mail.now.contents c.args.m c.pair_of-pair.result c.from-number.result
room c = record {
  mail = c.args.mail.now.kept;
  room = c.requires.slots_bound;
  few = c.requires.contents_len_bound;
  from = c.requires.sender_lt_ranks;
  to = c.requires.receiver_lt_ranks;
  of_pair = c.pair_of-pair.ensures;
  at_place = c.from-number.ensures ∙ c.number.ensures;
}

pub overflow_add-more-2 : goal.overflow_add-more-2
overflow_add-more-2 c = omega (arith, (counts_few (room (goal.at.overflow_add-more-2 c).After-from-number)).0)

pub bounds-mail-at : goal.bounds-mail-at
bounds-mail-at c = omega (arith, c.from-at.ensures, tail_inside (room (goal.at.bounds-mail-at c).After-from-number))

pub bounds-mail-at-2 : goal.bounds-mail-at-2
bounds-mail-at-2 c = omega (arith, c.from-at.ensures, tail_inside (room (goal.at.bounds-mail-at-2 c).After-from-number))

pub bounds-mail-at-3 : goal.bounds-mail-at-3
bounds-mail-at-3 c = omega (arith, c.from-at.ensures, tail_inside (room (goal.at.bounds-mail-at-3 c).After-from-number))

pub bounds-mail-at-4 : goal.bounds-mail-at-4
bounds-mail-at-4 c = omega (arith, c.from-at.ensures, tail_inside (room (goal.at.bounds-mail-at-4 c).After-from-number))

pub bounds-mail-at-5 : goal.bounds-mail-at-5
bounds-mail-at-5 c = omega (arith, c.from-at.ensures, tail_inside (room (goal.at.bounds-mail-at-5 c).After-from-number))

pub bounds-mail-link : goal.bounds-mail-link
bounds-mail-link c =
    let r = room (goal.at.bounds-mail-link c).After-from-number in
    elim c.if-first-eq-NONE.branch [
      | then-first-eq-NONE w ↦ omega (arith, w.link-is, c.pair_of-pair.ensures, c.requires.sender_lt_ranks, c.requires.receiver_lt_ranks)
      | else-first-eq-NONE w ↦ omega (arith, w.link-is, w.from.ensures, before_inside r w.if-first-eq-NONE.false)
    ]

pub overflow_add-mail-6 : goal.overflow_add-mail-6
overflow_add-mail-6 c = omega (arith, tail_inside (room (goal.at.overflow_add-mail-6 c).After-from-number))

pub overflow_add-mail-7 : goal.overflow_add-mail-7
overflow_add-mail-7 c = omega (arith, (counts_few (room (goal.at.overflow_add-mail-7 c).After-from-number)).1)

-- The links are joined.
branched : (c : Joined-first-eq-NONE) →
    let s = c.args.mail.now.slots in
    let p = c.pair_of-pair.result in
    let n = c.from-number.result in
    Room s c.args.mail.now.contents c.args.m p n → Branched s p n (set (begun s p n) c.if-first-eq-NONE.link (get_or s TAIL 0))
branched c r =
    elim c.if-first-eq-NONE.branch [
      | then-first-eq-NONE w ↦ rw w.link-is (begins r w.if-first-eq-NONE.true)
      | else-first-eq-NONE w ↦ rw (w.link-is, w.from.ensures) (goes_behind r w.if-first-eq-NONE.false)
    ]

-- The message is put.
has : (c : Joined-first-eq-NONE) →
    let s = c.args.mail.now.slots in
    let v = c.args.mail.now.contents in
    let p = c.pair_of-pair.result in
    let at = c.from-at.result in
    let n = c.from-number.result in
    let x = set (set (set s at p) (PLACES + at) n) (NEXT + at) SLOTS in
    Room s v c.args.m p n →
    Put c.args.m s v (get_or s (COUNT + p) 0 + 1) (ended s (set x c.if-first-eq-NONE.link (get_or s TAIL 0)) p)
    (set (set v at c.args.m.value) (SEQUENCES + at) c.args.m.sequence)
has c r = rw c.from-at.ensures (has_put r _ (branched c r))

pub invariant_of-mail : goal.invariant_of-mail
invariant_of-mail c =
    let at = goal.at.invariant_of-mail c in
    record { kept = (has at.Joined-first-eq-NONE (room at.After-from-number)).kept }

pub returns : goal.returns
returns c =
    let at = goal.at.returns c in
    let j = at.Joined-first-eq-NONE in
    let r = room at.After-from-number in
    let h = has j r in
    record {
      same = h.same;
      counts = h.counts;
      pair = h.pair;
      further = rw c.from-at.ensures (tail_further r _ (branched j r));
    }
