-- The program ends: each of its turns comes further on or is not the next, and each read gives more, or comes to the input's end or to a
-- stop. Assumes nothing.
use Rattle.std.specs.Prelude.{
  Bool,
  true,
  false,
  cond,
  List,
  ◌≡◌,
  refl,
  ℕ,
  zero,
  suc,
  ◌+◌,
  ◌*◌,
  ◌-◌,
  ◌≤◌,
  ◌<◌,
  length,
  take,
  Option,
  Some,
  None,
  Result,
}
use Rattle.std.proofs.Common.{arith}
use Rattle.broker.specs.State.{State}
use Rattle.print_turn.specs.Turn.{buffer_room, Because}
use Rattle.print_turn.specs.declared.Next.{Next}
use Rattle.print_turn.specs.declared.Next.TheVariants.{Again, Read, End, TooLong}
use Rattle.replay_course.specs.Course.{last, Runs}
use Rattle.replay_course.specs.Advances.{Advances}
use Rattle.replay_stage.specs.Stage.{given_of, taken_in, then_of, after_write}
use Rattle.replay_stage.specs.declared.Ending.TheVariants as Ending
use Rattle.replay_stage.specs.declared.Stage.{Stage}
use Rattle.replay_stage.specs.declared.Then.{Then}

-- a turn may be followed by a read, and both by a stop
abbrev rank : Then → ℕ
rank Then.Turn = 2
rank Then.Read = 1
rank (Then.Stop why) = 0

-- how much further a program can come that holds so many bytes, the first at this position, at the input's end or short of it
abbrev further : ℕ → ℕ → Bool → Then → ℕ
further held base done then = 3 * ((last + (last + buffer_room) + 2) - (base + (base + held) + cond done 1 0)) + rank then

abbrev pub ahead : Stage → ℕ
ahead at = further at.held at.base at.done at.then

module _ (held base held' base' : ℕ) (exact : base' + held' ≡ base + held) (less : held' ≤ held) (room : held ≤ buffer_room)
    (near : base ≤ last) where
  -- A turn that another does not follow.
  turned : (done : Bool) (then : Then) → rank then < 2 → further held' base' done then < further held base done Then.Turn
  turned true then h = omega arith
  turned false then h = omega arith

  -- A turn that another follows comes further on.
  again : (done : Bool) → base < base' → further held' base' done Then.Turn < further held base done Then.Turn
  again true more = omega arith
  again false more = omega arith

-- A write that fails stops the program.
no_more : (at : Stage) (wrote : Bool) → ahead (after_write at wrote) ≤ ahead at
no_more at true = omega arith
no_more at false = omega arith

module _ {at : Stage} {s : State} {buffer page : List ℕ} (x : Runs at s buffer page) where
  -- A turn, written or not.
  module _ (e : at.then ≡ Then.Turn) {state : State} {buffer' : List ℕ} {after : Stage} {page' : List ℕ}
      (a : Advances s buffer at (length page) state buffer' after page') where
    by_next : (next : Next) → Because next at.base at.done (take a.turned.held buffer') a.turned →
        further a.turned.held a.turned.base at.done (then_of next) < further at.held at.base at.done Then.Turn
    by_next Again why =
        again at.held at.base _ _ a.turns.exact a.turns.holds x.room x.near at.done why.2
    by_next Read why =
        turned at.held at.base _ _ a.turns.exact a.turns.holds x.room x.near at.done Then.Read (omega arith)
    by_next End why =
        turned at.held at.base _ _ a.turns.exact a.turns.holds x.room x.near at.done (Then.Stop Ending.Over)
        (omega arith)
    by_next TooLong why =
        turned at.held at.base _ _ a.turns.exact a.turns.holds x.room x.near at.done (Then.Stop Ending.TooLong)
        (omega arith)

    pub less_turn : (wrote : Bool) → ahead (after_write after wrote) < ahead at
    less_turn wrote =
        let less = by_next a.turned.next a.turns.because in
        let after_turn : ahead after < ahead at = rw (a.stands, e) less in
        omega (arith, no_more after wrote)

  -- A read.
  module _ (e : at.then ≡ Then.Read) {E : Type 0} (got : Result ℕ E) (lent : ℕ) where
    by_given : (g : Option ℕ) → given_of got lent ≡ g → ahead (taken_in at g) < ahead at
    by_given None f = rw e (omega arith)
    by_given (Some zero) f = let short = (rw e at x.holds).1 in rw (e, short) (omega (arith, x.room, x.near))
    by_given (Some (suc n)) f =
        let short = (rw e at x.holds).1 in
        rw (e, short) (omega (arith, x.room, x.near))

    pub less_read : ahead (taken_in at (given_of got lent)) < ahead at
    less_read = by_given (given_of got lent) refl
