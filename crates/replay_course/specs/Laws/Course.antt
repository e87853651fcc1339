-- What the program does keeps it in a course. Paper 01, "The printed run". Assumes nothing.
use Rattle.std.specs.Prelude.{
  Bool,
  true,
  false,
  List,
  [],
  ◌∷◌,
  ◌++◌,
  ◌≡◌,
  refl,
  ℕ,
  zero,
  suc,
  ◌+◌,
  ◌≤◌,
  ◌<◌,
  length,
  take,
  drop,
  Option,
  Some,
  None,
  Result,
}
use Rattle.std.proofs.Common.{append-nil, ◌∙◌, arith, length-drop, take-append-drop, length-take-le, take-take}
use Rattle.broker.specs.State.{State, fresh}
use Rattle.print_course.specs.Course.Course.{begun, reads, turns}
use Rattle.print_course.specs.Course.{at_end}
use Rattle.print_course.specs.Laws.Course.{course_sound, course_ends}
use Rattle.print_course.specs.Laws.Runs.{course_runs, turn_runs}
use Rattle.print_turn.specs.Turn.{buffer_room, farthest, Shows, Because, Turns}
use Rattle.print_turn.specs.declared.Next.{Next}
use Rattle.print_turn.specs.declared.Next.TheVariants.{Again, Read, End, TooLong}
use Rattle.print_turn.specs.declared.Turned.{Turned}
use Rattle.replay_course.specs.Course.{Stands, Finished, Holds, last, Runs}
use Rattle.replay_stage.specs.Laws.Given.{given_within}
use Rattle.replay_course.specs.Advances.{behind, Advances}
use Rattle.replay_stage.specs.Stage.{begins, given_of, taken_in, then_of, after_write}
use Rattle.replay_stage.specs.declared.Ending.TheVariants as Ending
use Rattle.replay_stage.specs.declared.Stage.{Stage}
use Rattle.replay_stage.specs.declared.Then.TheVariants as Then

-- Before the first call.
pub runs_begun : (buffer page : List ℕ) → length buffer ≡ buffer_room → length page ≡ buffer_room → Runs begins fresh buffer page
runs_begun buffer page input output =
    record {
      holds = record { read = []; written = []; course = begun };
      long = (input, output);
      room = omega arith;
      near = omega arith;
    }

-- A turn that is not the last goes on in the course.
stands_on : {s : State} {base : ℕ} {held : List ℕ} {done : Bool} → Stands s base held done →
    {state : State} {held' : List ℕ} {r : Turned} {page : List ℕ} → Shows s held base state held' r page → (r.next ≡ End → ⊥) →
    Stands state r.base held' done
stands_on x {r = r} {page = page} shows go =
    record { read = x.read; written = x.written ++ take r.used page; course = turns x.course shows go }

module _ {s : State} {buffer : List ℕ} {held base : ℕ} {done : Bool} {room : ℕ} {state : State} {buffer' : List ℕ} {r : Turned}
    {page : List ℕ} (x : Stands s base (take held buffer) done) (t : Turns s buffer held base done room state buffer' r page) where
  abbrev shows : Shows s (take held buffer) base state (take r.held buffer') r page
  shows = t.shows (course_sound x.course)

  -- What holds behind a turn.
  turn_holds : (next : Next) → r.next ≡ next → Because next base done (take r.held buffer') r →
      Holds (then_of next) (behind r done) state buffer'
  turn_holds Again e why = stands_on x shows (λ end. let z : ◌≡◌ {A = ℕ} 0 1 = cc in omega arith)
  turn_holds Read e why = (stands_on x shows (λ end. let z : ◌≡◌ {A = ℕ} 0 1 = cc in omega arith), why.1, why.3)
  turn_holds End e why =
      record {
        read = x.read;
        written = x.written ++ take r.used page;
        prints = course_ends x.course shows e why.1;
        runs = turn_runs (course_runs x.course) shows;
      }
  turn_holds TooLong e why = (stands_on x shows (λ end. let z : ◌≡◌ {A = ℕ} 0 1 = cc in omega arith), omega arith)

  -- No turn leads too far ahead.
  turn_near : held ≤ buffer_room → base ≤ last → (next : Next) → Because next base done (take r.held buffer') r → r.base ≤ last
  turn_near less near Again why = omega (arith, t.exact)
  turn_near less near Read why = omega (arith, t.exact)
  turn_near less near End why = omega (arith, t.exact)
  turn_near less near TooLong why = omega arith

-- A write that fails stops the program.
written : {at : Stage} {s : State} {buffer page : List ℕ} → Runs at s buffer page → (wrote : Bool) →
    Runs (after_write at wrote) s buffer page
written x true = x
written x false = record { holds = tt; long = x.long; room = x.room; near = x.near }

-- The program takes a turn, and writes what the page shows, or fails to.
pub runs_turn : {at : Stage} {s : State} {buffer page : List ℕ} → Runs at s buffer page → at.then ≡ Then.Turn →
    {state : State} {buffer' : List ℕ} {after : Stage} {page' : List ℕ} →
    Advances s buffer at (length page) state buffer' after page' → (wrote : Bool) → Runs (after_write after wrote) state buffer' page'
runs_turn {at} x e {state} {buffer'} {page' = page'} a wrote =
    let stands = rw e at x.holds in
    let t = a.turns in
    let r = a.turned in
    let on : Runs (behind r at.done) state buffer' page' =
    record {
      holds = turn_holds stands t r.next refl t.because;
      long = (t.keeps.0 ∙ x.long.0, t.keeps.1 ∙ x.long.1);
      room = omega (arith, t.holds, x.room);
      near = turn_near stands t x.room x.near r.next t.because;
    } in
    rw a.stands (written on wrote)

-- Where the program stops because its run is over, all that was written is the printed run of all that was read.
pub runs_over : {at : Stage} {s : State} {buffer page : List ℕ} → Runs at s buffer page → at.then ≡ Then.Stop Ending.Over →
    Finished s at.base (take at.held buffer) at.done
runs_over x e = rw e at x.holds

-- It stops because of the input's length nowhere before `farthest`.
pub runs_too_long : {at : Stage} {s : State} {buffer page : List ℕ} → Runs at s buffer page → at.then ≡ Then.Stop Ending.TooLong →
    farthest ≤ at.base
runs_too_long x e = (rw e at x.holds).1

-- What is used of the page stands on it.
pub used_fits : {at : Stage} {s : State} {buffer : List ℕ} {room : ℕ} {state : State} {buffer' : List ℕ} {after : Stage}
    {page : List ℕ} → Advances s buffer at room state buffer' after page → after.used ≤ length page
used_fits a = rw a.stands a.turns.fits

-- A read that gives bytes is not at the input's end.
some_read : (bytes : List ℕ) → 0 < length bytes → at_end bytes ≡ false
some_read [] some = absurd (omega arith)
some_read (byte ∷ rest) some = refl

-- More stands behind what the buffer holds.
stands_filled : {s : State} {base : ℕ} (held : ℕ) (buffer : List ℕ) → Stands s base (take held buffer) false → (buffer' : List ℕ)
    (n : ℕ) → take held buffer' ≡ take held buffer → 0 < n → held + n ≤ length buffer' → Stands s base (take (held + n) buffer') false
stands_filled held buffer x buffer' n same some room =
    let all = take (held + n) buffer' in
    let bytes = drop held all in
    let front : take held all ≡ take held buffer = take-take held (held + n) buffer' (omega arith) ∙ same in
    let whole : take held buffer ++ bytes ≡ all = rw front at (take-append-drop held all) in
    let long = length-drop held all in
    let count = length-take-le (held + n) buffer' room in
    record {
      read = x.read ++ bytes;
      written = x.written;
      course = rw (whole, some_read bytes (omega arith)) at (reads x.course bytes);
    }

-- The program reads behind what the buffer holds.
module _ {at : Stage} {s : State} {buffer page : List ℕ} (x : Runs at s buffer page) (e : at.then ≡ Then.Read) (buffer' : List ℕ)
    (same : take at.held buffer' ≡ take at.held buffer) (long : length buffer' ≡ length buffer)
    {E : Type 0} (got : Result ℕ E) (lent : ℕ) (within : at.held + lent ≤ buffer_room) where
  reading : Stands s at.base (take at.held buffer) false
  reading = let r = rw e at x.holds in rw r.1 at r.0

  by_given : (g : Option ℕ) → given_of got lent ≡ g → Runs (taken_in at g) s buffer' page
  by_given None f =
      record { holds = rw same (rw e at x.holds).0; long = (long ∙ x.long.0, x.long.1); room = x.room; near = x.near }
  by_given (Some zero) f =
      let course = rw (append-nil reading.read, append-nil (take at.held buffer)) at (reads reading.course []) in
      record {
        holds = rw same (record { read = reading.read; written = reading.written; course = course });
        long = (long ∙ x.long.0, x.long.1);
        room = x.room;
        near = x.near;
      }
  by_given (Some (suc n)) f =
      let count = given_within at got lent (suc n) f refl in
      record {
        holds = stands_filled at.held buffer reading buffer' (suc n) same (omega arith) (omega (arith, long, x.long.0));
        long = (long ∙ x.long.0, x.long.1);
        room = omega arith;
        near = x.near;
      }

  pub runs_read : Runs (taken_in at (given_of got lent)) s buffer' page
  runs_read = by_given (given_of got lent) refl
