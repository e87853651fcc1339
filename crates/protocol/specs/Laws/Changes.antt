-- What each kind does to the view of a pair. That it keeps every pair and every message fit is one computed test a kind, which stands
-- with the kind's effect (`Kept/Effects`). Assumes nothing.
use Rattle.std.specs.Prelude.{Bool, true, false, not, cond, ◌&&◌, ◌||◌}
use Rattle.transit.specs.Message.{same_place}
use Rattle.transit.specs.declared.Place.{Place}
use Rattle.transit.specs.declared.Place.TheVariants.{SourceList, SourceChannel, EndList, Channel}
use Rattle.protocol.specs.Laws.View.{Side, side_of, Change}
use Rattle.broker.specs.Names.{unknown, is_closed, is_open, is_closing, is_clear, is_unheeded}
use Rattle.broker.specs.declared.link.Backlog.{Backlog}
use Rattle.broker.specs.declared.link.Backlog.TheVariants.{Clear, Unheeded, Marked}
use Rattle.broker.specs.declared.link.Connection.{Connection}
use Rattle.broker.specs.declared.link.Connection.TheVariants.{Closed, Open, Closing}
use Rattle.broker.specs.declared.link.Link.{Link}
use Rattle.broker.specs.declared.process.Status.{Status}
use Rattle.broker.specs.declared.process.Status.TheVariants.{Running, Migrating, Ended}

-- a link with another line, or another await
abbrev pub connect_as : Connection → Link → Link
connect_as c l = record { connection = c; backlog = l.backlog }

abbrev pub await_as : Backlog → Link → Link
await_as g l = record { connection = l.connection; backlog = g }

-- a side with another standing, link or call
abbrev pub stand_as : Status → Side → Side
stand_as t x = side_of t x.link x.asks

abbrev pub redone : (Link → Link) → (Bool → Bool) → Side → Side
redone f u x = record { started = x.started; runs = x.runs; migrates = x.migrates; link = f x.link; asks = u x.asks }

abbrev pub link_as : (Link → Link) → Side → Side
link_as f x = redone f (λ q. q) x

abbrev pub ask_as : Bool → Side → Side
ask_as q x = redone (λ l. l) (λ _. q) x

-- nothing changes
abbrev pub same : Side → Side → Side
same x y = x

-- where the place is p it becomes q
abbrev pub shift : Place → Place → Place → Place
shift p q x = cond (same_place x p) q x

-- a step that makes `x` of the first side and `y` of the second, asks `fits` of the pair, and neither changes a place nor bars one
abbrev pub on_sides : (Side → Side → Side) → (Side → Side → Side) → (Side → Side → Bool) → Change
on_sides x y fits = record { own = x; other = y; place = λ p. p; place_back = λ p. p; asked = fits; bars = λ p. false }

-- the same, with a change of places of the messages to the first, and of those to the second
abbrev pub placing : (Place → Place) → (Place → Place) → Change → Change
placing f b c = record { own = c.own; other = c.other; place = f; place_back = b; asked = c.asked; bars = c.bars }

-- the same, where no message to the first is at a place that passes a test
abbrev pub barring : (Place → Bool) → Change → Change
barring f c = record { own = c.own; other = c.other; place = c.place; place_back = c.place_back; asked = c.asked; bars = f }

-- start: the rank runs
abbrev pub starting : Change
starting = on_sides (λ x y. stand_as (Running unknown) x) same (λ x y. not x.started)

-- call: the first asks for the second
abbrev pub calling : Change
calling = on_sides (λ x y. ask_as true x) same (λ x y. x.runs && y.started && is_closed x.link.connection)

-- route to an ended rank: the call closes
abbrev pub withdrawing : Change
withdrawing = on_sides (λ x y. ask_as false x) same (λ x y. true)

-- route on: the first still asks for the second
abbrev pub reposting : Change
reposting = on_sides (λ x y. ask_as true x) same (λ x y. x.asks)

-- route to the current end: a plain line both ways, and no calls
abbrev pub joining : Change
joining =
    let joined : Side → Side → Side = λ x y. ask_as false (link_as (connect_as Open) x) in
    on_sides joined joined (λ x y. x.asks && (y.runs || y.migrates))

-- move: the mover's link after its line, and the other's link to it
abbrev pub left_by : Connection → Link → Link
left_by Closed l = l
left_by Open l = record { connection = Closed; backlog = Unheeded }
left_by Closing l = record { connection = Closed; backlog = Marked }

abbrev pub faced_by : Connection → Link → Link
faced_by Closed l = l
faced_by Open l = connect_as Closing l
faced_by Closing l = await_as Marked l

-- "Messages to r at place 2 go to 0, at 3 to 1."
abbrev pub moving : Change
moving =
    placing (λ p. shift Channel SourceChannel (shift EndList SourceList p)) (λ p. p)
    (on_sides (λ x y. stand_as (Migrating unknown unknown) (link_as (left_by x.link.connection) x))
    (λ x y. link_as (faced_by y.link.connection) x) (λ x y. x.runs && not x.asks))

-- heed: the first's line becomes none, the second's await is marked, and place 3 of the messages to the first goes to 2
abbrev pub heeding : Change
heeding =
    placing (shift Channel EndList) (λ p. p)
    (on_sides (λ x y. link_as (connect_as Closed) x) (λ x y. link_as (await_as Marked) x) (λ x y. is_closing x.link.connection))

-- drain of an end marker: the await becomes none
abbrev pub clearing : Change
clearing =
    barring (λ p. same_place p SourceChannel)
    (on_sides (λ x y. link_as (await_as Clear) x) same (λ x y. not (is_unheeded x.link.backlog)))

-- land: the arrival runs, and place 0 goes to 2
abbrev pub landing : Change
landing =
    placing (shift SourceList EndList) (λ p. p)
    (on_sides (λ x y. stand_as (Running unknown) x) same (λ x y. x.migrates && is_clear x.link.backlog))

-- part: both lines become none, and place 3 goes to 2
abbrev pub parting : Change
parting =
    let closed : Side → Side → Side = λ x y. link_as (connect_as Closed) x in
    placing (shift Channel EndList) (shift Channel EndList) (on_sides closed closed (λ x y. is_open x.link.connection))

-- end: the rank has ended, with no message to it
abbrev pub ending : Change
ending =
    barring (λ p. true)
    (on_sides (λ x y. stand_as (Ended unknown) x) same (λ x y. x.runs && is_closed x.link.connection && not x.asks))
