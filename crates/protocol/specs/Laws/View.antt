-- A finite view of a pair of ranks: of each side whether it is started, runs and migrates, its link, and whether its call goes to the
-- other. All that soundness says of a pair, and of one message of it, is a test of that view. Assumes nothing.
use Rattle.std.specs.Prelude.{Bool, true, false, not, ◌&&◌, ◌||◌, List, [], ◌∷◌, leb}
use Rattle.std.specs.Bool.{beq}
use Rattle.base.specs.Laws.Tests.{chain}
use Rattle.base.specs.Lists.{every}
use Rattle.transit.specs.Message.{place_number, same_place}
use Rattle.transit.specs.declared.Place.{Place}
use Rattle.transit.specs.declared.Place.TheVariants.{SourceList, SourceChannel, EndList, Channel}
use Rattle.transit.specs.declared.Rank.{Rank}
use Rattle.broker.specs.Names.{is_started, is_running, is_migrating, asks_for, is_closed, is_open, is_closing, is_clear, is_unheeded}
use Rattle.broker.specs.State.{State, link_at, status, request}
use Rattle.broker.specs.declared.link.Backlog.{Backlog}
use Rattle.broker.specs.declared.link.Backlog.TheVariants.{Clear, Unheeded, Marked}
use Rattle.broker.specs.declared.link.Connection.{Connection}
use Rattle.broker.specs.declared.link.Connection.TheVariants.{Closed, Open, Closing}
use Rattle.broker.specs.declared.link.Link.{Link}
use Rattle.broker.specs.declared.process.Status.{Status}

-- one rank towards another
pub record Side : Type 0 where
  pub started : Bool
  pub runs : Bool
  pub migrates : Bool
  pub link : Link
  pub asks : Bool

-- as its standing, its link and its call say
abbrev pub side_of : Status → Link → Bool → Side
side_of t l q = record { started = is_started t; runs = is_running t; migrates = is_migrating t; link = l; asks = q }

abbrev pub link_of : State → Rank → Rank → Link
link_of s a b = link_at s.links a b

abbrev pub call_of : State → Rank → Rank → Bool
call_of s a b = asks_for b (request s a)

abbrev pub side : State → Rank → Rank → Side
side s a b = side_of (status s a) (link_of s a b) (call_of s a b)

-- the clauses of soundness about a rank and itself
abbrev pub nothing : Side → Bool
nothing x = is_closed x.link.connection && is_clear x.link.backlog && not x.asks

-- the clauses about a pair, of the first side towards the second
abbrev pub line_belongs : Side → Bool
line_belongs x = is_closed x.link.connection || (x.runs || x.migrates)

abbrev pub pair_clauses : Side → Side → List Bool
pair_clauses x y =
    (not (is_open x.link.connection) || is_open y.link.connection) ∷
    (not (is_closing x.link.connection) || is_closed y.link.connection) ∷
    (is_clear x.link.backlog || x.migrates && y.started) ∷
    beq (is_unheeded x.link.backlog) (is_closing y.link.connection) ∷
    (not x.asks || x.runs && y.started && is_closed x.link.connection) ∷ []

unfoldable pub pair_fits : Side → Side → Bool
pair_fits x y = chain (line_belongs x) (pair_clauses x y)

-- the clauses about a message at a place, of the receiver's side and the sender's
unfoldable pub message_fits : Place → Side → Side → Bool
message_fits p x y =
    (y.started && (x.runs || x.migrates)) &&
    (not (is_unheeded x.link.backlog) || same_place p SourceList || same_place p SourceChannel) &&
    ((not (same_place p SourceList || same_place p SourceChannel) || x.migrates) &&
    (not (same_place p SourceChannel) || not (is_clear x.link.backlog)) &&
    (not (same_place p Channel) || not (is_closed x.link.connection)))

-- what a step does to a pair of ranks in which it is about the first: both sides anew, the place of a message to the first and to the
-- second anew; and what the step asks of the pair, and where it bars messages to the first
pub record Change : Type 0 where
  pub own : Side → Side → Side
  pub other : Side → Side → Side
  pub place : Place → Place
  pub place_back : Place → Place
  pub asked : Side → Side → Bool
  pub bars : Place → Bool

-- the values of each finite type
abbrev pub connections : List Connection
connections = Closed ∷ Open ∷ Closing ∷ []

abbrev pub backlogs : List Backlog
backlogs = Clear ∷ Unheeded ∷ Marked ∷ []

abbrev pub answers : List Bool
answers = true ∷ false ∷ []

abbrev pub places : List Place
places = SourceList ∷ SourceChannel ∷ EndList ∷ Channel ∷ []

-- the second test passes where the first does; it is not computed where the first fails
abbrev pub if_so : Bool → Bool → Bool
if_so a b = elim a [ true ↦ b | false ↦ true ]

-- a test at every side
abbrev pub at_sides : (Side → Bool) → Bool
at_sides f =
    every (λ i. every (λ j. every (λ k. every (λ c. every (λ g. every (λ q.
    f (record { started = i; runs = j; migrates = k; link = record { connection = c; backlog = g }; asks = q }))
    answers) backlogs) connections) answers) answers) answers

-- what some standing says: who runs or migrates is started, and nobody does both
abbrev pub stands_so : Side → Bool
stands_so x = (x.started || not (x.runs || x.migrates)) && not (x.runs && x.migrates)

-- what a pair that fits says of its first side alone
abbrev pub side_fits : Side → Bool
side_fits x =
    line_belongs x &&
    (is_clear x.link.backlog || x.migrates) &&
    (not x.asks || x.runs && is_closed x.link.connection)

-- a test at every pair of sides each of which fits alone
abbrev pub at_pairs : (Side → Side → Bool) → Bool
at_pairs f = at_sides (λ x. if_so (stands_so x && side_fits x) (at_sides (λ y. if_so (stands_so y && side_fits y) (f x y))))

-- both sides fit, and the step's demand is met
abbrev pub given : Change → Side → Side → Bool
given c x y = pair_fits x y && pair_fits y x && c.asked x y

-- the one place is not past the other
abbrev pub up_to : Place → Place → Bool
up_to p q = leb (place_number p) (place_number q)

-- the change keeps the order of a message at a place and one at another, and messages at a place fit: to the first, and to the second
abbrev pub order_kept : (Place → Place) → Side → Side → Place → Place → Bool
order_kept f x y p q = if_so (message_fits p x y && message_fits q x y && up_to p q) (up_to (f p) (f q))

abbrev pub messages_kept : Change → Side → Side → Place → List Bool
messages_kept c x y p =
    if_so (message_fits p y x) (message_fits (c.place_back p) (c.other y x) (c.own x y)) ∷
    every (order_kept c.place x y p) places ∷ every (order_kept c.place_back y x p) places ∷ []

abbrev pub message_kept : Change → Side → Side → Place → Bool
message_kept c x y p = if_so (message_fits p x y && not (c.bars p)) (message_fits (c.place p) (c.own x y) (c.other y x))

-- the change keeps a pair fit both ways, and every message of it
abbrev pub pair_kept : Change → Side → Side → Bool
pair_kept c x y =
    if_so (given c x y)
    (chain (pair_fits (c.own x y) (c.other y x))
    (pair_fits (c.other y x) (c.own x y) ∷ every (λ p. chain (message_kept c x y p) (messages_kept c x y p)) places ∷ []))

-- the change keeps every pair
unfoldable pub keeps : Change → Bool
unfolding pair_fits message_fits
keeps c = at_pairs (pair_kept c)
