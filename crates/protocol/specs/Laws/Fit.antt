-- From a computed test to every view: what a change that keeps pairs and messages fit does to each. And from soundness to the views
-- of its pairs and messages, and back. Assumes nothing.
use Rattle.std.specs.Prelude.{◌≡◌, refl, Bool, true, false, not, ◌&&◌, List, [], ◌∷◌, ℕ, ◌<◌, get_or}
use Rattle.std.proofs.Common.{sym, true≢false, arith}
use Rattle.base.specs.Laws.Lists.{every_and, every_at, every_wider}
use Rattle.base.specs.Laws.Tests.{by_test, both, both_left, both_right, chain, chain_at}
use Rattle.base.specs.Lists.{every}
use Rattle.transit.specs.Message.{is_same_rank, ranks}
use Rattle.transit.specs.declared.Message.{Message}
use Rattle.transit.specs.declared.Place.{Place}
use Rattle.transit.specs.declared.Place.TheVariants.{SourceList, SourceChannel, EndList, Channel}
use Rattle.transit.specs.declared.Rank.{Rank}
use Rattle.protocol.specs.Laws.Sound.{AtRanks, AtPairs, Pairs, Mail, has_ends, fits_unheeded, fits_place}
use Rattle.protocol.specs.Laws.State.{same_rank_eq}
use Rattle.protocol.specs.Laws.View.{
  Side,
  side_of,
  side,
  nothing,
  Change,
  line_belongs,
  pair_clauses,
  pair_fits,
  message_fits,
  connections,
  backlogs,
  answers,
  places,
  if_so,
  at_sides,
  stands_so,
  side_fits,
  at_pairs,
  given,
  up_to,
  order_kept,
  message_kept,
  messages_kept,
  keeps,
}
use Rattle.broker.specs.State.{State, apart, status, messages}
use Rattle.broker.specs.declared.link.Backlog.{Backlog}
use Rattle.broker.specs.declared.link.Backlog.TheVariants.{Clear, Unheeded, Marked}
use Rattle.broker.specs.declared.link.Connection.{Connection}
use Rattle.broker.specs.declared.link.Connection.TheVariants.{Closed, Open, Closing}
use Rattle.broker.specs.declared.process.Status.{Status}
use Rattle.broker.specs.declared.process.Status.TheVariants.{Unstarted, Running, Migrating, Ended}

-- A test at every value holds at each.

at_connection : (f : Connection → Bool) → every f connections ≡ true → (c : Connection) → f c ≡ true
at_connection f h Closed = every_at f connections 0 Closed h (omega arith)
at_connection f h Open = every_at f connections 1 Open h (omega arith)
at_connection f h Closing = every_at f connections 2 Closing h (omega arith)

at_backlog : (f : Backlog → Bool) → every f backlogs ≡ true → (g : Backlog) → f g ≡ true
at_backlog f h Clear = every_at f backlogs 0 Clear h (omega arith)
at_backlog f h Unheeded = every_at f backlogs 1 Unheeded h (omega arith)
at_backlog f h Marked = every_at f backlogs 2 Marked h (omega arith)

at_answer : (f : Bool → Bool) → every f answers ≡ true → (b : Bool) → f b ≡ true
at_answer f h true = every_at f answers 0 true h (omega arith)
at_answer f h false = every_at f answers 1 false h (omega arith)

pub at_place : (f : Place → Bool) → every f places ≡ true → (p : Place) → f p ≡ true
at_place f h SourceList = every_at f places 0 SourceList h (omega arith)
at_place f h SourceChannel = every_at f places 1 SourceChannel h (omega arith)
at_place f h EndList = every_at f places 2 EndList h (omega arith)
at_place f h Channel = every_at f places 3 Channel h (omega arith)

at_side : (f : Side → Bool) → at_sides f ≡ true → (x : Side) → f x ≡ true
at_side f h x =
    let made : Bool → Bool → Bool → Connection → Backlog → Bool → Side =
    λ i j k c g q. record { started = i; runs = j; migrates = k; link = record { connection = c; backlog = g }; asks = q } in
    let linked : Bool → Bool → Bool → Connection → Backlog → Bool = λ i j k c g. every (λ q. f (made i j k c g q)) answers in
    let stood : Bool → Bool → Bool → Bool = λ i j k. every (λ c. every (linked i j k c) backlogs) connections in
    let i = x.started in
    let j = x.runs in
    let k = x.migrates in
    let c = x.link.connection in
    let one = at_answer (λ i. every (λ j. every (stood i j) answers) answers) h i in
    let three = at_answer (stood i j) (at_answer (λ j. every (stood i j) answers) one j) k in
    let four = at_backlog (linked i j k c) (at_connection (λ c. every (linked i j k c) backlogs) three c) x.link.backlog in
    at_answer (λ q. f (made i j k c x.link.backlog q)) four x.asks

-- a guarded test holds where its guard does
pub guarded : (a b : Bool) → if_so a b ≡ true → a ≡ true → b ≡ true
guarded true b h e = h
guarded false b h e = absurd (true≢false (sym e))

-- where a computed test of every side passes, what it says holds
pub tested : (p q : Side → Bool) → at_sides (λ x. if_so (p x) (q x)) ≡ true → (x : Side) → p x ≡ true → q x ≡ true
tested p q h x = guarded (p x) (q x) (at_side (λ x. if_so (p x) (q x)) h x)

-- a side of which it is seen whether it is started, and its connection; a test of every side and such a second one
abbrev seen : Bool → Connection → Side
seen i c = record { started = i; runs = false; migrates = false; link = record { connection = c; backlog = Clear }; asks = false }

pub tested_seen : (p q : Side → Side → Bool)
    → every (λ i. every (λ c. at_sides (λ x. if_so (p x (seen i c)) (q x (seen i c)))) connections) answers ≡ true
    → (x y : Side) → let z = seen y.started y.link.connection in p x z ≡ true → q x z ≡ true
tested_seen p q h x y =
    let at : Bool → Connection → Bool = λ i c. at_sides (λ x. if_so (p x (seen i c)) (q x (seen i c))) in
    let z = seen y.started y.link.connection in
    tested (λ x. p x z) (λ x. q x z)
    (at_connection (at y.started) (at_answer (λ i. every (at i) connections) h y.started) y.link.connection) x

-- a pair that fits has a first side that fits alone
alone : (x y : Side) → pair_fits x y ≡ true → side_fits x ≡ true
unfolding pair_fits
alone = tested_seen pair_fits (λ x y. side_fits x) refl

pub tested_pair : (p q : Side → Side → Bool) → at_pairs (λ x y. if_so (p x y) (q x y)) ≡ true → (x y : Side)
    → stands_so x ≡ true → stands_so y ≡ true → pair_fits x y ≡ true → pair_fits y x ≡ true → p x y ≡ true → q x y ≡ true
tested_pair p q h x y sx sy fits back =
    let every_y : Side → Bool = λ x. at_sides (λ y. if_so (stands_so y && side_fits y) (if_so (p x y) (q x y))) in
    guarded (p x y) (q x y)
    (tested (λ y. stands_so y && side_fits y) (λ y. if_so (p x y) (q x y))
    (tested (λ x. stands_so x && side_fits x) every_y h x (both sx (alone x y fits))) y (both sy (alone y x back)))

-- a state's sides stand so
pub stands : (t : Status) → stands_so (side_of t apart false) ≡ true
stands Unstarted = refl
stands (Running v) = refl
stands (Migrating v w) = refl
stands (Ended v) = refl

-- a change that keeps pairs fit keeps each, both ways, and each message of it, and the order of two
module _ (c : Change) (kept : keeps c ≡ true) (s : State) (a b : Rank) (fits : given c (side s a b) (side s b a) ≡ true) where
  abbrev x : Side
  x = side s a b

  abbrev y : Side
  y = side s b a

  abbrev own : Side
  own = c.own x y

  abbrev other : Side
  other = c.other y x

  abbrev messages_kept_lem : Place → Bool
  messages_kept_lem p = chain (message_kept c x y p) (messages_kept c x y p)

  now : (i : ℕ) → get_or (pair_fits own other ∷ pair_fits other own ∷ every messages_kept_lem places ∷ []) i true ≡ true
  unfolding keeps
  now =
      let before = chain_at (pair_fits x y) (pair_fits y x ∷ c.asked x y ∷ []) fits in
      chain_at (pair_fits own other) (pair_fits other own ∷ every messages_kept_lem places ∷ [])
      (tested_pair (given c) (λ x y. chain (pair_fits (c.own x y) (c.other y x))
      (pair_fits (c.other y x) (c.own x y) ∷ every (λ p. chain (message_kept c x y p) (messages_kept c x y p)) places ∷ []))
      kept x y (stands (status s a)) (stands (status s b)) (before 0) (before 1) fits)

  pub pair_kept_lem : pair_fits own other ≡ true
  pair_kept_lem = now 0

  pub pair_kept_back : pair_fits other own ≡ true
  pair_kept_back = now 1

  module _ (p : Place) where
    there : (i : ℕ) → get_or (message_kept c x y p ∷ messages_kept c x y p) i true ≡ true
    there = chain_at (message_kept c x y p) (messages_kept c x y p) (at_place messages_kept_lem (now 2) p)

    pub message_kept_lem : message_fits p x y ≡ true → not (c.bars p) ≡ true → message_fits (c.place p) own other ≡ true
    message_kept_lem m n = guarded _ (message_fits (c.place p) own other) (there 0) (both m n)

    pub message_kept_back : message_fits p y x ≡ true → message_fits (c.place_back p) other own ≡ true
    message_kept_back = guarded _ (message_fits (c.place_back p) other own) (there 1)

    module _ (q : Place) (rise : up_to p q ≡ true) where
      pub order_kept_lem : message_fits p x y ≡ true → message_fits q x y ≡ true → up_to (c.place p) (c.place q) ≡ true
      order_kept_lem m n = guarded _ (up_to (c.place p) (c.place q)) (at_place (order_kept c.place x y p) (there 2) q)
          (both (both m n) rise)

      pub order_kept_back : message_fits p y x ≡ true → message_fits q y x ≡ true → up_to (c.place_back p) (c.place_back q) ≡ true
      order_kept_back m n =
          guarded _ (up_to (c.place_back p) (c.place_back q)) (at_place (order_kept c.place_back y x p) (there 3) q) (both (both m n) rise)

-- every pair of a sound state fits
pub pair_fits_lem : (s : State) → Pairs s → AtPairs (λ a b. pair_fits (side s a b) (side s b a))
unfolding pair_fits
pair_fits_lem s f a b ha hb =
    both (both (both (both (both (f.lines_belong_lem a b ha hb) (f.plain_both_sides_lem a b ha hb)) (f.notice_faces_none_lem a b ha hb))
    (f.awaits_belong_lem a b ha hb)) (f.unheeded_is_notice_lem a b ha hb)) (f.calls_fit_lem a b ha hb)

-- a rank that has nothing with itself fits itself
self_fits : (x : Side) → nothing x ≡ true → pair_fits x x ≡ true
unfolding pair_fits
self_fits = tested nothing (λ x. pair_fits x x) refl

-- where every pair of two ranks fits and nobody has anything with itself, the pairs are sound
module _ (s : State) (self : AtRanks (λ r. nothing (side s r r)))
    (fit : (a b : Rank) → a.0 < ranks → b.0 < ranks → is_same_rank a b ≡ false → pair_fits (side s a b) (side s b a) ≡ true)
  where
    fits_all : AtPairs (λ a b. pair_fits (side s a b) (side s b a))
    fits_all a b ha hb =
        by_test (is_same_rank a b) (λ e. rw (← same_rank_eq a b e) (self_fits (side s a a) (self a ha))) (fit a b ha hb)

    clause : (i : ℕ) → AtPairs (λ a b. get_or (line_belongs (side s a b) ∷ pair_clauses (side s a b) (side s b a)) i true)
    unfolding pair_fits
    clause i a b ha hb = chain_at (line_belongs (side s a b)) (pair_clauses (side s a b) (side s b a)) (fits_all a b ha hb) i

    pub pairs_from_fits : Pairs s
    pairs_from_fits =
        record {
          nothing_with_self_lem = self;
          lines_belong_lem = clause 0;
          plain_both_sides_lem = clause 1;
          notice_faces_none_lem = clause 2;
          awaits_belong_lem = clause 3;
          unheeded_is_notice_lem = clause 4;
          calls_fit_lem = clause 5;
        }

-- a message that fits the view of its pair: its ends, and its place twice
abbrev pub fits : State → Message → Bool
fits s m = message_fits m.place (side s m.receiver m.sender) (side s m.sender m.receiver)

-- every message of a sound state fits
pub messages_fit : (s : State) → Mail s → every (fits s) (messages s) ≡ true
unfolding message_fits
messages_fit s f =
    every_and (λ m. has_ends s m && fits_unheeded s m) (fits_place s) (messages s)
    (every_and (has_ends s) (fits_unheeded s) (messages s) f.ends_fit_lem f.unheeded_places_lem) f.places_fit_lem

module _ (s : State) (l : List Message) (h : every (fits s) l ≡ true) where
  first_two : every (λ m. has_ends s m && fits_unheeded s m) l ≡ true
  unfolding message_fits
  first_two = every_wider (fits s) (λ m. has_ends s m && fits_unheeded s m) (λ m. both_left _ (fits_place s m)) l h

  pub ends_from_fits : every (has_ends s) l ≡ true
  ends_from_fits = every_wider _ (has_ends s) (λ m. both_left (has_ends s m) (fits_unheeded s m)) l first_two

  pub unheeded_from_fits : every (fits_unheeded s) l ≡ true
  unheeded_from_fits = every_wider _ (fits_unheeded s) (λ m. both_right (has_ends s m) (fits_unheeded s m)) l first_two

  pub places_from_fits : every (fits_place s) l ≡ true
  unfolding message_fits
  places_from_fits = every_wider (fits s) (fits_place s) (λ m. both_right (has_ends s m && fits_unheeded s m) (fits_place s m)) l h
