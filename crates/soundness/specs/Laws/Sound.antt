-- Soundness of a state is the tests of its ranks, of its pairs and of its messages, where its arrays have their lengths and its
-- numbers fit. Assumes nothing.
use Rattle.std.specs.Prelude.{◌≡◌, Bool, true, not, ◌&&◌, ◌||◌, List, [], ◌∷◌, map, ℕ, ◌/◌, ◌%◌, ◌<◌, ◌≤◌, leb, length, get_or}
use Rattle.std.proofs.Common.{ap, arith, leb-true, le-leb}
use Rattle.base.specs.Laws.Tests.{both, both_left, both_right, AllTrue, parts, chained, same_truth}
use Rattle.base.specs.Lists.{select, every}
use Rattle.base.specs.Laws.Lists.{every_wider, every_and}
use Rattle.transit.specs.Message.{between, place_index, rank, cells, ranks}
use Rattle.transit.specs.Unread.{limit}
use Rattle.transit.specs.declared.Message.{Message}
use Rattle.transit.specs.declared.Rank.{Rank}
use Rattle.protocol.specs.Laws.Ranks.{every_rank_at, every_rank_of, every_pair_at, every_pair_of}
use Rattle.protocol.specs.Laws.Sound.{
  AtPairs,
  Shape,
  Names,
  Pairs,
  Mail,
  Facts,
  facts,
  of_facts,
  is_named,
  has_ends,
  fits_unheeded,
  fits_place,
}
use Rattle.protocol.specs.Messages.{sent_between}
use Rattle.broker.specs.Names.{numbers, is_started, is_migrating, is_live, is_closed, is_open, is_closing, is_clear}
use Rattle.protocol.specs.Sound.{sound}
use Rattle.broker.specs.State.{State, cell, status, request, location, connection, backlog, link_at, drawn_on, messages}
use Rattle.soundness_messages.specs.Laws.Messages.{has_cell, pair_inside, pair_is_cell}
use Rattle.soundness_messages.specs.Laws.Rising.{numbers_in, never_falls_lem, rises_within_lem, rises_tells, rises_of}
use Rattle.soundness_pairs.specs.Laws.Walk.{cell_of}
use Rattle.soundness_messages.specs.Messages.{message_sound_at, pair_of, not_below, within, places_rise, numbers_rise, messages_sound}
use Rattle.soundness_names.specs.Names.{vmids_drawn}
use Rattle.soundness_pairs.specs.Pairs.{location_fits, vmids_apart, connection_fits, backlog_fits, request_fits, pair_sound_at, pairs_sound}
use Rattle.soundness_ranks.specs.Ranks.{request_drawn, nothing_with_self, rank_sound_at, ranks_sound}

-- the three tests
abbrev pub by_ranks : State → Bool
by_ranks s = ranks_sound s.drawn s.processes s.links

abbrev pub by_pairs : State → Bool
by_pairs s = pairs_sound s.drawn s.processes s.locations s.links

abbrev pub by_messages : State → Bool
by_messages s = messages_sound s.processes s.links s.unread

-- what the types of a broker's arrays and numbers tell of its state
pub record Typed (s : State) : Type 0 where
  pub shape : Shape s
  pub numbered : (h : ℕ) → h < 8 → drawn_on s h ≤ numbers
  pub held : s.unread.count ≤ limit → length (messages s) ≡ s.unread.count

module _ (s : State) where
  -- the clauses of a rank's test, the first and the others
  abbrev rank_clause : Rank → Bool
  rank_clause r = vmids_drawn s.drawn (status s r)

  abbrev rank_clauses : Rank → List Bool
  rank_clauses r = request_drawn s.drawn (request s r) ∷ nothing_with_self r (request s r) (link_at s.links r r) ∷ []

  -- the clauses of a pair's test
  abbrev pair_clause : Rank → Rank → Bool
  pair_clause a b = location_fits s.drawn (location s a b) (status s b)

  abbrev pair_clauses : Rank → Rank → List Bool
  pair_clauses a b =
      vmids_apart a b (status s a) (status s b) ∷
      connection_fits (status s a) (connection s a b) (connection s b a) ∷
      backlog_fits (status s a) (status s b) (backlog s a b) (connection s b a) ∷
      request_fits b (request s a) (status s a) (status s b) (connection s a b) ∷ []

  -- the clauses of a connection, and the first of a backlog
  abbrev connection_clause : Rank → Rank → Bool
  connection_clause a b = is_closed (connection s a b) || is_live (status s a)

  abbrev connection_clauses : Rank → Rank → List Bool
  connection_clauses a b =
      (not (is_open (connection s a b)) || is_open (connection s b a)) ∷
      (not (is_closing (connection s a b)) || is_closed (connection s b a)) ∷ []

  abbrev backlog_clause : Rank → Rank → Bool
  backlog_clause a b = is_clear (backlog s a b) || is_migrating (status s a) && is_started (status s b)

  -- the test of a message
  abbrev message_test : Message → Bool
  message_test m = message_sound_at s.processes s.links m

  -- From soundness to the tests.

  ranks_pass : Facts s → by_ranks s ≡ true
  unfolding ranks_sound
  ranks_pass f =
      every_rank_of (rank_sound_at s.drawn s.processes s.links)
      (λ r h.
      chained (rank_clause r) (rank_clauses r) (f.names.vmids_drawn_lem r h)
      (f.names.calls_drawn_lem r h, (f.pairs.nothing_with_self_lem r h, tt)))

  connection_passes : Facts s → AtPairs (λ a b. connection_fits (status s a) (connection s a b) (connection s b a))
  connection_passes f a b h k =
      chained (connection_clause a b) (connection_clauses a b) (f.pairs.lines_belong_lem a b h k)
      (f.pairs.plain_both_sides_lem a b h k, (f.pairs.notice_faces_none_lem a b h k, tt))

  pairs_pass : Facts s → by_pairs s ≡ true
  unfolding pairs_sound
  pairs_pass f =
      every_pair_of (pair_sound_at s.drawn s.processes s.locations s.links)
      (λ a b h k.
      let backlog = both (f.pairs.awaits_belong_lem a b h k) (f.pairs.unheeded_is_notice_lem a b h k) in
      chained (pair_clause a b) (pair_clauses a b) (f.names.tables_drawn_lem a b h k)
      (f.names.vmids_apart_lem a b h k, (connection_passes f a b h k, (backlog, (f.pairs.calls_fit_lem a b h k, tt)))))

  -- the numbers of a cell's messages are those of its pair
  of_cell : (f : Message → ℕ) → every is_named (messages s) ≡ true → (k : ℕ)
      → numbers_in pair_of f k (messages s) ≡ map f (select (between (rank (k / ranks)) (rank (k % ranks))) (messages s))
  of_cell f named k =
      let same = rw (cell_of k) at (pair_is_cell (rank (k / ranks)) (rank (k % ranks)) (omega arith) (messages s) named) in
      ap (map f) same

  places_pass : Mail s → places_rise s.processes s.links s.unread ≡ true
  places_pass f =
      let l = messages s in
      let places = every_and (fits_unheeded s) (fits_place s) l f.unheeded_places_lem f.places_fit_lem in
      let all = every_and is_named _ l f.named (every_and (has_ends s) _ l f.ends_fit_lem places) in
      rises_of message_test not_below pair_of place_index cells (has_cell s.processes s.links) l all
      (λ k h.
      let rise = f.places_rise_lem (rank (k / ranks)) (rank (k % ranks)) (omega arith) (omega arith) in
      rw (never_falls_lem, of_cell place_index f.named k) rise)

  numbers_pass : Mail s → numbers_rise s.unread ≡ true
  numbers_pass f =
      rises_of is_named (within s.unread.sent) pair_of (λ m. m.sequence) cells pair_inside (messages s) f.named
      (λ k h.
      let rise = f.numbers_rise_lem (rank (k / ranks)) (rank (k % ranks)) (omega arith) (omega arith) in
      rw (rises_within_lem 0 (get_or s.unread.sent k 0), of_cell (λ m. m.sequence) f.named k) (rw (cell_of k) at rise))

  messages_pass : Mail s → by_messages s ≡ true
  unfolding messages_sound
  messages_pass f = both (both (le-leb _ _ f.few) (places_pass f)) (numbers_pass f)

  -- From the tests to soundness.

  rank_holds : by_ranks s ≡ true → (r : Rank) → r.0 < ranks → (rank_clause r ≡ true) × AllTrue (rank_clauses r)
  unfolding ranks_sound
  rank_holds ranks r h = parts (rank_clause r) (rank_clauses r) (every_rank_at _ ranks r h)

  pair_holds : by_pairs s ≡ true → (a b : Rank) → a.0 < ranks → b.0 < ranks → (pair_clause a b ≡ true) × AllTrue (pair_clauses a b)
  unfolding pairs_sound
  pair_holds pairs a b h k = parts (pair_clause a b) (pair_clauses a b) (every_pair_at _ pairs a b h k)

  connection_holds : by_pairs s ≡ true → (a b : Rank) → a.0 < ranks → b.0 < ranks
      → (connection_clause a b ≡ true) × AllTrue (connection_clauses a b)
  connection_holds pairs a b h k =
      parts (connection_clause a b) (connection_clauses a b) (pair_holds pairs a b h k).1.1.0

  names_hold : Typed s → by_ranks s ≡ true → by_pairs s ≡ true → Names s
  names_hold t ranks pairs =
      record {
        numbers_in_range_lem = t.numbered;
        vmids_drawn_lem = λ r h. (rank_holds ranks r h).0;
        calls_drawn_lem = λ r h. (rank_holds ranks r h).1.0;
        tables_drawn_lem = λ a b h k. (pair_holds pairs a b h k).0;
        vmids_apart_lem = λ a b h k. (pair_holds pairs a b h k).1.0;
      }

  pairs_hold : by_ranks s ≡ true → by_pairs s ≡ true → Pairs s
  pairs_hold ranks pairs =
      record {
        nothing_with_self_lem = λ r h. (rank_holds ranks r h).1.1.0;
        lines_belong_lem = λ a b h k. (connection_holds pairs a b h k).0;
        plain_both_sides_lem = λ a b h k. (connection_holds pairs a b h k).1.0;
        notice_faces_none_lem = λ a b h k. (connection_holds pairs a b h k).1.1.0;
        awaits_belong_lem = λ a b h k. both_left (backlog_clause a b) _ (pair_holds pairs a b h k).1.1.1.0;
        unheeded_is_notice_lem = λ a b h k. both_right (backlog_clause a b) _ (pair_holds pairs a b h k).1.1.1.0;
        calls_fit_lem = λ a b h k. (pair_holds pairs a b h k).1.1.1.1.0;
      }

  -- what a message that passes tells beyond its names
  fits_of : (m : Message) → message_test m ≡ true → (has_ends s m ≡ true) × ((fits_unheeded s m && fits_place s m) ≡ true)
  fits_of m h =
      let fits = both_right (is_named m) _ h in
      (both_left (has_ends s m) _ fits, both_right (has_ends s m) _ fits)

  messages_hold : Typed s → by_messages s ≡ true → Mail s
  unfolding messages_sound
  messages_hold t passes =
      let l = messages s in
      let places = places_rise s.processes s.links s.unread in
      let p = parts (leb s.unread.count limit) (places ∷ numbers_rise s.unread ∷ []) passes in
      let few = leb-true s.unread.count limit p.0 in
      let told = rises_tells message_test not_below pair_of place_index cells (has_cell s.processes s.links) l p.1.0 in
      let told_too = rises_tells is_named (within s.unread.sent) pair_of (λ m. m.sequence) cells pair_inside l p.1.1.0 in
      let all = told.0 in
      let named = told_too.0 in
      record {
        few = few;
        counted = t.held few;
        named = named;
        ends_fit_lem = every_wider message_test (has_ends s) (λ m h. (fits_of m h).0) l all;
        unheeded_places_lem = every_wider message_test (fits_unheeded s) (λ m h. both_left (fits_unheeded s m) _ (fits_of m h).1) l all;
        places_fit_lem = every_wider message_test (fits_place s) (λ m h. both_right (fits_unheeded s m) _ (fits_of m h).1) l all;
        places_rise_lem = λ a b h k. rw (never_falls_lem, pair_is_cell a b k l named) at (told.1 (cell a b) (omega arith));
        numbers_rise_lem = λ a b h k.
            rw (rises_within_lem 0 (sent_between a b s), pair_is_cell a b k l named) at (told_too.1 (cell a b) (omega arith));
      }

-- Soundness is the three tests.
pub sound_by_parts : (s : State) → Typed s → sound s ≡ (by_ranks s && by_pairs s && by_messages s)
sound_by_parts s t =
    same_truth (sound s) (by_ranks s && by_pairs s && by_messages s)
    (λ h. let f = facts s h in both (both (ranks_pass s f) (pairs_pass s f)) (messages_pass s f.mail))
    (λ h.
    let p = parts (by_ranks s) (by_pairs s ∷ by_messages s ∷ []) h in
    of_facts s record {
      shape = t.shape;
      names = names_hold s t p.0 p.1.0;
      pairs = pairs_hold s p.0 p.1.0;
      mail = messages_hold s t p.1.1.0;
    })
