-- Soundness as facts about each rank, each pair of ranks and the messages: taken from the test, and put together into it again.
-- Assumes nothing.
use Rattle.std.specs.Prelude.{◌≡◌, Bool, true, not, cond, ◌&&◌, ◌||◌, List, [], ◌∷◌, map, ℕ, ◌<◌, ◌≤◌, eqb, leb, length}
use Rattle.std.specs.Bool.{beq}
use Rattle.std.proofs.Common.{eqb-true, eq-eqb, leb-true, le-leb}
use Rattle.base.specs.Laws.Tests.{both, both_left, both_right, chain_at}
use Rattle.base.specs.Lists.{select, every, never_falls, rises_within}
use Rattle.transit.specs.Message.{between, at, place_number, is_same_rank, is_rank, ranks, cells}
use Rattle.transit.specs.Unread.{limit}
use Rattle.transit.specs.declared.Message.{Message}
use Rattle.transit.specs.declared.Place.TheVariants.{SourceList, SourceChannel, Channel}
use Rattle.transit.specs.declared.Rank.{Rank}
use Rattle.base.specs.Laws.Below.{all_below_at, all_below_of}
use Rattle.protocol.specs.Laws.Ranks.{every_rank_at, every_rank_of, every_pair_at, every_pair_of}
use Rattle.protocol.specs.Messages.{sent_between}
use Rattle.broker.specs.Names.{
  hosts,
  numbers,
  unknown,
  same_vmid,
  is_started,
  is_running,
  is_migrating,
  is_live,
  processes_of,
  vmids_of,
  asks_for,
  is_closed,
  is_open,
  is_closing,
  is_clear,
  is_unheeded,
}
use Rattle.protocol.specs.Sound
use Rattle.protocol.specs.Sound.{sound, is_drawn, of_call, none_shared, distinct}
use Rattle.broker.specs.State.{State, status, request, location, connection, backlog, drawn_on, messages}

-- a test that passes at each rank, and at each rank and each rank
abbrev pub AtRanks : (Rank → Bool) → Type 0
AtRanks f = (r : Rank) → r.0 < ranks → f r ≡ true

abbrev pub AtPairs : (Rank → Rank → Bool) → Type 0
AtPairs f = (a b : Rank) → a.0 < ranks → b.0 < ranks → f a b ≡ true

pub record Shape (s : State) : Type 0 where
  pub processes_long : length s.processes ≡ ranks
  pub locations_long : length s.locations ≡ cells
  pub links_long : length s.links ≡ cells
  pub drawn_long : length s.drawn ≡ hosts
  pub sent_long : length s.unread.sent ≡ cells

pub record Names (s : State) : Type 0 where
  pub numbers_in_range_lem : (h : ℕ) → h < 8 → drawn_on s h ≤ numbers
  pub vmids_drawn_lem : AtRanks (λ r. every (is_drawn s) (vmids_of (status s r)))
  pub calls_drawn_lem : AtRanks (λ r. of_call is_rank (is_drawn s) (request s r))
  pub tables_drawn_lem : AtPairs (λ a b. cond (is_started (status s b)) (is_drawn s (location s a b)) (same_vmid (location s a b) unknown))
  pub vmids_apart_lem :
      AtPairs
      (λ a b. cond (is_same_rank a b) (distinct (processes_of (status s a)))
      (none_shared (processes_of (status s a)) (processes_of (status s b))))

pub record Pairs (s : State) : Type 0 where
  pub nothing_with_self_lem : AtRanks (λ r. is_closed (connection s r r) && is_clear (backlog s r r) && not (asks_for r (request s r)))
  pub lines_belong_lem : AtPairs (λ a b. is_closed (connection s a b) || is_live (status s a))
  pub plain_both_sides_lem : AtPairs (λ a b. not (is_open (connection s a b)) || is_open (connection s b a))
  pub notice_faces_none_lem : AtPairs (λ a b. not (is_closing (connection s a b)) || is_closed (connection s b a))
  pub awaits_belong_lem : AtPairs (λ r p. is_clear (backlog s r p) || is_migrating (status s r) && is_started (status s p))
  pub unheeded_is_notice_lem : AtPairs (λ r p. beq (is_unheeded (backlog s r p)) (is_closing (connection s p r)))
  pub calls_fit_lem :
      AtPairs (λ a b. not (asks_for b (request s a)) || is_running (status s a) && is_started (status s b) && is_closed (connection s a b))

-- the tests of one message, as `Sound` words them
abbrev pub is_named : Message → Bool
is_named m = is_rank m.sender && is_rank m.receiver && not (is_same_rank m.sender m.receiver)

abbrev pub has_ends : State → Message → Bool
has_ends s m = is_started (status s m.sender) && is_live (status s m.receiver)

abbrev pub fits_unheeded : State → Message → Bool
fits_unheeded s m = not (is_unheeded (backlog s m.receiver m.sender)) || at SourceList m || at SourceChannel m

abbrev pub fits_place : State → Message → Bool
fits_place s m =
    (not (at SourceList m || at SourceChannel m) || is_migrating (status s m.receiver)) &&
    (not (at SourceChannel m) || not (is_clear (backlog s m.receiver m.sender))) &&
    (not (at Channel m) || not (is_closed (connection s m.receiver m.sender)))

pub record Mail (s : State) : Type 0 where
  pub few : s.unread.count ≤ limit
  pub counted : length (messages s) ≡ s.unread.count
  pub named : every is_named (messages s) ≡ true
  pub ends_fit_lem : every (has_ends s) (messages s) ≡ true
  pub unheeded_places_lem : every (fits_unheeded s) (messages s) ≡ true
  pub places_fit_lem : every (fits_place s) (messages s) ≡ true
  pub places_rise_lem : AtPairs (λ a b. never_falls (map (λ m. place_number m.place) (select (between a b) (messages s))))
  pub numbers_rise_lem :
      AtPairs (λ a b. rises_within 0 (sent_between a b s) (map (λ m. m.sequence) (select (between a b) (messages s))))

pub record Facts (s : State) : Type 0 where
  pub shape : Shape s
  pub names : Names s
  pub pairs : Pairs s
  pub mail : Mail s

-- the clauses of each group, after its first
abbrev longs : State → List Bool
longs s =
    eqb (length s.locations) cells ∷ eqb (length s.links) cells ∷ eqb (length s.drawn) hosts ∷
    eqb (length s.unread.sent) cells ∷ []

abbrev name_clauses : State → List Bool
name_clauses s = Sound.vmids_drawn s ∷ Sound.calls_drawn s ∷ Sound.tables_drawn s ∷ Sound.vmids_apart s ∷ []

abbrev pair_clauses : State → List Bool
pair_clauses s =
    Sound.lines_belong s ∷ Sound.plain_both_sides s ∷ Sound.notice_faces_none s ∷ Sound.awaits_belong s ∷ Sound.unheeded_is_notice s ∷
    Sound.calls_fit s ∷ []

abbrev mail_clauses : State → List Bool
mail_clauses s =
    Sound.messages_named s ∷ Sound.ends_fit s ∷ Sound.unheeded_places s ∷ Sound.places_fit s ∷ Sound.places_rise s ∷
    Sound.numbers_rise s ∷ []

shape_of : (s : State) → Sound.shaped s ≡ true → Shape s
unfolding Sound.shaped
shape_of s h =
    let clause = chain_at (eqb (length s.processes) ranks) (longs s) h in
    record {
      processes_long = eqb-true (length s.processes) ranks (clause 0);
      locations_long = eqb-true (length s.locations) cells (clause 1);
      links_long = eqb-true (length s.links) cells (clause 2);
      drawn_long = eqb-true (length s.drawn) hosts (clause 3);
      sent_long = eqb-true (length s.unread.sent) cells (clause 4);
    }

of_shape : (s : State) → Shape s → Sound.shaped s ≡ true
unfolding Sound.shaped
of_shape s f =
    simp (
      eq-eqb _ _ f.processes_long,
      eq-eqb _ _ f.locations_long,
      eq-eqb _ _ f.links_long,
      eq-eqb _ _ f.drawn_long,
      eq-eqb _ _ f.sent_long,
    )

names_of : (s : State) → Sound.names_sound s ≡ true → Names s
unfolding Sound.names_sound Sound.numbers_in_range Sound.vmids_drawn Sound.calls_drawn Sound.tables_drawn Sound.vmids_apart
names_of s h =
    let clause = chain_at (Sound.numbers_in_range s) (name_clauses s) h in
    record {
      numbers_in_range_lem = λ k b. leb-true (drawn_on s k) numbers (all_below_at 8 (λ n. leb (drawn_on s n) numbers) (clause 0) k b);
      vmids_drawn_lem = every_rank_at _ (clause 1);
      calls_drawn_lem = every_rank_at _ (clause 2);
      tables_drawn_lem = every_pair_at _ (clause 3);
      vmids_apart_lem = every_pair_at _ (clause 4);
    }

of_names : (s : State) → Names s → Sound.names_sound s ≡ true
unfolding Sound.names_sound Sound.numbers_in_range Sound.vmids_drawn Sound.calls_drawn Sound.tables_drawn Sound.vmids_apart
of_names s f =
    let numbered = all_below_of 8 (λ n. leb (drawn_on s n) numbers) (λ k b. le-leb (drawn_on s k) numbers (f.numbers_in_range_lem k b)) in
    both (both (both (both numbered (every_rank_of _ f.vmids_drawn_lem)) (every_rank_of _ f.calls_drawn_lem))
    (every_pair_of _ f.tables_drawn_lem)) (every_pair_of _ f.vmids_apart_lem)

pairs_of : (s : State) → Sound.pairs_sound s ≡ true → Pairs s
unfolding Sound.pairs_sound Sound.nothing_with_self Sound.lines_belong Sound.plain_both_sides Sound.notice_faces_none Sound.awaits_belong
    Sound.unheeded_is_notice Sound.calls_fit
pairs_of s h =
    let clause = chain_at (Sound.nothing_with_self s) (pair_clauses s) h in
    record {
      nothing_with_self_lem = every_rank_at _ (clause 0);
      lines_belong_lem = every_pair_at _ (clause 1);
      plain_both_sides_lem = every_pair_at _ (clause 2);
      notice_faces_none_lem = every_pair_at _ (clause 3);
      awaits_belong_lem = every_pair_at _ (clause 4);
      unheeded_is_notice_lem = every_pair_at _ (clause 5);
      calls_fit_lem = every_pair_at _ (clause 6);
    }

of_pairs : (s : State) → Pairs s → Sound.pairs_sound s ≡ true
unfolding Sound.pairs_sound Sound.nothing_with_self Sound.lines_belong Sound.plain_both_sides Sound.notice_faces_none Sound.awaits_belong
    Sound.unheeded_is_notice Sound.calls_fit
of_pairs s f =
    both (both (both (both (both (both (every_rank_of _ f.nothing_with_self_lem) (every_pair_of _ f.lines_belong_lem))
    (every_pair_of _ f.plain_both_sides_lem)) (every_pair_of _ f.notice_faces_none_lem)) (every_pair_of _ f.awaits_belong_lem))
    (every_pair_of _ f.unheeded_is_notice_lem)) (every_pair_of _ f.calls_fit_lem)

mail_of : (s : State) → Sound.messages_sound s ≡ true → Mail s
unfolding Sound.messages_sound Sound.few_unread Sound.messages_named Sound.ends_fit Sound.unheeded_places Sound.places_fit Sound.places_rise
    Sound.numbers_rise
mail_of s h =
    let clause = chain_at (Sound.few_unread s) (mail_clauses s) h in
    let few = leb s.unread.count limit in
    let counted = eqb (length (messages s)) s.unread.count in
    record {
      few = leb-true s.unread.count limit (both_left few counted (clause 0));
      counted = eqb-true (length (messages s)) s.unread.count (both_right few counted (clause 0));
      named = clause 1;
      ends_fit_lem = clause 2;
      unheeded_places_lem = clause 3;
      places_fit_lem = clause 4;
      places_rise_lem = every_pair_at _ (clause 5);
      numbers_rise_lem = every_pair_at _ (clause 6);
    }

of_mail : (s : State) → Mail s → Sound.messages_sound s ≡ true
unfolding Sound.messages_sound Sound.few_unread Sound.messages_named Sound.ends_fit Sound.unheeded_places Sound.places_fit Sound.places_rise
    Sound.numbers_rise
of_mail s f =
    let few = both (le-leb s.unread.count limit f.few) (eq-eqb (length (messages s)) s.unread.count f.counted) in
    both (both (both (both (both (both few f.named) f.ends_fit_lem) f.unheeded_places_lem) f.places_fit_lem)
    (every_pair_of _ f.places_rise_lem)) (every_pair_of _ f.numbers_rise_lem)

-- what soundness says
pub facts : (s : State) → sound s ≡ true → Facts s
unfolding Sound.sound
facts s h =
    let group = chain_at (Sound.shaped s) (Sound.names_sound s ∷ Sound.pairs_sound s ∷ Sound.messages_sound s ∷ []) h in
    record { shape = shape_of s (group 0); names = names_of s (group 1); pairs = pairs_of s (group 2); mail = mail_of s (group 3) }

-- what makes soundness
pub of_facts : (s : State) → Facts s → sound s ≡ true
unfolding Sound.sound
of_facts s f = both (both (both (of_shape s f.shape) (of_names s f.names)) (of_pairs s f.pairs)) (of_mail s f.mail)
