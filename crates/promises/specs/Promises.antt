-- The page of promises: all that is promised of the desk, in full, to be read from top to bottom. Each statement stands under the sentence
-- of paper 01 or 02 that it is for, with all that it speaks of in sight; its proof cites what is proved below. What the entries that users
-- call promise stands in src/lib.rt in the same way. Assumes nothing.
use Rattle.std.specs.Prelude.{
  Bool,
  true,
  false,
  not,
  ◌&&◌,
  List,
  [],
  ◌∷◌,
  ◌++◌,
  map,
  ◌≡◌,
  refl,
  ℕ,
  suc,
  ◌+◌,
  ◌/◌,
  ◌%◌,
  ◌^◌,
  ◌<◌,
  ◌≤◌,
  min,
  leb,
  ltb,
  Some,
  None,
  Ok,
  Err,
  length,
  get_or,
  drop,
  replicate,
}
use Rattle.std.proofs.Math.Option.{Option, none, some}
use Rattle.std.proofs.Common.{sym, ap, ◌∙◌}
use Prim.Native.String.{String}
use Rattle.std.proofs.Math.Numerals.{unary_clauses}
use Rattle.std.proofs.Math.ListN as ListN
use Rattle.answer.specs.Answer.{refusal_number, number, values, NeverEighteen}
use Rattle.answer.specs.declared.Refusal.{Refusal}
use Rattle.answer.specs.declared.Refusal.TheVariants.{Unsound, UnknownKind, CutShort}
use Rattle.base.specs.Lists.{every, select, tally, up_from}
use Rattle.broker.specs.Names
use Rattle.broker.specs.State.{State, fresh, status, request, drawn_on, messages, next_vmid}
use Rattle.fairness.proofs.Laws.Named.{named_can_be_taken}
use Rattle.fairness.proofs.Laws.Sending.{kept_in_order}
use Rattle.fairness.proofs.Laws.Served.{look_names_first, served}
use Rattle.fairness.specs.Sending.{letters_sent, less_all_taken}
use Rattle.fairness.specs.Served.{goes_by_looks, letters_taken}
use Rattle.generator.specs.Answer as Maker
use Rattle.generator.specs.Answer.{makes}
use Rattle.generator.specs.Laws.Answer.{equal_seeds, in_two_parts}
use Rattle.generator.specs.Laws.Read.{made_holds}
use Rattle.generator.specs.Records.{Holds}
use Rattle.generator.specs.declared.Unmade.{Unmade}
use Rattle.generator_draw.specs.Draw.{words}
use Rattle.generator_record.specs.MadeUp as MadeUp
use Rattle.made_up_pass.specs.Course as PassCourse
use Rattle.made_up_pass.specs.Ending.{Ends}
use Rattle.made_up_pass.specs.declared.Stop.TheVariants as Pass
use Rattle.ordering.specs.Claim.{
  Reading,
  Entry,
  after,
  every_accepted,
  accepted,
  records,
  is_take,
  sent,
  taken,
  unread,
  no_move_open,
  five_kinds,
  unbroken,
  are_bytes,
}
use Rattle.ordering.specs.Laws.Counts.{count_never_passes}
use Rattle.ordering.specs.Laws.Numbers.{numbered}
use Rattle.ordering.specs.Laws.Open.{every_move_landed, no_move_open_by_the_list}
use Rattle.ordering.specs.Laws.Ordering.{ordering}
use Rattle.ordering.specs.Laws.Runs.{fresh_sound, sound_after}
use Rattle.print_page.specs.Ascii.{ascii_lines}
use Rattle.print_run.proofs.Laws.Pieces.{run_in_pieces, printed_in_pieces}
use Rattle.print_run.specs.Laws.Readings.{readings, readings_run}
use Rattle.print_run.proofs.Laws.Steps.{same_state}
use Rattle.print_run.proofs.Listing.{listing_prints, listing_in_pieces}
use Rattle.print_run.specs.Pieces.{Turn, all_bytes, in_pieces}
use Rattle.print_run.specs.Printed.{printed, text_of}
use Rattle.print_run.specs.Run.{Answered, Came, run_log}
use Rattle.print_run.proofs.Shown.{shown}
use Rattle.print_run.specs.Wholes.{is_whole}
use Rattle.print_course.specs.Course.{Course, RunSoFar, ShortOfEnd}
use Rattle.print_course.specs.Laws.Course.{course_ends, end_was_read}
use Rattle.print_course.specs.Laws.Runs.{turn_runs, course_runs}
use Rattle.print_turn.specs.Turn.{buffer_room, farthest, longest, Shows}
use Rattle.print_turn.specs.declared.Next.TheVariants.{Again, Read, End, TooLong}
use Rattle.print_turn.specs.declared.Turned.{Turned}
use Rattle.protocol.specs.Checks.{Check, checks, refusal}
use Rattle.protocol.specs.Edges
use Rattle.protocol.specs.Edges.{holds}
use Rattle.protocol.specs.Laws.Checks.{given_is_first, first_is_given}
use Rattle.protocol.proofs.Laws.Edges.{edges_hold}
use Rattle.protocol.proofs.Laws.Restart.{
  never_eighteen,
  like_any_other,
  restart_draws,
  restart_apart,
  restart_accepted,
  restart_carried_out,
}
use Rattle.protocol.proofs.Laws.Step.{step_refused, step_accepted, step_of_sound, step_of_unsound, step_keeps_sound}
use Rattle.protocol.proofs.Laws.Values.{values_hold}
use Rattle.protocol.specs.Messages as Messages
use Rattle.protocol.specs.Messages.{unread_between, sent_between}
use Rattle.protocol.specs.Migrate
use Rattle.protocol.specs.Sound.{sound}
use Rattle.protocol.specs.Step.{apply, step, step_sound, settle}
use Rattle.protocol.specs.Values
use Rattle.protocol.proofs.Worked.Spent.{rows_in_order}
use Rattle.replay_course.specs.Course.{Runs}
use Rattle.replay_course.specs.Laws.Course.{runs_over, runs_too_long}
use Rattle.replay_stage.specs.Stage.{given_of, taken_in, then_of, after_write}
use Rattle.replay_stage.specs.Words.{words_of}
use Rattle.replay_stage.specs.declared.Ending.TheVariants as Ending
use Rattle.replay_stage.specs.declared.Stage.{Stage}
use Rattle.replay_stage.specs.declared.Then.TheVariants as Then
use Rattle.record.specs.Laws.Record.{at_end_lem, no_kind, cut_short, whole, value_back}
use Rattle.record.specs.Parts.{is}
use Rattle.record.specs.Record.{is_kind, body_length, record_of, decode, value_of}
use Rattle.record.specs.declared.Fault.TheVariants.{Unknown}
use Rattle.record.specs.declared.Record.{Record}
use Rattle.record.specs.declared.Record.TheVariants.{Take, Move, Look}
use Rattle.transit.specs.Message.{ranks, message, letter, is_same_rank, to, place_order}
use Rattle.transit.specs.Laws.Operations.{full_stays}
use Rattle.transit.specs.Unread.{Unread, limit, most_sent, appended}
use Rattle.transit.specs.declared.Message.{Message}
use Rattle.transit.specs.declared.Place.{Place}
use Rattle.transit.specs.declared.Place.TheVariants.{EndList}
use Rattle.transit.specs.declared.Rank.{Rank}
use Rattle.transit.specs.declared.Selection.TheVariants.{Between}
use Rattle.broker.specs.declared.process.Status.TheVariants.{Running}
use Rattle.broker.specs.declared.process.Vmid.{Vmid}
use Rattle.promises.specs.Laws.Looks.{
  looks,
  takes_from_the_named,
  another_looks,
  another_takes,
  another_kind,
  look_where_unread,
  unread_where_look,
}
use Rattle.promises.specs.Laws.Rows.{none_applies, none_applied}
use Rattle.promises.specs.Laws.Shown.{all_shown}
use Rattle.promises.specs.Words.{Run, ◌prints◌, start, call, route, send, take, move, heed, drain, land, part, end, look}

-- Limits.

-- "Ranks are 0 to 15." "A vmid is a host, 0 to 7, and a number drawn on it, 1, 2, 3 up to 65,535." "At most 1,024 are unread in the whole
-- desk." "28 for a send when the pair has already sent 4,294,967,295"
pub limits_of_the_desk :
    (ranks ≡ 16) × (Names.hosts ≡ 8) × (Names.numbers ≡ 65535) × (limit ≡ 1024) × (most_sent ≡ 4294967295)
limits_of_the_desk = (refl, refl, refl, refl, refl)

-- "kind is not 01 to 0C", "a body whose length the kind fixes", and the bytes of the longest record
pub kinds_and_lengths :
    ((k : ℕ) → is_kind k ≡ (leb 1 k && leb k 12)) ×
    (map body_length (1 ∷ 2 ∷ 3 ∷ 4 ∷ 5 ∷ 6 ∷ 7 ∷ 8 ∷ 9 ∷ 10 ∷ 11 ∷ 12 ∷ []) ≡ 2 ∷ 2 ∷ 2 ∷ 6 ∷ 2 ∷ 2 ∷ 2 ∷ 2 ∷ 1 ∷ 2 ∷ 1 ∷ 1 ∷ []) ×
    (longest ≡ 7)
kinds_and_lengths = (λ k. refl, refl, refl)

-- "read through at most 65,536 bytes"; a run goes as far as positions of 2^63
pub limits_of_a_run : (buffer_room ≡ 65536) × (farthest ≡ 9223372036854775808)
limits_of_a_run = (refl, refl)

-- "the 32-bit xorshift generator", "1 plus the draw modulo 12", "7 times n bytes"
pub limits_of_a_made_up_pass : (words ≡ 4294967296) × (MadeUp.kinds ≡ 12) × (MadeUp.longest ≡ 7)
limits_of_a_made_up_pass = (refl, refl, refl)

-- Demand 2: every step gives exactly the answer, the next position and the next state of paper 01.

-- A step of any state, at any position of any log.
module _ (s : State) (log : List ℕ) (at : ℕ) where
  -- "1: the lent state is unsound"
  pub unsound_is_1 : sound s ≡ false → step s log at ≡ record { answer = Err Unsound; next = at; state = s }
  unsound_is_1 = step_of_unsound s log at

  module _ (ok : sound s ≡ true) where
    -- "in a sound state at the log's end 3 is given, and no kind is read"
    pub end_is_3 : length log ≤ at → step s log at ≡ record { answer = Err CutShort; next = at; state = s }
    unfolding step_sound
    end_is_3 h = rw (step_of_sound s log at ok, at_end_lem log at h)

    -- "2: kind is not 01 to 0C"
    pub no_kind_is_2 : at < length log → (leb 1 (get_or log at 0) && leb (get_or log at 0) 12) ≡ false →
        step s log at ≡ record { answer = Err UnknownKind; next = at; state = s }
    unfolding step_sound
    no_kind_is_2 h k = rw (step_of_sound s log at ok, no_kind log at h k)

    module _ (inside : at < length log) (known : (leb 1 (get_or log at 0) && leb (get_or log at 0) 12) ≡ true) where
      -- "3: .. body cut short"
      pub cut_is_3 : length log < at + 1 + body_length (get_or log at 0) →
          step s log at ≡ record { answer = Err CutShort; next = at; state = s }
      unfolding step_sound
      cut_is_3 h = rw (step_of_sound s log at ok, cut_short log at inside known h)

      module _ (long : at + 1 + body_length (get_or log at 0) ≤ length log) where
        abbrev read : Record
        read = record_of (get_or log at 0) (ListN.take (body_length (get_or log at 0)) (drop (at + 1) log))

        -- Where no row of the table applies, the record is carried out.
        pub no_row_accepts : every (λ (c : Check). not (c.given s read)) checks ≡ true →
            step s log at ≡
            record {
              answer = Ok (apply read s).values;
              next = at + 1 + body_length (get_or log at 0);
              state = (apply read s).state;
            }
        unfolding refusal
        no_row_accepts h =
            step_accepted s log at read (at + 1 + body_length (get_or log at 0)) ok (whole log at inside known long)
            (none_applies s read checks h)

        -- "The lowest number that applies is given"; "A refusal leaves the state lent for a step unchanged"; "The position passes the
        -- record"
        pub first_row_refuses : (before later : List Check) (row : Check) → checks ≡ before ++ row ∷ later →
            every (λ (c : Check). not (c.given s read)) before ≡ true → row.given s read ≡ true →
            step s log at ≡
            record { answer = Err row.refusal; next = at + 1 + body_length (get_or log at 0); state = s }
        unfolding step_sound settle refusal
        first_row_refuses before later row stands passed applies =
            let given = first_is_given checks s read row.refusal
            (record {
              before = before;
              row = row;
              after = later;
              stands = stands;
              passed = none_applies s read before passed;
              applies = applies;
              gives = refl;
            }) in
            rw (step_of_sound s log at ok, whole log at inside known long, given)

  -- "every refusal comes in just the listed case": a check's refusal is given only where its row is the first that applies
  pub refused_by_the_first : (r : Record) (n : Refusal) → refusal s r ≡ some n →
      (before : List Check) × (row : Check) × (later : List Check) × (checks ≡ before ++ row ∷ later) ×
      (every (λ (c : Check). not (c.given s r)) before ≡ true) × (row.given s r ≡ true) × (row.refusal ≡ n)
  unfolding refusal
  refused_by_the_first r n e =
      let f = given_is_first checks s r n e in
      (f.before, f.row, f.after, f.stands, none_applied s r f.before f.passed, f.applies, f.gives)

  -- Demand 1: "A refusal leaves the state lent for a step unchanged, v1 to v3 zero."
  pub refusal_keeps_the_state : (n : Refusal) → (step s log at).answer ≡ Err n →
      ((step s log at).state ≡ s) × (values (step s log at).answer ≡ 0 ∷ 0 ∷ 0 ∷ [])
  refusal_keeps_the_state n e = let kept = step_refused s log at n e in (kept.state_kept, kept.zeros)

  -- "Every step keeps a sound state sound."
  pub step_stays_sound : sound s ≡ true → sound (step s log at).state ≡ true
  step_stays_sound = step_keeps_sound s log at

  -- Paper 02, change 2: "Number 18 is given no more"
  pub eighteen_is_given_no_more : number (step s log at).answer ≡ 18 → ⊥
  unfolding NeverEighteen
  eighteen_is_given_no_more = never_eighteen (step s log at).answer

-- The rows of the table, in the order in which they decide.
pub rows_of_the_table :
    map (λ (c : Check). refusal_number c.refusal) checks ≡
    4 ∷ 5 ∷ 6 ∷ 7 ∷ 8 ∷ 9 ∷ 10 ∷ 11 ∷ 12 ∷ 13 ∷ 14 ∷ 15 ∷ 16 ∷ 17 ∷ 19 ∷ 20 ∷ 21 ∷ 22 ∷ 23 ∷ 24 ∷ 25 ∷ 28 ∷ []
rows_of_the_table = rows_in_order

-- "A list starts from a fresh desk", which is sound.
pub fresh_desk_is_sound : sound fresh ≡ true
fresh_desk_is_sound = fresh_sound

-- Demand 3.

-- What is claimed of a list of steps from a fresh desk and of the state that it leaves.
pub record OrderingClaim (xs : List Reading) (end : State) : Type 0 where
  -- "each pair's taken values then unread values are exactly its sent values in order"
  pub taken_then_unread : (a b : Rank) → a.0 < 16 → b.0 < 16 →
      taken a b (accepted fresh xs) ++ unread a b end ≡ sent a b (accepted fresh xs)
  -- "where no move is open, an equivalent list with unbroken moves exists": it is carried out as it stands; "The second list has the
  -- first's accepted starts, moves, sends, takes and ends with the same kinds and bodies, in one order over all five"; each pair has taken
  -- the same and has the same unread; "Standing, and host and number of the current end .. are compared in the states that the two lists
  -- leave"
  pub second_list : no_move_open end ≡ true →
      (list : List Reading) ×
      (are_bytes xs ≡ true → are_bytes list ≡ true) ×
      (every_accepted fresh list ≡ true) ×
      (unbroken none (records (accepted fresh list)) ≡ true) ×
      (five_kinds (accepted fresh list) ≡ five_kinds (accepted fresh xs)) ×
      ((a b : Rank) → taken a b (accepted fresh list) ≡ taken a b (accepted fresh xs)) ×
      ((a b : Rank) → a.0 < 16 → b.0 < 16 → unread a b (after fresh list) ≡ unread a b end) ×
      ((r : Rank) → r.0 < 16 → status (after fresh list) r ≡ status end r)
  -- Paper 02, change 4: "the numbers taken by a pair are 1, 2, 3 without a gap as far as taken"; with those of the unread behind them they
  -- are 1 to "the count sent", which is that of the accepted sends
  pub running_numbers : (a b : Rank) → a.0 < 16 → b.0 < 16 →
      let numbers_taken_lem = map (λ (e : Entry). e.v3) (select (is_take a b) (accepted fresh xs)) in
      let numbers_unread_lem = map (λ (m : Message). m.sequence) (place_order (Between a b) (messages end)) in
      (numbers_taken_lem ≡ up_from 1 (length (taken a b (accepted fresh xs)))) ×
      (numbers_taken_lem ++ numbers_unread_lem ≡ up_from 1 (sent_between a b end)) ×
      (sent_between a b end ≡ length (sent a b (accepted fresh xs)))

-- Over every list of steps: each reads any log at any position.
module _ (xs : List Reading) where
  pub ordering_claim : OrderingClaim xs (after fresh xs)
  ordering_claim =
      record {
        taken_then_unread = ordering.first_half xs;
        second_list =
            λ h.
            let l = ordering.second_half xs h in
            (l.list, l.bytes, l.all_accepted, l.moves_unbroken, l.same_steps, l.same_taken, l.same_unread, l.same_status);
        running_numbers = λ a b ha hb. let n = numbered xs a b ha hb in (n.without_a_gap, n.to_the_count_sent, n.sends_counted);
      }

  -- "A move is open from its accepted 06 until its accepted 09"
  pub open_moves_by_the_list : no_move_open (after fresh xs) ≡ every_move_landed (records (accepted fresh xs))
  open_moves_by_the_list = no_move_open_by_the_list xs

  -- Paper 02, change 3: "The unread count of a pair never passes 1,024."
  pub unread_of_a_pair : (a b : Rank) → unread_between a b (after fresh xs) ≤ 1024
  unread_of_a_pair = count_never_passes xs

  pub stays_sound_over_a_list : sound (after fresh xs) ≡ true
  stays_sound_over_a_list = sound_after xs fresh fresh_sound

-- "At most 1,024 are unread in the whole desk.": the lower part takes no message more.
pub full_desk_takes_no_message : (u : Unread) (a b : Rank) (p : Place) (v : ℕ) → 1024 ≤ u.count →
    appended u a b p v ≡ record { full = true; unread = u }
full_desk_takes_no_message = full_stays

-- Paper 02, change 2: "A move to the rank's present host is accepted and draws a number like any other."
pub restart : (s : State) (r : Rank) (v : Vmid) → sound s ≡ true → r.0 < 16 → status s r ≡ Running v →
    (v.1 < drawn_on s v.0 + 1) ×
    (Names.same_vmid v (next_vmid s v.0) ≡ false) ×
    (Names.is_open_request (request s r) ≡ false → drawn_on s v.0 < 65535 →
    (refusal s (Move r v.0) ≡ none) ×
    ((log : List ℕ) (at next : ℕ) → decode log at ≡ Ok (Move r v.0, next) →
    step s log at ≡
    record { answer = Ok (Migrate.move r v.0 s).values; next = next; state = (Migrate.move r v.0 s).state }))
restart s r v ok in_range runs = (
  restart_draws s r v ok in_range runs,
  restart_apart s r v ok in_range runs,
  λ idle room. (
    restart_accepted s r v ok in_range runs idle room,
    restart_carried_out s r v ok in_range runs idle room,
  ),
)

pub restart_like_any_move : (s : State) (r : Rank) (h k : ℕ) → h < 8 → k < 8 → drawn_on s h < 65535 → drawn_on s k < 65535 →
    refusal s (Move r h) ≡ refusal s (Move r k)
restart_like_any_move = like_any_other

-- Paper 02, change 6.

-- "The order of sending over all pairs is kept in the state": over every list of steps, the state holds what the accepted sends sent, over
-- all pairs and in list order, each message with the next number of its pair, less, for each accepted take, the first of its pair.
pub sent_over_all_pairs_in_order : (xs : List Reading) →
    map letter (messages (after fresh xs)) ≡ less_all_taken (accepted fresh xs) (letters_sent (replicate 256 0) (accepted fresh xs))
sent_over_all_pairs_in_order xs = kept_in_order xs fresh fresh_sound

-- "Look now names the sender of the message sent first of all those unread by r, whatever its place."
pub look_names_the_oldest : (xs : List Reading) (r : Rank) → refusal (after fresh xs) (Look r) ≡ none →
    (oldest : Message) × (rest : List Message) ×
    (select (to r) (less_all_taken (accepted fresh xs) (letters_sent (replicate 256 0) (accepted fresh xs))) ≡ oldest ∷ rest) ×
    (apply (Look r) (after fresh xs) ≡
    record { state = after fresh xs; values = record { 0 = oldest.sender.0; 1 = 0; 2 = 0 } })
unfolding apply Messages.look
look_names_the_oldest xs r passes =
    let first = look_names_first r (after fresh xs) (sound_after xs fresh fresh_sound) passes in
    (first.first, first.rest, ap (select (to r)) (sym (sent_over_all_pairs_in_order xs)) ∙ first.stands, rw first.sender)

-- 22: "look: r has none": a look of a rank that runs is accepted where something is unread by it, and nowhere else.
pub look_is_accepted : (s : State) (r : Rank) → r.0 < 16 → Names.is_running (status s r) ≡ true → 0 < tally (to r) (messages s) →
    refusal s (Look r) ≡ none
look_is_accepted = look_where_unread

pub accepted_look_has_something : (s : State) (r : Rank) → refusal s (Look r) ≡ none →
    (r.0 < 16) × (Names.is_running (status s r) ≡ true) × (0 < tally (to r) (messages s))
accepted_look_has_something = unread_where_look

-- "one sender starved": nobody does. A receiver goes by its looks where each of its takes is from the rank that its last look named, and no
-- other take of it is between; `named` is the rank that it named and from which it has not taken yet. What others do is free.
pub what_going_by_looks_is : (r : Rank) (named : Option ℕ) (es : List Entry) →
    (goes_by_looks r named [] ≡ true) ×
    ((v1 v3 : ℕ) → goes_by_looks r named (record { read = Look r; v1 = v1; v3 = v3 } ∷ es) ≡ goes_by_looks r (some v1) es) ×
    ((v1 v3 : ℕ) (a : Rank) →
    goes_by_looks r (some a.0) (record { read = Take r a; v1 = v1; v3 = v3 } ∷ es) ≡ goes_by_looks r none es) ×
    ((v1 v3 : ℕ) (q : Rank) → is_same_rank q r ≡ false →
    (goes_by_looks r named (record { read = Look q; v1 = v1; v3 = v3 } ∷ es) ≡ goes_by_looks r named es) ×
    ((a : Rank) → goes_by_looks r named (record { read = Take q a; v1 = v1; v3 = v3 } ∷ es) ≡ goes_by_looks r named es)) ×
    ((e : Entry) → is (0x05 ∷ 0x0C ∷ []) e.read ≡ false → goes_by_looks r named (e ∷ es) ≡ goes_by_looks r named es)
what_going_by_looks_is r named es = (
  refl,
  looks r named es,
  takes_from_the_named r named es,
  λ v1 v3 q other. (another_looks r named es v1 v3 q other, another_takes r named es v1 v3 q other),
  λ e. another_kind r named e es,
)

-- Over every list of steps from a sound state: it takes its messages in the order in which they were sent over all senders, those that were
-- unread first and behind them those that were sent; and when it has taken as many as were unread at the start, it has taken just those,
-- and all that is unread by it was sent since: its number is above those that its pair had sent.
pub nobody_starves : (r : Rank) (xs : List Reading) (s : State) → sound s ≡ true → goes_by_looks r none (accepted s xs) ≡ true →
    let took = letters_taken r (accepted s xs) in
    let unread_at_the_start = select (to r) (map letter (messages s)) in
    (took ++ select (to r) (map letter (messages (after s xs))) ≡
    unread_at_the_start ++ select (to r) (letters_sent s.unread.sent (accepted s xs))) ×
    (tally (to r) (messages s) ≤ length took →
    (ListN.take (tally (to r) (messages s)) took ≡ unread_at_the_start) ×
    (every (λ (m : Message). ltb (sent_between m.sender r s) m.sequence) (select (to r) (messages (after s xs))) ≡ true))
nobody_starves r xs s ok goes =
    let claim = served r xs s ok goes in
    (claim.in_order, λ enough. (claim.all_taken enough, claim.none_left enough))

-- And it can go on: what a look named can be taken, whatever others did since, as long as r runs; the take gives the value and the number
-- of the message that was the oldest when r looked.
pub named_is_there_to_take : (r : Rank) (xs : List Reading) (s : State) → sound s ≡ true → refusal s (Look r) ≡ none →
    letters_taken r (accepted s xs) ≡ [] → Names.is_running (status (after s xs) r) ≡ true →
    let a = Messages.oldest_sender r s in
    let values = (Messages.take r a (after s xs)).values in
    ((Messages.look r s).values.0 ≡ a.0) ×
    (refusal (after s xs) (Take r a) ≡ none) ×
    (rest : List Message) ×
    (select (to r) (map letter (messages s)) ≡ message a r EndList values.0 values.2 ∷ rest)
unfolding Messages.look
named_is_there_to_take r xs s ok looks nothing runs =
    let there = named_can_be_taken r xs s ok looks nothing runs in
    (refl, there.0, there.1, there.2)

-- "the value is four bytes, least significant first"
pub value_in_four_bytes : (v : ℕ) → v < 2 ^ 32 → value_of (v % 256) (v / 256 % 256) (v / 65536 % 256) (v / 16777216 % 256) ≡ v
value_in_four_bytes = value_back

-- Printed runs.

-- "Cases A to J below form one table whose truth, as a whole, is a theorem of the definitions.": "From a fresh desk, ranks 0 and 1 started
-- on hosts 0 and 1 where C to J need them running": each case as the run that it prints.
abbrev pub edges : List Run
edges =
    -- "A start 15 on 7 accepted."
    start 15 7 prints ("0 01 0 7 1 0" ∷ "end" ∷ []) ∷
    -- "B start 16: 4."
    start 16 0 prints ("0 01 4 0 0 0" ∷ "end" ∷ []) ∷
    -- "C start 2 on 8: 5."
    (two ++ start 2 8) prints (two_lines ++ "6 01 5 0 0 0" ∷ "end" ∷ []) ∷
    -- "D call 0 0: 6."
    (two ++ call 0 0) prints (two_lines ++ "6 02 6 0 0 0" ∷ "end" ∷ []) ∷
    -- "E take with both ranks running, nothing sent: 22."
    (two ++ take 1 0) prints (two_lines ++ "6 05 22 0 0 0" ∷ "end" ∷ []) ∷
    -- "F calls 0 to 1 and 1 to 0, route 0 1: both calls gone.": so that both ranks can end, which 13 hinders where a call is open
    (two ++ call 0 1 ++ call 1 0 ++ route 0 1 ++ part 0 1 ++ end 0 ++ end 1) prints
    (two_lines ++ "6 02 0 1 1 0" ∷ "9 02 0 0 1 0" ∷ "12 03 0 0 1 1" ∷ "15 0A 0 0 0 0" ∷ "18 0B 0 0 0 0" ∷ "20 0B 0 0 0 0" ∷ "end" ∷ []) ∷
    -- "G joined 0 and 1 both move: both awaits marked, no heed needed (heed: 17).": so that a drain of each finds the end marker
    (two ++ join ++ move 0 2 ++ move 1 3 ++ heed 0 1 ++ heed 1 0 ++ drain 0 1 ++ drain 1 0 ++ land 0 ++ land 1) prints
    (two_lines ++ join_lines ++ "12 06 0 2 1 1" ∷ "15 06 0 3 1 1" ∷ "18 07 17 0 0 0" ∷ "21 07 17 0 0 0" ∷
    "24 08 0 1 0 0" ∷ "27 08 0 1 0 0" ∷ "30 09 0 0 0 0" ∷ "32 09 0 0 0 0" ∷ "end" ∷ []) ∷
    -- "H move without lines, then land: accepted."
    (two ++ move 0 2 ++ land 0) prints (two_lines ++ "6 06 0 2 1 0" ∷ "9 09 0 0 0 0" ∷ "end" ∷ []) ∷
    -- "I land with await unheeded: 19."
    (two ++ join ++ move 1 2 ++ land 1) prints (two_lines ++ join_lines ++ "12 06 0 2 1 1" ∷ "15 09 19 0 0 0" ∷ "end" ∷ []) ∷
    -- "J drain then: 21."
    (two ++ join ++ move 1 2 ++ land 1 ++ drain 1 0) prints
    (two_lines ++ join_lines ++ "12 06 0 2 1 1" ∷ "15 09 19 0 0 0" ∷ "17 08 21 0 0 0" ∷ "end" ∷ []) ∷ []
  where
    two : List ℕ
    two = start 0 0 ++ start 1 1

    two_lines : List String
    two_lines = "0 01 0 0 1 0" ∷ "3 01 0 1 1 0" ∷ []

    join : List ℕ
    join = call 0 1 ++ route 0 1

    join_lines : List String
    join_lines = "6 02 0 1 1 0" ∷ "9 03 0 0 1 1" ∷ []

pub edges_print : map (λ (r : Run). printed fresh r.log) edges ≡ map (λ (r : Run). ascii_lines r.lines) edges
unfolding shown
edges_print = all_shown edges

-- The same cases step by step, each with what holds of the state at its end (`A` to `J` of protocol/specs/Edges.antt).
pub edges_step_by_step :
    (holds Edges.A ≡ true) × (holds Edges.B ≡ true) × (holds Edges.C ≡ true) × (holds Edges.D ≡ true) × (holds Edges.E ≡ true) ×
    (holds Edges.F ≡ true) × (holds Edges.G ≡ true) × (holds Edges.G_lands ≡ true) × (holds Edges.H ≡ true) × (holds Edges.I ≡ true) ×
    (holds Edges.J ≡ true)
edges_step_by_step = (
  edges_hold.case_A,
  edges_hold.case_B,
  edges_hold.case_C,
  edges_hold.case_D,
  edges_hold.case_E,
  edges_hold.case_F,
  edges_hold.case_G,
  edges_hold.case_G_lands,
  edges_hold.case_H,
  edges_hold.case_I,
  edges_hold.case_J,
)

-- "v1, v2, v3 are the answer's values; an unnamed one is 0": each kind in each way that it can go, from ranks 0 and 1 on host 5 and rank 2
-- on host 6.
abbrev pub kinds_of_steps : List Run
kinds_of_steps =
    -- 01 start: "r runs on h with h's next number; everybody's entry for r becomes that vmid. v1 host, v2 number."
    (three ++ call 2 1 ++ start 3 6) prints (three_lines ++ "9 02 0 5 2 0" ∷ "12 01 0 6 2 0" ∷ "end" ∷ []) ∷
    -- 02 call: "opens a's call, posted to a's entry for b. v1 host, v2 number."
    (three ++ call 0 1 ++ call 0 2) prints (three_lines ++ "9 02 0 5 2 0" ∷ "12 02 13 0 0 0" ∷ "end" ∷ []) ∷
    -- 03 route: "If the posted vmid is b's current end, a plain line stands both ways, .. v1 is 0, v2 and v3 host and number."
    (three ++ join ++ call 0 1 ++ call 1 0) prints (three_lines ++ join_lines ++ "15 02 12 0 0 0" ∷ "18 02 12 0 0 0" ∷ "end" ∷ []) ∷
    -- "Otherwise v1 is 1, and a's entry and the posted vmid become b's current end, given in v2 and v3."
    (three ++ move 1 6 ++ call 0 1 ++ route 0 1 ++ route 0 1 ++ part 0 1 ++ call 0 1) prints
    (three_lines ++ "9 06 0 6 2 0" ∷ "12 02 0 5 2 0" ∷ "15 03 0 1 6 2" ∷ "18 03 0 0 6 2" ∷ "21 0A 0 0 0 0" ∷ "24 02 0 6 2 0" ∷
    "end" ∷ []) ∷
    -- "if b is ended, the call closes, v1 is 2"; "After a route v1 of 2, table entries stay."
    (three ++ move 1 6 ++ land 1 ++ call 0 1 ++ end 1 ++ route 0 1 ++ call 0 1) prints
    (three_lines ++ "9 06 0 6 2 0" ∷ "12 09 0 0 0 0" ∷ "14 02 0 5 2 0" ∷ "17 0B 0 0 0 0" ∷ "19 03 0 2 0 0" ∷ "22 02 0 5 2 0" ∷
    "end" ∷ []) ∷
    -- 04 send: "place 3 on a plain line, place 1 on a notice line. v1 unread of the pair afterwards."
    (three ++ join ++ send 0 1 10 ++ send 1 0 20 ++ send 0 1 11 ++ move 1 6 ++ send 0 1 12) prints
    (three_lines ++ join_lines ++ "15 04 0 1 0 0" ∷ "22 04 0 1 0 0" ∷ "29 04 0 2 0 0" ∷ "36 06 0 6 2 1" ∷ "39 04 0 3 0 0" ∷
    "pair 0 1 0 3 0 0" ∷ "pair 1 0 0 0 0 1" ∷ "end" ∷ []) ∷
    -- 05 take: "the first unread message from a to b in place order leaves. v1 value, v2 unread of the pair afterwards."; paper 02,
    -- change 4: "A take gives it as v3"
    (three ++ join ++ send 0 1 513 ++ send 1 0 20 ++ send 0 1 11 ++ take 1 0 ++ take 1 0 ++ take 1 0 ++ take 0 1) prints
    (three_lines ++ join_lines ++ "15 04 0 1 0 0" ∷ "22 04 0 1 0 0" ∷ "29 04 0 2 0 0" ∷ "36 05 0 513 1 1" ∷ "39 05 0 11 0 2" ∷
    "42 05 22 0 0 0" ∷ "45 05 0 20 0 1" ∷ "end" ∷ []) ∷
    -- 06 move: "v1 host, v2 number, v3 r's awaits not none": of rank 1 one across the notice of rank 0, and one of rank 2
    (three ++ join ++ call 1 2 ++ route 1 2 ++ move 0 7 ++ move 1 6) prints
    (three_lines ++ join_lines ++ "15 02 0 6 1 0" ∷ "18 03 0 0 6 1" ∷ "21 06 0 7 1 1" ∷ "24 06 0 6 2 2" ∷ "end" ∷ []) ∷
    -- Paper 02, change 2: "A move to the rank's present host is accepted and draws a number like any other."
    (three ++ move 1 5 ++ move 1 5 ++ call 0 1 ++ route 0 1 ++ route 0 1 ++ land 1 ++ start 3 5 ++ move 1 5) prints
    (three_lines ++ "9 06 0 5 3 0" ∷ "12 06 10 0 0 0" ∷ "15 02 0 5 2 0" ∷ "18 03 0 1 5 3" ∷ "21 03 0 0 5 3" ∷ "24 09 0 0 0 0" ∷
    "26 01 0 5 4 0" ∷ "29 06 0 5 5 1" ∷ "end" ∷ []) ∷
    -- 07 heed: "messages from r to b at place 3 go to 2; .. v1 messages moved."
    (three ++ join ++ send 1 0 20 ++ send 1 0 21 ++ send 0 1 10 ++ move 1 6 ++ heed 0 1) prints
    (three_lines ++ join_lines ++ "15 04 0 1 0 0" ∷ "22 04 0 2 0 0" ∷ "29 04 0 1 0 0" ∷ "36 06 0 6 2 1" ∷ "39 07 0 2 0 0" ∷
    "pair 0 1 0 1 0 0" ∷ "pair 1 0 0 0 2 0" ∷ "end" ∷ []) ∷
    -- 08 drain: "the first goes to 0, v1 is 0, v2 its value. Else a marked await becomes none, v1 is 1."; change 4: "a drain that moves a
    -- message does too", of v3
    (three ++ join ++ send 0 1 10 ++ send 0 1 11 ++ move 1 6 ++ heed 0 1 ++ drain 1 0 ++ drain 1 0 ++ drain 1 0) prints
    (three_lines ++ join_lines ++ "15 04 0 1 0 0" ∷ "22 04 0 2 0 0" ∷ "29 06 0 6 2 1" ∷ "32 07 0 0 0 0" ∷ "35 08 0 0 10 1" ∷
    "38 08 0 0 11 2" ∷ "41 08 0 1 0 0" ∷ "pair 0 1 2 0 0 0" ∷ "end" ∷ []) ∷
    -- 09 land: "place 0 goes to 2, .. v1 messages then at place 2": behind the one drained the two that were in the arrival's list already
    (three ++ join ++ send 0 1 10 ++ move 1 6 ++ heed 0 1 ++ call 0 1 ++ route 0 1 ++ route 0 1 ++ send 0 1 11 ++ send 0 1 12 ++
    part 0 1 ++ drain 1 0 ++ drain 1 0 ++ land 1 ++ take 1 0) prints
    (three_lines ++ join_lines ++ "15 04 0 1 0 0" ∷ "22 06 0 6 2 1" ∷ "25 07 0 0 0 0" ∷ "28 02 0 5 2 0" ∷ "31 03 0 1 6 2" ∷
    "34 03 0 0 6 2" ∷ "37 04 0 2 0 0" ∷ "44 04 0 3 0 0" ∷ "51 0A 0 0 2 0" ∷ "54 08 0 0 10 1" ∷ "57 08 0 1 0 0" ∷ "60 09 0 3 0 0" ∷
    "62 05 0 10 2 1" ∷ "pair 0 1 0 0 2 0" ∷ "end" ∷ []) ∷
    -- 0A part: "place 3 goes to 2 for both directions; .. v1 messages moved towards a, v2 towards b."
    (three ++ join ++ send 0 1 10 ++ part 0 1 ++ join ++ send 0 1 11 ++ send 1 0 20 ++ send 1 0 21 ++ part 0 1) prints
    (three_lines ++ join_lines ++ "15 04 0 1 0 0" ∷ "22 0A 0 0 1 0" ∷ "25 02 0 5 2 0" ∷ "28 03 0 0 5 2" ∷ "31 04 0 2 0 0" ∷
    "38 04 0 1 0 0" ∷ "45 04 0 2 0 0" ∷ "52 0A 0 2 1 0" ∷ "pair 0 1 0 0 2 0" ∷ "pair 1 0 0 0 2 0" ∷ "end" ∷ []) ∷
    -- 0B end: "r is ended."
    (three ++ end 2 ++ look 2) prints (three_lines ++ "9 0B 0 0 0 0" ∷ "11 0C 9 0 0 0" ∷ "end" ∷ []) ∷
    -- Paper 02, change 6, 0C look: "Look now names the sender of the message sent first of all those unread by r, whatever its place.": of
    -- rank 2, though rank 1 is lower and its younger message at a lower place, and though rank 1 has an older message unread
    (three ++ join ++ call 2 0 ++ route 2 0 ++ send 0 1 5 ++ send 2 0 10 ++ send 1 0 20 ++ part 0 1 ++ look 0 ++ take 0 2 ++ look 0) prints
    (three_lines ++ join_lines ++ "15 02 0 5 1 0" ∷ "18 03 0 0 5 1" ∷ "21 04 0 1 0 0" ∷ "28 04 0 1 0 0" ∷ "35 04 0 1 0 0" ∷
    "42 0A 0 1 1 0" ∷ "45 0C 0 2 0 0" ∷ "47 05 0 10 0 1" ∷ "50 0C 0 1 0 0" ∷ "pair 0 1 0 0 1 0" ∷ "pair 1 0 0 0 1 0" ∷ "end" ∷ []) ∷ []
  where
    three : List ℕ
    three = start 0 5 ++ start 1 5 ++ start 2 6

    three_lines : List String
    three_lines = "0 01 0 5 1 0" ∷ "3 01 0 5 2 0" ∷ "6 01 0 6 1 0" ∷ []

    join : List ℕ
    join = call 0 1 ++ route 0 1

    join_lines : List String
    join_lines = "9 02 0 5 2 0" ∷ "12 03 0 0 5 2" ∷ []

pub kinds_print :
    map (λ (r : Run). printed fresh r.log) kinds_of_steps ≡ map (λ (r : Run). ascii_lines r.lines) kinds_of_steps
unfolding shown
kinds_print = all_shown kinds_of_steps

-- The same step by step, with more of the state at the end of each (protocol/specs/Values.antt).
pub kinds_step_by_step :
    (holds Values.start ≡ true) × (holds Values.call ≡ true) × (holds Values.route_there_lem ≡ true) × (holds Values.route_on_lem ≡ true) ×
    (holds Values.route_to_ended_lem ≡ true) × (holds Values.send ≡ true) × (holds Values.take ≡ true) × (holds Values.move ≡ true) ×
    (holds Values.restart ≡ true) × (holds Values.heed ≡ true) × (holds Values.drain ≡ true) × (holds Values.land ≡ true) ×
    (holds Values.part ≡ true) × (holds Values.end ≡ true) × (holds Values.look ≡ true)
kinds_step_by_step = (
  values_hold.of_start,
  values_hold.of_call_lem,
  values_hold.of_route_there,
  values_hold.of_route_on,
  values_hold.of_route_to_ended,
  values_hold.of_send,
  values_hold.of_take,
  values_hold.of_move,
  values_hold.of_restart,
  values_hold.of_heed,
  values_hold.of_drain,
  values_hold.of_land,
  values_hold.of_part,
  values_hold.of_end,
  values_hold.of_look,
)

-- "For start 0 0, start 1 1, call 0 1, route 0 1, send 0 1 500, move 1 2, send 0 1 501, heed 0 1, call 0 1, route 0 1 twice, send 0 1 502,
-- land 1, drain 1 0 three times, land 1, take 1 0", with the running numbers of paper 02, change 4
abbrev pub listing : Run
listing =
    (start 0 0 ++ start 1 1 ++ call 0 1 ++ route 0 1 ++ send 0 1 500 ++ move 1 2 ++ send 0 1 501 ++ heed 0 1 ++ call 0 1 ++
    route 0 1 ++ route 0 1 ++ send 0 1 502 ++ land 1 ++ drain 1 0 ++ drain 1 0 ++ drain 1 0 ++ land 1 ++ take 1 0) prints
    ("0 01 0 0 1 0" ∷ "3 01 0 1 1 0" ∷ "6 02 0 1 1 0" ∷ "9 03 0 0 1 1" ∷ "12 04 0 1 0 0" ∷ "19 06 0 2 1 1" ∷ "22 04 0 2 0 0" ∷
    "29 07 0 0 0 0" ∷ "32 02 0 1 1 0" ∷ "35 03 0 1 2 1" ∷ "38 03 0 0 2 1" ∷ "41 04 0 3 0 0" ∷ "48 09 19 0 0 0" ∷
    "50 08 0 0 500 1" ∷ "53 08 0 0 501 2" ∷ "56 08 0 1 0 0" ∷ "59 09 0 2 0 0" ∷ "61 05 0 500 2 1" ∷ "pair 0 1 0 0 1 1" ∷ "end" ∷ [])

pub listing_prints_so : printed fresh listing.log ≡ ascii_lines listing.lines
listing_prints_so = listing_prints

pub listing_prints_so_in_any_pieces : (ts : List Turn) → all_bytes ts ≡ listing.log →
    text_of (in_pieces 0 fresh [] ts) ≡ ascii_lines listing.lines
listing_prints_so_in_any_pieces = listing_in_pieces

-- "Input may be of any length, read through at most 65,536 bytes": a log that is read in pieces of any lengths, and of which any number of
-- records is run before more is read, prints the run of the whole.
pub printed_in_any_pieces : (ts : List Turn) →
    text_of (in_pieces 0 fresh [] ts) ≡ printed fresh (all_bytes ts)
printed_in_any_pieces ts = printed_in_pieces ts fresh fresh_sound

-- The steps that a run takes are a list of steps, and it leaves what the list leaves.
pub run_is_a_list_of_steps : (n : ℕ) (s : State) (log : List ℕ) (at : ℕ) →
    (after s (readings n s log at) ≡ (run_log n s log at).state) ×
    (map (λ (x : Reading). x.at) (readings n s log at) ≡ map (λ (a : Answered). a.at) (run_log n s log at).answers)
run_is_a_list_of_steps = readings_run

-- Demand 3 of what a run leaves whose log comes in pieces of any lengths.
pub ordering_claim_in_any_pieces : (ts : List Turn) →
    OrderingClaim (readings (length (all_bytes ts)) fresh (all_bytes ts) 0) (in_pieces 0 fresh [] ts).state
ordering_claim_in_any_pieces ts =
    let log = all_bytes ts in
    let of_pieces = ap (λ (c : Came). c.state) (sym (run_in_pieces ts fresh fresh_sound)) in
    let same = (readings_run (length log) fresh log 0).0 ∙ of_pieces in
    rw same at (ordering_claim (readings (length log) fresh log 0))

-- Demand 3 of what so many whole records of a log leave.
leaves : {read : List ℕ} {s : State} {base : ℕ} {held : List ℕ} → RunSoFar read s base held →
    (n : ℕ) × (after fresh (readings n fresh read 0) ≡ s) × (held ≡ drop base read) ×
    OrderingClaim (readings n fresh read 0) s
leaves {read} {s} x =
    let xs = readings x.steps fresh read 0 in
    let same : after fresh xs ≡ s =
    (readings_run x.steps fresh read 0).0 ∙ same_state read x.steps fresh 0 fresh_sound ∙
    ap (λ (c : Came). c.state) (sym x.ran.came) in
    (x.steps, same, x.rest, rw same at (ordering_claim xs))

-- What a program reads and writes that takes turns from the fresh state on: it reads behind what is held, an empty read is the input's end
-- and nothing else is, and it writes what each turn puts on the page.
module _ {read written : List ℕ} {s : State} {base : ℕ} {held : List ℕ} {done : Bool} (course : Course read written s base held done) where
  -- After any number of turns the state is the one that a list of steps of what was read leaves, what is held is the rest of it, and
  -- demand 3 holds of it.
  pub program_keeps_the_order : (n : ℕ) × (after fresh (readings n fresh read 0) ≡ s) × (held ≡ drop base read) ×
      OrderingClaim (readings n fresh read 0) s
  program_keeps_the_order = leaves (course_runs course)

  module _ {state : State} {held' : List ℕ} {r : Turned} {page : List ℕ} (shows : Shows s held base state held' r page) where
    -- The same behind one turn more, and so behind the last.
    pub last_turn_keeps_the_order : (n : ℕ) × (after fresh (readings n fresh read 0) ≡ state) × (held' ≡ drop r.base read) ×
        OrderingClaim (readings n fresh read 0) state
    last_turn_keeps_the_order = leaves (turn_runs (course_runs course) shows)

    -- With the last turn all that is written is the printed run of all that was read, whatever follows it.
    pub program_prints_the_run : r.next ≡ End → is_whole (decode held' 0) ≡ false → (done ≡ false → decode held' 0 ≡ Err Unknown) →
        (more : List ℕ) → (done ≡ true → more ≡ []) → written ++ ListN.take r.used page ≡ printed fresh (read ++ more)
    program_prints_the_run e whole unknown = course_ends course shows e (whole, unknown)

  -- The input is at its end only where a read gave nothing behind all that was read.
  pub end_of_input_is_an_empty_read : done ≡ true → ShortOfEnd read
  end_of_input_is_an_empty_read = end_was_read course

-- What the program `replay` does with what its calls give.

-- A read that answers with an error has failed; one that gives no byte is the input's end, and no other is.
pub what_a_read_gave : (E : Type 0) →
    ((why : E) (room : ℕ) → given_of (Err why) room ≡ None) ×
    ((room : ℕ) → given_of {E = E} (Ok 0) room ≡ Some 0) ×
    ((k room : ℕ) → given_of {E = E} (Ok (suc k)) (suc room) ≡ Some (suc (min k room)))
what_a_read_gave E = (λ why room. refl, λ room. simp unary_clauses, λ k room. simp unary_clauses)

-- What it gave is held behind what was held; only where it gave no byte the input is at its end; where it failed the program stops.
pub what_a_read_does : (at : Stage) →
    (taken_in at None ≡
    record { held = at.held; base = at.base; done = at.done; used = at.used; then = Then.Stop Ending.Unread }) ×
    (taken_in at (Some 0) ≡ record { held = at.held; base = at.base; done = true; used = at.used; then = Then.Turn }) ×
    ((n : ℕ) → taken_in at (Some (suc n)) ≡
    record { held = at.held + suc n; base = at.base; done = false; used = at.used; then = Then.Turn })
what_a_read_does at = (refl, refl, λ n. refl)

-- Behind a turn it takes another, reads, or stops; and where a write fails it stops.
pub what_a_turn_and_a_write_do :
    (then_of Again ≡ Then.Turn) × (then_of Read ≡ Then.Read) × (then_of End ≡ Then.Stop Ending.Over) ×
    (then_of TooLong ≡ Then.Stop Ending.TooLong) ×
    ((at : Stage) → (after_write at true ≡ at) ×
    (after_write at false ≡
    record { held = at.held; base = at.base; done = at.done; used = at.used; then = Then.Stop Ending.Unwritten }))
what_a_turn_and_a_write_do = (refl, refl, refl, refl, λ at. (refl, refl))

-- What it says as it ends.
pub what_replay_says :
    (words_of Ending.Over ≡ []) ×
    (words_of Ending.Unwritten ≡ ascii_lines ("replay: standard output cannot be written" ∷ [])) ×
    (words_of Ending.Unread ≡ ascii_lines ("replay: standard input cannot be read" ∷ [])) ×
    (words_of Ending.TooLong ≡ ascii_lines ("replay: standard input is too long" ∷ []))
what_replay_says = (refl, refl, refl, refl)

-- Where its loop stops because the run is over, all that was handed to the output is the printed run of all that was read, and the state is
-- that of so many whole records of it; and it stops because of the input's length from position 2^63 on alone.
module _ {at : Stage} {s : State} {buffer page : List ℕ} (runs : Runs at s buffer page) where
  pub replay_prints_the_run : at.then ≡ Then.Stop Ending.Over →
      (read : List ℕ) × (written : List ℕ) ×
      ((more : List ℕ) → (at.done ≡ true → more ≡ []) → written ≡ printed fresh (read ++ more)) ×
      (n : ℕ) × (after fresh (readings n fresh read 0) ≡ s) × (ListN.take at.held buffer ≡ drop at.base read) ×
      OrderingClaim (readings n fresh read 0) s
  replay_prints_the_run e =
      let over = runs_over runs e in
      let end = leaves over.runs in
      (over.read, over.written, over.prints, end.0, end.1, end.2, end.3)

  pub replay_stops_at_2^63 : at.then ≡ Then.Stop Ending.TooLong → 9223372036854775808 ≤ at.base
  replay_stops_at_2^63 = runs_too_long runs

-- Paper 02, change 1.

-- "a log of n records": each whole, of a known kind, with ranks and hosts in range, and behind them the log's end
pub made_up_log_is_its_records : (n word : ℕ) → Holds (MadeUp.made_log n word) n 0
made_up_log_is_its_records = made_holds

-- "The panel makers exchange faults by seed": what is written depends on the seed and the count alone.
pub equal_seeds_give_equal_logs : (word n : ℕ) (one other : List ℕ) → (makes word n one).number ≡ 0 → (makes word n other).number ≡ 0 →
    ListN.take (makes word n one).bytes (makes word n one).buffer ≡ ListN.take (makes word n other).bytes (makes word n other).buffer
equal_seeds_give_equal_logs = equal_seeds

-- A log that is made in two parts, the second from the word that the first left, is the log that is made at once.
pub made_up_log_goes_on : (word n m : ℕ) (whole first second : List ℕ) → (makes word (n + m) whole).number ≡ 0 →
    (makes word n first).number ≡ 0 → (makes (makes word n first).word m second).number ≡ 0 →
    ListN.take (makes word (n + m) whole).bytes (makes word (n + m) whole).buffer ≡
    ListN.take (makes word n first).bytes (makes word n first).buffer ++
    ListN.take (makes (makes word n first).word m second).bytes (makes (makes word n first).word m second).buffer
made_up_log_goes_on = in_two_parts

-- The program `made_up`: it has handed all of the pass to the output, or it is refused with 26, for seed zero alone, or the output failed.
pub made_up_hands_over_the_pass : (seed count : ℕ) → Ends seed count (Ok tt) →
    (seed ≡ 0 → ⊥) × (word : ℕ) × (written : List ℕ) × PassCourse.Course seed count word 0 written × (written ≡ MadeUp.made_log count seed)
made_up_hands_over_the_pass seed count h = (h.good, h.word, h.written, h.course, h.pass)

pub made_up_is_refused_for_seed_zero : (seed count : ℕ) (why : Unmade) → Ends seed count (Err (Pass.Refused why)) →
    (Maker.number why ≡ 26) × (seed ≡ 0)
made_up_is_refused_for_seed_zero seed count why h = h
