-- What stands in the second list for one accepted step of the first: nothing, the step itself, or a move and its landing at once. What
-- stands for a send is `Sends`. Assumes nothing.
use Rattle.std.specs.Prelude.{◌≡◌, Bool, true, ℕ, ◌<◌, Ok}
use Rattle.std.proofs.Math.Path.{refl, sym, ap}
use Rattle.std.proofs.Common.{◌∙◌, arith, lt-ltb}
use mathlib.Core.List.{List, [], ◌∷◌, ◌++◌, head-eq_of_cons-eq}
use Rattle.std.proofs.Math.Option.{none, some}
use Rattle.base.specs.Laws.Tests.{both}
use Rattle.transit.specs.declared.Rank.{Rank}
use Rattle.protocol.specs.Checks.{refusal}
use Rattle.record.specs.Kind
use Rattle.protocol.proofs.Laws.Accepted.{start_fits, take_fits, move_fits, end_fits}
use Rattle.protocol.proofs.Laws.Alike.{start_again, take_again, move_again, end_again, land_after}
use Rattle.protocol.specs.Laws.Core.{Core, core, core_step, values_between, sequences_between}
use Rattle.protocol.proofs.Laws.CoreStep.{core_step_lem, take_value, take_sequence}
use Rattle.protocol.proofs.Laws.Kept.{sound_kept}
use Rattle.protocol.proofs.Laws.Quiet.{AllQuiet, Moving, Quiet, start_calm, take_calm, end_calm, move_calm, land_calm}
use Rattle.protocol.specs.Laws.State.{same_rank_self}
use Rattle.transit.specs.Message.{ranks}
use Rattle.record.specs.Record.{decode, record_of}
use Rattle.protocol.specs.Sound.{sound}
use Rattle.broker.specs.State.{State}
use Rattle.protocol.specs.Step.{apply}
use Rattle.record.specs.declared.Record.{Record}
use Rattle.record.specs.declared.Record.TheVariants.{Start, Take, Move, Land, End}
use Rattle.ordering.specs.Claim.{Reading, is_byte, is_bytes, taken, five_kinds}
use Rattle.ordering.specs.Laws.Following.{Following, Leads, step_follows, follows_as}
use Rattle.ordering.specs.Laws.Runs.{entry}

-- a log of one record, read at its start, that names one rank, or two
abbrev pub of_one : ℕ → Rank → Reading
of_one kind r = record { log = kind ∷ r.0 ∷ []; at = 0 }

abbrev pub of_two : ℕ → Rank → Rank → Reading
of_two kind a b = record { log = kind ∷ a.0 ∷ b.0 ∷ []; at = 0 }

-- Such logs are bytes.
rank_is_byte : (r : Rank) → r.0 < ranks → is_byte r.0 ≡ true
rank_is_byte r hr = lt-ltb r.0 _ (omega arith)

module _ (kind : ℕ) (known : is_byte kind ≡ true) where
  pub one_is_bytes : (r : Rank) → r.0 < ranks → is_bytes (of_one kind r) ≡ true
  one_is_bytes r hr = both known (both (rank_is_byte r hr) refl)

  pub two_is_bytes : (a b : Rank) → a.0 < ranks → b.0 < ranks → is_bytes (of_two kind a b) ≡ true
  two_is_bytes a b ha hb = both known (both (rank_is_byte a ha) (both (rank_is_byte b hb) refl))

-- what stands for a record that s accepts: from q to a quiet state, whose core is changed as the record changes it
pub record Standing (s q : State) (x : Reading) (r : Record) : Type 0 where
  pub then : State
  pub quiet : Quiet then
  pub alike : core then ≡ core_step r (core q)
  pub follows :
      (in_bytes : Bool) →
      (in_bytes ≡ true → is_bytes x ≡ true) →
      (five : List Record) (takes : Rank → Rank → List ℕ) (c : Core) →
      Following in_bytes none then five takes c →
      Following
      in_bytes
      none
      q
      (five_kinds (entry r s ∷ []) ++ five)
      (λ a b. taken a b (entry r s ∷ []) ++ takes a b)
      c

-- Nothing stands for a record that leaves the core and is none of the five.
pub nothing_stands :
    (s q : State) (x : Reading) (r : Record) →
    Quiet q →
    core_step r (core q) ≡ core q →
    five_kinds (entry r s ∷ []) ≡ [] →
    ((a b : Rank) → taken a b (entry r s ∷ []) ≡ []) →
    Standing s q x r
nothing_stands s q x r quiet same five takes =
    record {
      then = q;
      quiet = quiet;
      alike = sym same;
      follows = λ in_bytes bytes fs ts c f. rw five (follows_as (λ a b. rw (takes a b)) f);
    }

-- A state that is calm behind an accepted record is quiet.
pub quiet_after :
    (q : State) (r : Record) →
    sound q ≡ true →
    refusal q r ≡ none →
    AllQuiet (apply r q).state →
    Quiet (apply r q).state
quiet_after q r h p calm = record { is_sound = sound_kept q r h p; calm = calm }

module _ (s q : State) (x : Reading) (next : ℕ) (quiet : Quiet q) (same : core q ≡ core s) where
  -- The record stands as it is, where it is accepted from q, leaves all calm, and takes what it takes from s.
  itself_stands :
      (r : Record) →
      decode x.log x.at ≡ Ok (r, next) →
      refusal q r ≡ none →
      Leads none r none →
      ((a b : Rank) → taken a b (entry r q ∷ []) ≡ taken a b (entry r s ∷ [])) →
      AllQuiet (apply r q).state →
      Standing s q x r
  itself_stands r reads p leads takes calm =
      record {
        then = (apply r q).state;
        quiet = quiet_after q r quiet.is_sound p calm;
        alike = core_step_lem q r quiet.is_sound p;
        follows =
            λ in_bytes bytes fs ts c f.
            follows_as (λ a b. ap (λ (l : List ℕ). l ++ ts a b) (takes a b))
            (step_follows q x r next bytes reads quiet.is_sound p leads f);
      }

  pub start_stands :
      (r : Rank) (h : ℕ) →
      decode x.log x.at ≡ Ok (Start r h, next) →
      refusal s (Start r h) ≡ none →
      Standing s q x (Start r h)
  unfolding apply
  start_stands r h reads p =
      itself_stands (Start r h) reads (start_again s q same quiet.calm r h p) (λ l. refl) (λ a b. refl)
      (start_calm q r h quiet.calm (start_fits s r h p).in_range)

  pub end_stands : (r : Rank) → decode x.log x.at ≡ Ok (End r, next) → refusal s (End r) ≡ none → Standing s q x (End r)
  unfolding apply
  end_stands r reads p =
      itself_stands (End r) reads (end_again s q same quiet.calm r p) (λ l. refl) (λ a b. refl)
      (end_calm q r quiet.calm (end_fits s r p).one.in_range)

  -- A take answers the same value and the same running number from both.
  pub take_stands :
      (b a : Rank) →
      sound s ≡ true →
      decode x.log x.at ≡ Ok (Take b a, next) →
      refusal s (Take b a) ≡ none →
      Standing s q x (Take b a)
  unfolding apply
  take_stands b a hs reads p =
      let p' = take_again s q same quiet.calm b a p in
      let here = take_fits q b a p' in
      let there = take_fits s b a p in
      let v1 = take_value q b a quiet.is_sound here ∙ ap (values_between a b) same ∙ sym (take_value s b a hs there) in
      let v3 = take_sequence q b a quiet.is_sound here ∙ ap (sequences_between a b) same ∙ sym (take_sequence s b a hs there) in
      itself_stands (Take b a) reads p' (λ l. refl) (λ c d. rw (head-eq_of_cons-eq v1, head-eq_of_cons-eq v3))
      (take_calm q b a quiet.calm)

  -- No line stands when the rank moves, so that it lands at once.
  pub move_stands :
      (r : Rank) (h : ℕ) →
      decode x.log x.at ≡ Ok (Move r h, next) →
      refusal s (Move r h) ≡ none →
      Standing s q x (Move r h)
  unfolding apply decode record_of
  move_stands r h reads p =
      let p' = move_again s q same quiet.calm r h p in
      let hr = (move_fits s r h p).one.in_range in
      let q' = (apply (Move r h) q).state in
      let h' = sound_kept q (Move r h) quiet.is_sound p' in
      let moving : Moving q' r = move_calm q r h quiet.calm hr in
      let lands = land_after q' r hr moving in
      record {
        then = (apply (Land r) q').state;
        quiet = quiet_after q' (Land r) h' lands (land_calm q' r moving hr);
        alike = core_step_lem q' (Land r) h' lands ∙ core_step_lem q (Move r h) quiet.is_sound p';
        follows =
            λ in_bytes bytes fs ts c f.
            step_follows {then = some r} q x (Move r h) next bytes reads quiet.is_sound p' (λ l. refl)
            (step_follows q' (of_one Kind.land r) (Land r) 2 (λ t. one_is_bytes Kind.land refl r hr) refl h' lands
            (λ l. rw (same_rank_self r)) f);
      }
