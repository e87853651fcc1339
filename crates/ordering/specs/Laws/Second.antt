-- The second half of the ordering claim: the second list, step by step along the first, and what the two lists leave.
-- Assumes nothing.
use Rattle.std.specs.Prelude.{◌≡◌, refl, Bool, true, List, [], ◌∷◌, ℕ, Ok}
use Rattle.std.proofs.Common.{sym, ap, subst, ◌∙◌}
use Rattle.std.proofs.Math.Option.{none}
use Rattle.std.proofs.lemmas.Bool.{not-true}
use Rattle.std.proofs.lemmas.List.{get_or-replicate}
use Rattle.base.specs.Laws.Tests.{both_left, both_right}
use Rattle.transit.specs.Message.{ranks, cells}
use Rattle.protocol.specs.Checks.{refusal}
use Rattle.protocol.proofs.Laws.Alike.{settled_unless_migrating, status_alike, same_standings}
use Rattle.protocol.specs.Laws.Core.{core, core_step, values_between, unread_each}
use Rattle.protocol.proofs.Laws.CoreStep.{core_step_lem}
use Rattle.protocol.proofs.Laws.Quiet.{Quiet}
use Rattle.protocol.specs.Laws.Ranks.{every_rank_at}
use Rattle.protocol.specs.Laws.State.{cell_below}
use Rattle.broker.specs.Names.{is_migrating}
use Rattle.record.specs.Record.{decode}
use Rattle.protocol.specs.Sound.{sound}
use Rattle.broker.specs.State.{State, idle, apart, cell, fresh, status}
use Rattle.protocol.specs.Step.{apply}
use Rattle.broker.specs.declared.process.Process.{Process}
use Rattle.record.specs.declared.Record.{Record}
use Rattle.record.specs.declared.Record.TheVariants.{Start, Call, Route, Send, Take, Move, Heed, Drain, Land, Part, End, Look}
use Rattle.ordering.specs.Claim.{Reading, is_bytes, are_bytes, Entry, after, accepted, taken, five_kinds, SecondHalf}
use Rattle.ordering.specs.Laws.Following.{Following, nothing_follows, follows_as}
use Rattle.ordering.specs.Laws.Runs.{fresh_sound, entry, taken_cons, five_cons, along_readings, sound_after}
use Rattle.ordering.specs.Laws.Sends.{send_stands}
use Rattle.ordering.specs.Laws.Stands.{Standing, nothing_stands, start_stands, take_stands, move_stands, end_stands}

-- What stands for any accepted step.
stands :
    (s q : State) (x : Reading) (r : Record) (next : ℕ) →
    sound s ≡ true →
    Quiet q →
    core q ≡ core s →
    decode x.log x.at ≡ Ok (r, next) →
    refusal s r ≡ none →
    Standing s q x r
stands s q x (Start r h) next hs quiet same reads p = start_stands s q x next quiet same r h reads p
stands s q x (Call a b) next hs quiet same reads p = nothing_stands s q x (Call a b) quiet refl refl (λ c d. refl)
stands s q x (Route a b) next hs quiet same reads p = nothing_stands s q x (Route a b) quiet refl refl (λ c d. refl)
stands s q x (Send a b v) next hs quiet same reads p = send_stands s a b v hs p q x next quiet same reads
stands s q x (Take b a) next hs quiet same reads p = take_stands s q x next quiet same b a hs reads p
stands s q x (Move r h) next hs quiet same reads p = move_stands s q x next quiet same r h reads p
stands s q x (Heed b r) next hs quiet same reads p = nothing_stands s q x (Heed b r) quiet refl refl (λ c d. refl)
stands s q x (Drain r t) next hs quiet same reads p = nothing_stands s q x (Drain r t) quiet refl refl (λ c d. refl)
stands s q x (Land r) next hs quiet same reads p = nothing_stands s q x (Land r) quiet refl refl (λ c d. refl)
stands s q x (Part a b) next hs quiet same reads p = nothing_stands s q x (Part a b) quiet refl refl (λ c d. refl)
stands s q x (End r) next hs quiet same reads p = end_stands s q x next quiet same r reads p
stands s q x (Look r) next hs quiet same reads p = nothing_stands s q x (Look r) quiet refl refl (λ c d. refl)

-- from any quiet state with the core of s, a list with the five kinds and the takes of the entries, that leaves the core of the end; in
-- bytes, where the readings are
abbrev Followed : List Reading → State → List Entry → State → Type 0
Followed xs s es end =
    (in_bytes : Bool) →
    (in_bytes ≡ true → are_bytes xs ≡ true) →
    (q : State) →
    Quiet q →
    core q ≡ core s →
    Following in_bytes none q (five_kinds es) (λ a b. taken a b es) (core end)

step_followed :
    (s : State) (x : Reading) (r : Record) (next : ℕ) →
    sound s ≡ true →
    decode x.log x.at ≡ Ok (r, next) →
    refusal s r ≡ none →
    (xs : List Reading) (es : List Entry) (end : State) →
    Followed xs (apply r s).state es end →
    Followed (x ∷ xs) s (entry r s ∷ es) end
step_followed s x r next h reads p xs es end rest in_bytes bytes q quiet same =
    let e = entry r s in
    let now = stands s q x r next h quiet same reads p in
    let here : in_bytes ≡ true → is_bytes x ≡ true = λ t. both_left (is_bytes x) (are_bytes xs) (bytes t) in
    let later : in_bytes ≡ true → are_bytes xs ≡ true = λ t. both_right (is_bytes x) (are_bytes xs) (bytes t) in
    let same' = now.alike ∙ ap (core_step r) same ∙ sym (core_step_lem s r h p) in
    rw (five_cons e es)
    (follows_as (λ a b. sym (taken_cons a b e es))
    (now.follows in_bytes here (five_kinds es) (λ a b. taken a b es) (core end) (rest in_bytes later now.then now.quiet same')))

-- Every list from a sound state is followed.
followed : (xs : List Reading) (s : State) → sound s ≡ true → Followed xs s (accepted s xs) (after s xs)
followed =
    along_readings Followed
    (λ s h in_bytes bytes q quiet same. subst (Following in_bytes none q [] (λ a b. [])) same (nothing_follows in_bytes q quiet))
    (λ x xs s es end rest in_bytes bytes. rest in_bytes (λ t. both_right (is_bytes x) (are_bytes xs) (bytes t)))
    step_followed

-- The fresh state is quiet.
fresh_quiet : Quiet fresh
fresh_quiet =
    record {
      is_sound = fresh_sound;
      calm =
          record {
            processes_long = refl;
            links_long = refl;
            migrating = λ r hr. ap (λ (p : Process). is_migrating p.status) (get_or-replicate ranks r.0 idle idle hr);
            requests = λ r hr. ap (λ (p : Process). p.request) (get_or-replicate ranks r.0 idle idle hr);
            links = λ a b ha hb. get_or-replicate cells (cell a b) apart apart (cell_below a b ha hb);
          };
    }

pub second_half : SecondHalf
second_half xs landed =
    let f = followed xs fresh fresh_sound (are_bytes xs) (λ t. t) fresh fresh_quiet refl in
    let end = after fresh xs in
    let end' = after fresh f.list in
    record {
      list = f.list;
      bytes = f.bytes;
      all_accepted = f.all_accepted;
      moves_unbroken = f.moves_unbroken;
      same_steps = f.same_five;
      same_taken = f.same_taken;
      same_unread =
          λ a b ha hb.
          unread_each (λ m. m.value) (λ m. refl) end' a b f.ends_quiet.is_sound ha hb ∙
          ap (values_between a b) f.ends_alike ∙
          sym (unread_each (λ m. m.value) (λ m. refl) end a b (sound_after xs fresh fresh_sound) ha hb);
      same_status =
          λ r hr.
          status_alike end end' (same_standings f.ends_alike) f.ends_quiet.calm r hr ∙
          settled_unless_migrating (status end r) (not-true (is_migrating (status end r)) (every_rank_at _ landed r hr));
    }
