-- What a worked run comes to, and what is read from it: what each pair sent, took and has unread, and that a list is a second list.
-- Assumes nothing.
use Rattle.std.specs.Prelude.{◌≡◌, Bool, true, ◌&&◌, List, [], ◌∷◌, ◌++◌, map, ℕ, get_or, None}
use Rattle.std.proofs.Common.{sym, ap, ◌∙◌}
use Rattle.std.proofs.Math.Option.{none}
use Rattle.base.specs.Laws.Lists.{select_select}
use Rattle.base.specs.Lists.{select}
use Rattle.transit.specs.Message.{is_same_rank, place_order}
use Rattle.transit.specs.declared.Message.{Message}
use Rattle.transit.specs.declared.Rank.{Rank}
use Rattle.transit.specs.declared.Selection.TheVariants.{Between}
use Rattle.record.specs.Parts.{is, of_two}
use Rattle.record.specs.Kind
use Rattle.record.specs.Record.{bytes_of}
use Rattle.broker.specs.State.{idle, fresh, messages}
use Rattle.broker.specs.declared.process.Process.{Process}
use Rattle.broker.specs.declared.process.Status.{Status}
use Rattle.record.specs.declared.Record.{Record}
use Rattle.record.specs.declared.Record.TheVariants.{Start, Call, Route, Send, Take, Move, Heed, Drain, Land, Part, End, Look}
use Rattle.ordering.specs.Worked.Account.{Account, account}
use Rattle.ordering.specs.Claim.{
  Reading,
  Entry,
  SecondList,
  are_bytes,
  after,
  accepted,
  every_accepted,
  records,
  five_kinds,
  unbroken,
  sent,
  taken,
  unread,
}

-- what a list comes to: its accepted steps, and the processes and the unread messages in the state that it leaves
pub record Result : Type 0 where
  pub steps : List Entry
  pub processes : List Process
  pub holds : List Message

abbrev pub brief : Account → Result
brief t = record { steps = t.steps; processes = t.end.processes; holds = messages t.end }

abbrev pub result : List Reading → Result
result xs = brief (account fresh xs)

-- from a to b: what was taken, what is unread and what was sent; the first two make the third
pub record Balance (xs : List Reading) (a b : Rank) (t u s : List ℕ) : Type 0 where
  pub taken_is : taken a b (accepted fresh xs) ≡ t
  pub unread_is : unread a b (after fresh xs) ≡ u
  pub sent_is : sent a b (accepted fresh xs) ≡ s
  pub adds_up : t ++ u ≡ s

-- A balance is read from the result.
pub balance :
    (xs : List Reading) (r : Result) →
    result xs ≡ r →
    (a b : Rank) (t u s : List ℕ) →
    taken a b r.steps ≡ t →
    map (λ (m : Message). m.value) (place_order (Between a b) r.holds) ≡ u →
    sent a b r.steps ≡ s →
    t ++ u ≡ s →
    Balance xs a b t u s
balance xs r e a b t u s et eu es sum =
    record {
      taken_is = ap (λ (q : Result). taken a b q.steps) e ∙ et;
      unread_is = ap (λ (q : Result). map (λ (m : Message). m.value) (place_order (Between a b) q.holds)) e ∙ eu;
      sent_is = ap (λ (q : Result). sent a b q.steps) e ∙ es;
      adds_up = sum;
    }

-- What is taken depends on the takes alone.
abbrev is_taking : Entry → Bool
is_taking e = is (Kind.take ∷ []) e.read

abbrev from_to : Rank → Rank → Entry → Bool
from_to a b e = of_two (λ y x. is_same_rank x a && is_same_rank y b) e.read

taken_of_takes :
    (a b : Rank) (es : List Entry) → map (λ (e : Entry). e.v1) (select (from_to a b) (select is_taking es)) ≡ taken a b es
taken_of_takes a b es = ap (map (λ (e : Entry). e.v1)) (select_select is_taking (from_to a b) es)

-- So is a second list, from its own result and the first one's.
pub second :
    (xs ys : List Reading) (r q : Result) →
    result xs ≡ r →
    result ys ≡ q →
    are_bytes ys ≡ true →
    every_accepted fresh ys ≡ true →
    unbroken none (records q.steps) ≡ true →
    five_kinds q.steps ≡ five_kinds r.steps →
    select is_taking q.steps ≡ select is_taking r.steps →
    q.holds ≡ r.holds →
    q.processes ≡ r.processes →
    SecondList xs
second xs ys r q there here bytes all moves five took holds processes =
    let same_holds = ap (λ (p : Result). p.holds) here ∙ holds ∙ sym (ap (λ (p : Result). p.holds) there) in
    let same_values : (a b : Rank) → taken a b q.steps ≡ taken a b r.steps =
    λ a b. rw (← taken_of_takes a b q.steps, took) (taken_of_takes a b r.steps) in
    let same_processes = ap (λ (p : Result). p.processes) here ∙ processes ∙ sym (ap (λ (p : Result). p.processes) there) in
    record {
      list = ys;
      bytes = λ first. bytes;
      all_accepted = all;
      moves_unbroken = ap (λ (p : Result). unbroken none (records p.steps)) here ∙ moves;
      same_steps =
          ap (λ (p : Result). five_kinds p.steps) here ∙ five ∙ sym (ap (λ (p : Result). five_kinds p.steps) there);
      same_taken =
          λ a b. ap (λ (p : Result). taken a b p.steps) here ∙ same_values a b ∙ sym (ap (λ (p : Result). taken a b p.steps) there);
      same_unread = λ a b ha hb. ap (λ (ms : List Message). map (λ (m : Message). m.value) (place_order (Between a b) ms)) same_holds;
      same_status = λ r hr. ap (λ (ps : List Process). (get_or ps r.0 idle).status) same_processes;
    }

-- a record that is a whole log; an accepted record with its v1 and v3; and a process with no call
abbrev pub whole : List ℕ → Reading
whole log = record { log = log; at = 0 }

abbrev pub did : Record → ℕ → ℕ → Entry
did r v1 v3 = record { read = r; v1 = v1; v3 = v3 }

abbrev pub process : Status → Process
process t = record { status = t; request = None }

-- the bytes of a record; and the readings of a list of records, each a whole log
abbrev pub written : Record → List ℕ
written (Start r h) = Kind.start ∷ r.0 ∷ h ∷ []
written (Call a b) = Kind.call ∷ a.0 ∷ b.0 ∷ []
written (Route a b) = Kind.route ∷ a.0 ∷ b.0 ∷ []
written (Send a b v) = Kind.send ∷ a.0 ∷ b.0 ∷ bytes_of v
written (Take b a) = Kind.take ∷ b.0 ∷ a.0 ∷ []
written (Move r h) = Kind.move ∷ r.0 ∷ h ∷ []
written (Heed b r) = Kind.heed ∷ b.0 ∷ r.0 ∷ []
written (Drain r p) = Kind.drain ∷ r.0 ∷ p.0 ∷ []
written (Land r) = Kind.land ∷ r.0 ∷ []
written (Part a b) = Kind.part ∷ a.0 ∷ b.0 ∷ []
written (End r) = Kind.end ∷ r.0 ∷ []
written (Look r) = Kind.look ∷ r.0 ∷ []

abbrev pub readings : List Entry → List Reading
readings = map (λ (e : Entry). whole (written e.read))
