-- Lists of accepted steps from a state, built from the back: what they share with another list, and that they end quiet.
-- Assumes nothing.
use Rattle.std.specs.Prelude.{◌≡◌, refl, Bool, true, List, [], ◌∷◌, ◌++◌, ℕ, Ok}
use Rattle.std.proofs.Common.{sym, ap, subst, ◌∙◌}
use Rattle.std.proofs.Math.Option.{Option, none}
use Rattle.base.specs.Laws.Tests.{both}
use Rattle.transit.specs.declared.Rank.{Rank}
use Rattle.protocol.specs.Checks.{refusal}
use Rattle.protocol.specs.Laws.Core.{Core, core}
use Rattle.protocol.proofs.Laws.Quiet.{Quiet}
use Rattle.protocol.proofs.Laws.Step.{step_accepted}
use Rattle.record.specs.Record.{decode}
use Rattle.protocol.specs.Sound.{sound}
use Rattle.broker.specs.State.{State}
use Rattle.protocol.specs.Step.{apply}
use Rattle.record.specs.declared.Record.{Record}
use Rattle.ordering.specs.Claim.{
  Reading,
  Entry,
  after,
  accepted,
  every_accepted,
  records,
  taken,
  five_kinds,
  unbroken,
  is_bytes,
  are_bytes,
}
use Rattle.ordering.specs.Laws.Runs.{entry, taken_cons, five_cons, carried_enters, carried_leaves}

-- a list of accepted steps from q, where a move of the given rank is open: its moves are unbroken, its steps of the five kinds and its
-- takes are these, it ends quiet, with this core, and its logs are bytes where the first list's are
pub record Following
    (in_bytes : Bool)
    (moving : Option Rank)
    (q : State)
    (five : List Record)
    (takes : Rank → Rank → List ℕ)
    (c : Core)
    : Type 0 where
  pub list : List Reading
  pub bytes : in_bytes ≡ true → are_bytes list ≡ true
  pub all_accepted : every_accepted q list ≡ true
  pub moves_unbroken : unbroken moving (records (accepted q list)) ≡ true
  pub same_five : five_kinds (accepted q list) ≡ five
  pub same_taken : (a b : Rank) → taken a b (accepted q list) ≡ takes a b
  pub ends_quiet : Quiet (after q list)
  pub ends_alike : core (after q list) ≡ c

-- No steps.
pub nothing_follows : (in_bytes : Bool) (q : State) → Quiet q → Following in_bytes none q [] (λ a b. []) (core q)
nothing_follows in_bytes q quiet =
    record {
      list = [];
      bytes = λ t. refl;
      all_accepted = refl;
      moves_unbroken = refl;
      same_five = refl;
      same_taken = λ a b. refl;
      ends_quiet = quiet;
      ends_alike = refl;
    }

-- The same list where its takes are named in another way.
pub follows_as :
    {in_bytes : Bool} {moving : Option Rank} {q : State} {five : List Record} {takes takes' : Rank → Rank → List ℕ} {c : Core} →
    ((a b : Rank) → takes a b ≡ takes' a b) →
    Following in_bytes moving q five takes c →
    Following in_bytes moving q five takes' c
follows_as e f =
    record {
      list = f.list;
      bytes = f.bytes;
      all_accepted = f.all_accepted;
      moves_unbroken = f.moves_unbroken;
      same_five = f.same_five;
      same_taken = λ a b. f.same_taken a b ∙ e a b;
      ends_quiet = f.ends_quiet;
      ends_alike = f.ends_alike;
    }

-- a record that may stand where the one move is open, and leaves the other open
abbrev pub Leads : Option Rank → Record → Option Rank → Type 0
Leads moving r then = (l : List Record) → unbroken moving (r ∷ l) ≡ unbroken then l

-- One accepted step in front.
module _
    {in_bytes : Bool}
    {moving then : Option Rank}
    {five : List Record}
    {takes : Rank → Rank → List ℕ}
    {c : Core}
    (q : State)
    (x : Reading)
    (r : Record)
    (next : ℕ)
  where
    pub step_follows :
        (in_bytes ≡ true → is_bytes x ≡ true) →
        decode x.log x.at ≡ Ok (r, next) →
        sound q ≡ true →
        refusal q r ≡ none →
        Leads moving r then →
        Following in_bytes then (apply r q).state five takes c →
        Following
        in_bytes
        moving
        q
        (five_kinds (entry r q ∷ []) ++ five)
        (λ a b. taken a b (entry r q ∷ []) ++ takes a b)
        c
    step_follows bytes reads h p leads f =
        let e = entry r q in
        let es = accepted (apply r q).state f.list in
        let enters = carried_enters q x f.list r next h reads p in
        let leaves = carried_leaves q x f.list r next h reads p in
        record {
          list = x ∷ f.list;
          bytes = λ t. both (bytes t) (f.bytes t);
          all_accepted = rw (step_accepted q x.log x.at r next h reads p) f.all_accepted;
          moves_unbroken = ap (λ (l : List Entry). unbroken moving (records l)) enters ∙ leads (records es) ∙ f.moves_unbroken;
          same_five = ap five_kinds enters ∙ five_cons e es ∙ ap (λ (l : List Record). five_kinds (e ∷ []) ++ l) f.same_five;
          same_taken =
              λ a b. ap (taken a b) enters ∙ taken_cons a b e es ∙ ap (λ (l : List ℕ). taken a b (e ∷ []) ++ l) (f.same_taken a b);
          ends_quiet = subst Quiet (sym leaves) f.ends_quiet;
          ends_alike = ap core leaves ∙ f.ends_alike;
        }
