-- The ordering claim, demand 3: one claim about a whole list of steps. Paper 01, "Lists of steps".
-- Each part has a name under the sentence that it transcribes; the last definition is the claim. Assumes nothing.
use Rattle.std.specs.Prelude.{◌≡◌, Bool, true, false, not, cond, ◌&&◌, ◌||◌, List, [], ◌∷◌, ◌++◌, map, ℕ, ◌<◌, ltb, get_or, Result, Ok, Err}
use Rattle.std.proofs.Math.Option.{Option, none, some}
use Rattle.answer.specs.declared.Refusal.{Refusal}
use Rattle.answer.specs.declared.Values.{Values}
use Rattle.base.specs.Lists.{select, every}
use Rattle.transit.specs.Message.{is_same_rank, place_order, ranks}
use Rattle.transit.specs.declared.Message.{Message}
use Rattle.transit.specs.declared.Rank.{Rank}
use Rattle.transit.specs.declared.Selection.TheVariants.{Between}
use Rattle.record.specs.Parts.{ranks_in, values_in, is, first_rank, of_first, of_two}
use Rattle.record.specs.Kind
use Rattle.broker.specs.Names.{is_migrating}
use Rattle.broker.specs.Ranks.{every_rank}
use Rattle.record.specs.Record.{decode, Decoded}
use Rattle.broker.specs.State.{State, fresh, status, messages}
use Rattle.protocol.specs.Step.{Outcome, step}
use Rattle.record.specs.declared.Fault.TheVariants.{Unknown, Cut}
use Rattle.record.specs.declared.Record.{Record}

-- Lists of steps.

-- "Each step reads any log at any position"
pub record Reading : Type 0 where
  pub log : List ℕ
  pub at : ℕ

abbrev pub step_at : State → Reading → Outcome
step_at s x = step s x.log x.at

-- "each step is lent the state that the one before left, and nobody else writes it meanwhile": the state that a list leaves
abbrev pub after : State → List Reading → State
after s [] = s
after s (x ∷ xs) = after (step_at s x).state xs

-- "A step answered without a refusal number is accepted."
abbrev pub is_accepted : Result Values Refusal → Bool
is_accepted (Ok v) = true
is_accepted (Err n) = false

abbrev pub every_accepted : State → List Reading → Bool
every_accepted s [] = true
every_accepted s (x ∷ xs) = is_accepted (step_at s x).answer && every_accepted (step_at s x).state xs

-- an accepted step: the record that it read, and v1 and v3 of its answer
pub record Entry : Type 0 where
  pub read : Record
  pub v1 : ℕ
  pub v3 : ℕ

-- the entry of a step that answered so to what stood at its position; only a whole record is ever accepted
abbrev pub entry_of : Result Values Refusal → Decoded → List Entry
entry_of (Ok v) (Ok (r, next)) = record { read = r; v1 = v.0; v3 = v.2 } ∷ []
entry_of (Ok v) (Err Unknown) = []
entry_of (Ok v) (Err Cut) = []
entry_of (Err n) d = []

-- the accepted steps of a list, in list order
abbrev pub accepted : State → List Reading → List Entry
accepted s [] = []
accepted s (x ∷ xs) =
    entry_of (step_at s x).answer (decode x.log x.at) ++ accepted (step_at s x).state xs

abbrev pub records : List Entry → List Record
records es = map (λ (e : Entry). e.read) es

-- What was sent, what was taken, and what is unread, from a to b.

-- a send a b, and a take b a
abbrev pub is_send : Rank → Rank → Entry → Bool
is_send a b e = is (Kind.send ∷ []) e.read && of_two (λ x y. is_same_rank x a && is_same_rank y b) e.read

abbrev pub is_take : Rank → Rank → Entry → Bool
is_take a b e = is (Kind.take ∷ []) e.read && of_two (λ y x. is_same_rank x a && is_same_rank y b) e.read

-- the value in the body of a send
abbrev pub value_in : Record → ℕ
value_in r = get_or (values_in r) 0 0

-- "the values sent are those of the accepted sends a b .. in list order"
abbrev pub sent : Rank → Rank → List Entry → List ℕ
sent a b es = map (λ (e : Entry). value_in e.read) (select (is_send a b) es)

-- "the values taken are v1 of the accepted takes b a .. in list order"
abbrev pub taken : Rank → Rank → List Entry → List ℕ
taken a b es = map (λ (e : Entry). e.v1) (select (is_take a b) es)

-- "the unread are those in the state at the end": their values in place order, "by place and then by sending"
abbrev pub unread : Rank → Rank → State → List ℕ
unread a b s = map (λ (m : Message). m.value) (place_order (Between a b) (messages s))

-- The first half: what was taken, and after it what is unread, is what was sent.
abbrev pub FirstHalf : Type 0
FirstHalf =
    (xs : List Reading) (a b : Rank) →
    a.0 < ranks →
    b.0 < ranks →
    taken a b (accepted fresh xs) ++ unread a b (after fresh xs) ≡ sent a b (accepted fresh xs)

-- The second list.

-- "A move is open from its accepted 06 until its accepted 09": while it is, its rank migrates, and no other rank does (`Laws/Open`)
abbrev pub no_move_open : State → Bool
no_move_open s = every_rank (λ r. not (is_migrating (status s r)))

-- "starts, moves, sends, takes and ends with the same kinds and bodies, in one order over all five"
abbrev pub is_five : Record → Bool
is_five r = is (Kind.start ∷ Kind.move ∷ Kind.send ∷ Kind.take ∷ Kind.end ∷ []) r

abbrev pub five_kinds : List Entry → List Record
five_kinds es = select is_five (records es)

-- "Between a move of r and its landing stand only heeds with r as second rank and drains with r as first"
abbrev pub stands_inside : Rank → Record → Bool
stands_inside r x =
    is (Kind.heed ∷ []) x && of_two (λ b p. is_same_rank p r) x || is (Kind.drain ∷ []) x && of_first (λ p. is_same_rank p r) x

-- "calls, routes and parts may stand anywhere else", and with them the first list's starts, sends, takes and ends
abbrev pub stands_outside : Record → Bool
stands_outside x =
    is (Kind.start ∷ Kind.call ∷ Kind.route ∷ Kind.send ∷ Kind.take ∷ Kind.part ∷ Kind.end ∷ []) x

-- every move is landed before another begins, with nothing else between; the rank is that of the open move
abbrev pub unbroken : Option Rank → List Record → Bool
unbroken none [] = true
unbroken (some r) [] = false
unbroken none (x ∷ xs) =
    cond (is (Kind.move ∷ []) x) (unbroken (first_rank (ranks_in x)) xs) (stands_outside x && unbroken none xs)
unbroken (some r) (x ∷ xs) =
    cond (is (Kind.land ∷ []) x) (of_first (λ p. is_same_rank p r) x && unbroken none xs) (stands_inside r x && unbroken (some r) xs)

-- "One byte of kind, then a body .. Ranks and hosts are one byte each; the value is four bytes": a log is a list of bytes
abbrev pub is_byte : ℕ → Bool
is_byte n = ltb n 256

abbrev pub is_bytes : Reading → Bool
is_bytes x = every is_byte x.log

abbrev pub are_bytes : List Reading → Bool
are_bytes xs = every is_bytes xs

-- a second list for a list: it can be carried out as it stands, its moves are unbroken, and nobody can tell the two apart
pub record SecondList (xs : List Reading) : Type 0 where
  pub list : List Reading
  -- it reads lists of bytes, where the first list does
  pub bytes : are_bytes xs ≡ true → are_bytes list ≡ true
  pub all_accepted : every_accepted fresh list ≡ true
  pub moves_unbroken : unbroken none (records (accepted fresh list)) ≡ true
  pub same_steps : five_kinds (accepted fresh list) ≡ five_kinds (accepted fresh xs)
  pub same_taken : (a b : Rank) → taken a b (accepted fresh list) ≡ taken a b (accepted fresh xs)
  pub same_unread : (a b : Rank) → a.0 < ranks → b.0 < ranks → unread a b (after fresh list) ≡ unread a b (after fresh xs)
  -- "Standing, and host and number of the current end (of the last vmid for an ended rank, none for an unstarted one)": a status is all
  -- of it
  pub same_status : (r : Rank) → r.0 < ranks → status (after fresh list) r ≡ status (after fresh xs) r

-- The second half: a list that leaves no move open has a second list.
abbrev pub SecondHalf : Type 0
SecondHalf = (xs : List Reading) → no_move_open (after fresh xs) ≡ true → SecondList xs

-- The ordering claim.
pub record Claim : Type 0 where
  pub first_half : FirstHalf
  pub second_half : SecondHalf
