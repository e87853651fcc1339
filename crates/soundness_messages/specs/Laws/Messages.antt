-- Messages with names in range: the cell of a message's pair, the messages of a pair as those of its cell, and that those at one place
-- fit alike.
-- Assumes nothing.
use Rattle.std.specs.Prelude.{◌≡◌, refl, Bool, true, not, List, [], ◌∷◌, ◌<◌, eqb}
use Rattle.std.proofs.Common.{arith, ltb-true}
use Rattle.base.specs.Laws.Tests.{both, both_left, both_right, parts}
use Rattle.base.specs.Lists.{select, every}
use Rattle.transit.specs.Message.{between, place_index, is_rank, is_same_rank, ranks, cells}
use Rattle.transit.specs.declared.Message.{Message}
use Rattle.transit.specs.declared.Rank.{Rank}
use Rattle.protocol.specs.Laws.Sound.{is_named}
use Rattle.protocol.specs.Laws.State.{cell_same}
use Rattle.broker.specs.State.{cell}
use Rattle.broker.specs.declared.link.Link.{Link}
use Rattle.broker.specs.declared.process.Process.{Process}
use Rattle.soundness_messages.specs.Messages.{message_sound_at, pair_of}

-- Tests that agree wherever a third passes select the same of a list where it passes everywhere.
pub select_agree : {A : Type 0} (w p q : A → Bool) → ((x : A) → w x ≡ true → p x ≡ q x)
    → (l : List A) → every w l ≡ true → select p l ≡ select q l
select_agree w p q agree [] all = refl
select_agree w p q agree (x ∷ l) all =
    rw (agree x (both_left (w x) (every w l) all), select_agree w p q agree l (both_right (w x) (every w l) all))

-- Sender and receiver of a message with names in range are ranks.
pub named_inside : (m : Message) → is_named m ≡ true → (m.sender.0 < ranks) × (m.receiver.0 < ranks)
named_inside m h =
    let clauses = parts (is_rank m.sender) (is_rank m.receiver ∷ not (is_same_rank m.sender m.receiver) ∷ []) h in
    (ltb-true _ _ clauses.0, ltb-true _ _ clauses.1.0)

-- And its pair has a cell.
pub pair_inside : (m : Message) → is_named m ≡ true → pair_of m < cells
pair_inside m h = omega (arith, named_inside m h)

-- The messages of a pair are those of its cell.
pub pair_is_cell : (a b : Rank) → b.0 < ranks → (l : List Message) → every is_named l ≡ true
    → select (λ m. eqb (pair_of m) (cell a b)) l ≡ select (between a b) l
pair_is_cell a b hb l named =
    select_agree is_named (λ m. eqb (pair_of m) (cell a b)) (between a b)
    (λ m h. cell_same m.sender m.receiver a b (named_inside m h).1 hb) l named

-- A message that passes has a cell for its pair.
pub has_cell : (ps : List Process) (ls : List Link) (m : Message) → message_sound_at ps ls m ≡ true → pair_of m < cells
has_cell ps ls m h = pair_inside m (both_left (is_named m) _ h)

-- Messages of one pair at one place fit alike.
pub fit_alike : (ps : List Process) (ls : List Link) (m n : Message) → message_sound_at ps ls m ≡ true → is_named n ≡ true
    → pair_of m ≡ pair_of n → place_index m ≡ place_index n → message_sound_at ps ls n ≡ true
fit_alike ps ls m n fits named pair place =
    let inside = named_inside m (both_left (is_named m) _ fits) in
    let inside_too = named_inside n named in
    let sender : n.sender.0 ≡ m.sender.0 = omega arith in
    let receiver : n.receiver.0 ≡ m.receiver.0 = omega arith in
    both named (rw (sender, receiver, ← place) (both_right (is_named m) _ fits))
