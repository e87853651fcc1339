-- What a message sent does to each ordered pair of ranks, and that a message is of one pair. Paper 01, "Names and places". What the other
-- changes do to a pair is in the laws of the operations (Operations, Removed), place order in Order. Assumes nothing.
use Rattle.std.specs.Prelude.{◌≡◌, true, false, ◌&&◌, List, [], ◌∷◌, ◌++◌, map, ℕ, suc, length}
use Rattle.std.proofs.Common.{sym, ◌∙◌, append-nil, arith, eq-eqb, eqb-true, length-append}
use Rattle.std.proofs.lemmas.List.{map-append}
use Rattle.base.specs.Lists.{select}
use Rattle.transit.specs.Message.{place_index, is_same_rank, between, relabelled, picks}
use Rattle.transit.specs.Unread.{first_to}
use Rattle.transit.specs.declared.Message.{Message}
use Rattle.transit.specs.declared.Place.{Place}
use Rattle.transit.specs.declared.Rank.{Rank}
use Rattle.transit.specs.declared.Selection.{Selection}
use Rattle.base.specs.Laws.Tests.{by_test, both, both_left, both_right}
use Rattle.base.specs.Laws.Lists.{select_append, length_change_first}

-- a number of each of a pair's unread messages, in order of sending
abbrev pub is_of_pair : (Message → ℕ) → Rank → Rank → List Message → List ℕ
is_of_pair f a b l = map f (select (between a b) l)

-- the numbers of their places, and their running numbers
abbrev pub places : Rank → Rank → List Message → List ℕ
places = is_of_pair place_index

abbrev pub sequences : Rank → Rank → List Message → List ℕ
sequences = is_of_pair (λ m. m.sequence)

-- Ranks are the same if their numbers are.
same_rank : (a b c : Rank) → is_same_rank a b ≡ true → is_same_rank a c ≡ true → is_same_rank b c ≡ true
same_rank a b c p q = eq-eqb b.0 c.0 (sym (eqb-true a.0 b.0 p) ∙ eqb-true a.0 c.0 q)

-- A message is of one pair only.
pub other_pair : (a b c d : Rank) → (is_same_rank a c && is_same_rank b d) ≡ false → (m : Message) → between a b m ≡ true
    → between c d m ≡ false
other_pair a b c d differ m of_pair =
    by_test (between c d m)
    (λ e.
    let senders = same_rank m.sender a c (both_left (is_same_rank m.sender a) _ of_pair) (both_left (is_same_rank m.sender c) _ e) in
    let receivers = same_rank m.receiver b d (both_right (is_same_rank m.sender a) _ of_pair) (both_right (is_same_rank m.sender c) _ e) in
    e ∙ sym (both senders receivers) ∙ differ)
    (λ e. e)

-- A message sent is one message more.
pub append_length : (l : List Message) (m : Message) → length (l ++ m ∷ []) ≡ suc (length l)
append_length l m = rw length-append (omega arith)

-- The number of a message of the pair comes after the pair's numbers.
pub append_own : (f : Message → ℕ) (a b : Rank) (l : List Message) (m : Message) → between a b m ≡ true
    → is_of_pair f a b (l ++ m ∷ []) ≡ is_of_pair f a b l ++ f m ∷ []
append_own f a b l m of_pair = rw (select_append, of_pair, map-append)

-- Any other message leaves the pair's numbers as they are.
pub append_other : (f : Message → ℕ) (a b : Rank) (l : List Message) (m : Message) → between a b m ≡ false
    → is_of_pair f a b (l ++ m ∷ []) ≡ is_of_pair f a b l
append_other f a b l m other = rw (select_append, other, append-nil)

-- A change of the place of the first that is selected keeps the count.
pub first_to_length : (s : Selection) (p : Place) (l : List Message) → length (first_to s p l) ≡ length l
first_to_length s p l = length_change_first (picks s) (relabelled p) l
