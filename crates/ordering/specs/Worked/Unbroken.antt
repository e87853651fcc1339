-- "Between a move of r and its landing stand only heeds with r as second rank and drains with r as first; calls, routes and parts may
-- stand anywhere else": which lists of records are unbroken and which are not, and which records are of the five kinds. Computed from the
-- definitions. Assumes nothing.
use Rattle.std.specs.Prelude.{◌≡◌, refl, true, false, List, [], ◌∷◌, ◌++◌, map}
use Rattle.std.proofs.Math.Option.{none}
use Rattle.transit.specs.Message.{rank}
use Rattle.record.specs.declared.Record.{Record}
use Rattle.record.specs.declared.Record.TheVariants.{Start, Call, Route, Send, Take, Move, Heed, Drain, Land, Part, End, Look}
use Rattle.ordering.specs.Claim.{Entry, records, five_kinds, unbroken}
use Rattle.ordering.specs.Worked.Result.{did}

-- a record of each kind, in the order of the kinds; the heed and the drain are of a move of rank 1
abbrev pub every_kind : List Record
every_kind =
    Start (rank 0) 2 ∷
    Call (rank 0) (rank 1) ∷
    Route (rank 0) (rank 1) ∷
    Send (rank 0) (rank 1) 7 ∷
    Take (rank 0) (rank 1) ∷
    Move (rank 0) 2 ∷
    Heed (rank 0) (rank 1) ∷
    Drain (rank 1) (rank 0) ∷
    Land (rank 0) ∷
    Part (rank 0) (rank 1) ∷
    End (rank 0) ∷
    Look (rank 0) ∷ []

abbrev pub every_entry : List Entry
every_entry = map (λ (r : Record). did r 9 8) every_kind

-- The five kinds, in list order and with their bodies.
pub five_of_every_kind :
    five_kinds every_entry ≡ Start (rank 0) 2 ∷ Send (rank 0) (rank 1) 7 ∷ Take (rank 0) (rank 1) ∷ Move (rank 0) 2 ∷ End (rank 0) ∷ []
five_of_every_kind = refl

pub records_of_every_kind : records every_entry ≡ every_kind
records_of_every_kind = refl

-- What may stand outside any move, kind by kind: all but a move that is not landed, a heed, a drain, a landing and a look.
pub outside_by_kind :
    map (λ (r : Record). unbroken none (r ∷ [])) every_kind ≡
    true ∷ true ∷ true ∷ true ∷ true ∷ false ∷ false ∷ false ∷ false ∷ true ∷ true ∷ false ∷ []
outside_by_kind = refl

-- What may stand inside a move of rank 1, kind by kind: its heed and its drain.
pub inside_by_kind :
    map (λ (r : Record). unbroken none (Move (rank 1) 2 ∷ r ∷ Land (rank 1) ∷ [])) every_kind ≡
    false ∷ false ∷ false ∷ false ∷ false ∷ false ∷ true ∷ true ∷ false ∷ false ∷ false ∷ false ∷ []
inside_by_kind = refl

-- Everything that is allowed: all that may stand outside, before, between and behind moves with heeds and drains of their own.
abbrev outside : List Record
outside =
    Start (rank 0) 0 ∷
    Call (rank 0) (rank 1) ∷
    Route (rank 0) (rank 1) ∷
    Send (rank 0) (rank 1) 7 ∷
    Take (rank 1) (rank 0) ∷
    Part (rank 0) (rank 1) ∷
    End (rank 0) ∷ []

pub all_that_is_allowed_is_unbroken :
    unbroken none
    (outside ++
    Move (rank 1) 2 ∷
    Heed (rank 0) (rank 1) ∷
    Drain (rank 1) (rank 0) ∷
    Heed (rank 2) (rank 1) ∷
    Drain (rank 1) (rank 2) ∷
    Land (rank 1) ∷
    Move (rank 2) 3 ∷
    Land (rank 2) ∷
    outside) ≡
    true
all_that_is_allowed_is_unbroken = refl

pub no_steps_are_unbroken : unbroken none [] ≡ true
no_steps_are_unbroken = refl

-- What breaks a list, each alone.

pub overlapping_moves_are_broken : unbroken none (Move (rank 0) 2 ∷ Move (rank 1) 3 ∷ Land (rank 0) ∷ Land (rank 1) ∷ []) ≡ false
overlapping_moves_are_broken = refl

pub nested_moves_are_broken : unbroken none (Move (rank 0) 2 ∷ Move (rank 1) 3 ∷ Land (rank 1) ∷ Land (rank 0) ∷ []) ≡ false
nested_moves_are_broken = refl

pub move_inside_breaks : unbroken none (Move (rank 0) 2 ∷ Move (rank 1) 3 ∷ Land (rank 1) ∷ []) ≡ false
move_inside_breaks = refl

pub send_inside_breaks : unbroken none (Move (rank 1) 2 ∷ Send (rank 0) (rank 1) 7 ∷ Land (rank 1) ∷ []) ≡ false
send_inside_breaks = refl

pub heed_of_another_rank_inside_breaks : unbroken none (Move (rank 1) 2 ∷ Heed (rank 0) (rank 2) ∷ Land (rank 1) ∷ []) ≡ false
heed_of_another_rank_inside_breaks = refl

-- The rank that moves is a heed's second, and a drain's first.
pub heed_by_the_mover_inside_breaks : unbroken none (Move (rank 1) 2 ∷ Heed (rank 1) (rank 0) ∷ Land (rank 1) ∷ []) ≡ false
heed_by_the_mover_inside_breaks = refl

pub drain_of_another_rank_inside_breaks : unbroken none (Move (rank 1) 2 ∷ Drain (rank 2) (rank 0) ∷ Land (rank 1) ∷ []) ≡ false
drain_of_another_rank_inside_breaks = refl

pub drain_from_the_mover_inside_breaks : unbroken none (Move (rank 1) 2 ∷ Drain (rank 0) (rank 1) ∷ Land (rank 1) ∷ []) ≡ false
drain_from_the_mover_inside_breaks = refl

pub unfinished_move_breaks : unbroken none (Move (rank 1) 2 ∷ []) ≡ false
unfinished_move_breaks = refl

pub landing_of_another_rank_breaks : unbroken none (Move (rank 1) 2 ∷ Land (rank 0) ∷ []) ≡ false
landing_of_another_rank_breaks = refl

pub look_outside_breaks : unbroken none (Look (rank 0) ∷ []) ≡ false
look_outside_breaks = refl

pub heed_outside_breaks : unbroken none (Heed (rank 0) (rank 1) ∷ []) ≡ false
heed_outside_breaks = refl

pub drain_outside_breaks : unbroken none (Drain (rank 1) (rank 0) ∷ []) ≡ false
drain_outside_breaks = refl

pub landing_outside_breaks : unbroken none (Land (rank 1) ∷ []) ≡ false
landing_outside_breaks = refl

-- A list is broken wherever the break stands: behind what may stand outside, behind a landing, and behind a heed.
pub later_breaks :
    map (unbroken none)
    ((outside ++ Look (rank 0) ∷ []) ∷
    (Move (rank 1) 2 ∷ Land (rank 1) ∷ Land (rank 1) ∷ []) ∷
    (Move (rank 1) 2 ∷ Heed (rank 0) (rank 1) ∷ Part (rank 0) (rank 1) ∷ Land (rank 1) ∷ []) ∷ []) ≡
    false ∷ false ∷ false ∷ []
later_breaks = refl
