-- The parts of a record, whatever its kind, and tests of what it names. Paper 01, "The step log". Assumes nothing.
use Rattle.std.specs.Prelude.{Bool, false, List, [], ◌∷◌, ℕ}
use Rattle.std.proofs.Math.Option.{Option, none, some}
use Rattle.transit.specs.declared.Rank.{Rank}
use Rattle.record.specs.Kind
use Rattle.record.specs.declared.Record.{Record}
use Rattle.record.specs.declared.Record.TheVariants.{Start, Call, Route, Send, Take, Move, Heed, Drain, Land, Part, End, Look}

-- its kind, and the ranks, hosts and values that it names, each in the body's order
pub record Parts : Type 0 where
  pub kind : ℕ
  pub ranks : List Rank
  pub hosts : List ℕ
  pub values : List ℕ

abbrev parts : ℕ → List Rank → List ℕ → List ℕ → Parts
parts kind ranks hosts values = record { kind = kind; ranks = ranks; hosts = hosts; values = values }

abbrev pub parts_of : Record → Parts
parts_of (Start r h) = parts Kind.start (r ∷ []) (h ∷ []) []
parts_of (Call a b) = parts Kind.call (a ∷ b ∷ []) [] []
parts_of (Route a b) = parts Kind.route (a ∷ b ∷ []) [] []
parts_of (Send a b v) = parts Kind.send (a ∷ b ∷ []) [] (v ∷ [])
parts_of (Take b a) = parts Kind.take (b ∷ a ∷ []) [] []
parts_of (Move r h) = parts Kind.move (r ∷ []) (h ∷ []) []
parts_of (Heed b r) = parts Kind.heed (b ∷ r ∷ []) [] []
parts_of (Drain r s) = parts Kind.drain (r ∷ s ∷ []) [] []
parts_of (Land r) = parts Kind.land (r ∷ []) [] []
parts_of (Part a b) = parts Kind.part (a ∷ b ∷ []) [] []
parts_of (End r) = parts Kind.end (r ∷ []) [] []
parts_of (Look r) = parts Kind.look (r ∷ []) [] []

abbrev pub kind_of : Record → ℕ
kind_of r = (parts_of r).kind

abbrev pub ranks_in : Record → List Rank
ranks_in r = (parts_of r).ranks

abbrev pub hosts_in : Record → List ℕ
hosts_in r = (parts_of r).hosts

abbrev pub values_in : Record → List ℕ
values_in r = (parts_of r).values

-- the record is of one of the listed kinds
abbrev pub is : List ℕ → Record → Bool
is ks r = Kind.one_of ks (kind_of r)

-- the first rank, where there is one
abbrev pub first_rank : List Rank → Option Rank
first_rank [] = none
first_rank (a ∷ rs) = some a

-- a test of it
abbrev pub on_first : (Rank → Bool) → List Rank → Bool
on_first f [] = false
on_first f (a ∷ rs) = f a

abbrev pub of_first : (Rank → Bool) → Record → Bool
of_first f r = on_first f (ranks_in r)

-- a test of the first rank and the second, where there are two
abbrev pub on_two : (Rank → Rank → Bool) → List Rank → Bool
on_two f [] = false
on_two f (a ∷ rs) = on_first (f a) rs

abbrev pub of_two : (Rank → Rank → Bool) → Record → Bool
of_two f r = on_two f (ranks_in r)
