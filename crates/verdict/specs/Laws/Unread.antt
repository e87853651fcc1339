-- A search finds nothing where there is nothing. Assumes nothing.
use Rattle.std.specs.Prelude.{is_none, List, [], ◌∷◌, ◌≡◌, refl, eqb, length}
use Rattle.std.proofs.Common.{arith, ne_eqb}
use Rattle.transit.specs.Unread.{head}
use Rattle.transit.specs.declared.Message.{Message}

-- a list has a head exactly where it is not empty
pub no_head : (l : List Message) → eqb (length l) 0 ≡ is_none (head l)
no_head [] = refl
no_head (m ∷ l) = ne_eqb (length (m ∷ l)) 0 (λ e. omega arith)
