-- "A move is open from its accepted 06 until its accepted 09": a rank migrates in the state that a list leaves where a move of it is open.
-- So the premise of the second half can be read from the accepted steps alone. Assumes nothing.
use Rattle.std.specs.Prelude.{◌≡◌, refl, Bool, true, false, not, List, [], ◌∷◌, ℕ, zero, suc, get_or, replicate}
use Rattle.std.proofs.Common.{ap, ◌∙◌}
use Rattle.std.proofs.Math.Path.{fun_ext}
use Rattle.transit.specs.Message.{ranks}
use Rattle.transit.specs.declared.Rank.{Rank}
use Rattle.protocol.proofs.Laws.Migrating.{open_after, migrating_step}
use Rattle.broker.specs.Names.{is_migrating}
use Rattle.broker.specs.Ranks.{every_rank}
use Rattle.protocol.specs.Sound.{sound}
use Rattle.broker.specs.State.{State, idle, fresh, status}
use Rattle.broker.specs.declared.process.Process.{Process}
use Rattle.record.specs.declared.Record.{Record}
use Rattle.ordering.specs.Claim.{Reading, after, accepted, records, no_move_open}
use Rattle.ordering.specs.Laws.Runs.{fresh_sound, along}

-- whether a move of r is open after accepted records, by whether one was open before
abbrev pub open_after_all : Rank → Bool → List Record → Bool
open_after_all r before [] = before
open_after_all r before (x ∷ xs) = open_after_all r (open_after r before x) xs

-- A rank migrates where a move of it is open.
pub migrating_is_open :
    (r : Rank) (xs : List Reading) (s : State) →
    sound s ≡ true →
    is_migrating (status (after s xs) r) ≡ open_after_all r (is_migrating (status s r)) (records (accepted s xs))
migrating_is_open r =
    along (λ s es end. is_migrating (status end r) ≡ open_after_all r (is_migrating (status s r)) (records es))
    (λ s h. refl)
    (λ s x y next h reads p es end rest.
    rest ∙ ap (λ (o : Bool). open_after_all r o (records es)) (migrating_step s y r h p))

-- Nobody migrates in the fresh state.
fresh_still : (r : Rank) → is_migrating (status fresh r) ≡ false
fresh_still r = ap (λ (p : Process). is_migrating p.status) (all_idle ranks r.0)
  where
    all_idle : (n i : ℕ) → get_or (replicate n idle) i idle ≡ idle
    all_idle zero i = refl
    all_idle (suc n) zero = refl
    all_idle (suc n) (suc i) = all_idle n i

-- no move of any rank is open after these records from the fresh state
abbrev pub every_move_landed : List Record → Bool
every_move_landed l = every_rank (λ r. not (open_after_all r false l))

pub no_move_open_by_the_list : (xs : List Reading) → no_move_open (after fresh xs) ≡ every_move_landed (records (accepted fresh xs))
no_move_open_by_the_list xs =
    ap every_rank
    (fun_ext
    (λ r.
    ap not
    (migrating_is_open r xs fresh fresh_sound ∙
    ap (λ (o : Bool). open_after_all r o (records (accepted fresh xs))) (fresh_still r))))
