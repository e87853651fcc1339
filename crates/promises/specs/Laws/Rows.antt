-- Rows of the table of checks that do not apply, as a test of each of them. Assumes nothing.
use Rattle.std.specs.Prelude.{Bool, true, false, not, List, [], ◌∷◌, ◌≡◌, refl}
use Rattle.std.proofs.Math.Option.{none}
use Rattle.base.specs.Laws.Tests.{by_test}
use Rattle.base.specs.Lists.{every}
use Rattle.broker.specs.State.{State}
use Rattle.protocol.specs.Checks.{Check, first_of}
use Rattle.record.specs.declared.Record.{Record}

module _ (s : State) (r : Record) where
  -- A list of rows gives nothing exactly where no row of it applies.
  pub none_applies : (cs : List Check) → every (λ (c : Check). not (c.given s r)) cs ≡ true → first_of cs s r ≡ none
  none_applies [] h = refl
  none_applies (c ∷ cs) h =
      by_test (c.given s r) (λ t. let z : ◌≡◌ {A = Bool} false true = rw t at h in cc) (λ t. rw t (none_applies cs (rw t at h)))

  pub none_applied : (cs : List Check) → first_of cs s r ≡ none → every (λ (c : Check). not (c.given s r)) cs ≡ true
  none_applied [] h = refl
  none_applied (c ∷ cs) h = by_test (c.given s r) (λ t. cc (rw t at h)) (λ t. rw t (none_applied cs (rw t at h)))
