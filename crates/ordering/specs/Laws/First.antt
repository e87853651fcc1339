-- The first half of the ordering claim: taken values, then unread ones, are the values sent. Assumes nothing.
use Rattle.std.specs.Prelude.{refl, List, [], ◌∷◌, ◌++◌, ℕ}
use Rattle.std.proofs.Common.{sym, ap, ◌∙◌, map-id}
use Rattle.protocol.proofs.Laws.CoreStep.{take_value}
use Rattle.broker.specs.State.{fresh}
use Rattle.protocol.specs.Step.{apply}
use Rattle.ordering.specs.Claim.{sent, FirstHalf}
use Rattle.ordering.specs.Laws.Balance.{balances}
use Rattle.ordering.specs.Laws.Runs.{fresh_sound, entry, sent_cons}

-- Nothing is unread in the fresh state.
pub first_half : FirstHalf
unfolding apply
first_half xs a b ha hb =
    balances a b (λ m. m.value) (λ e. e.v1) (λ s es. sent a b es)
    (λ s h f. take_value s b a h f)
    (record {
      none_new = λ s. refl;
      one_new = λ s r es h p.
          let e = entry r s in
          sent_cons a b e es ∙ ap (λ (l : List ℕ). l ++ sent a b es) (sym (map-id (sent a b (e ∷ []))));
    })
    (λ m. refl) ha hb xs fresh fresh_sound
