-- The message that leaves: where the places of the selected messages never fall, it is the first of them in order of sending.
-- Assumes nothing.
use Rattle.std.specs.Prelude.{Some, ◌≡◌, refl, true, List, ◌∷◌, map}
use Rattle.std.proofs.Common.{ap, ◌∙◌, eq-eqb}
use Rattle.base.specs.Lists.{select, without, never_falls}
use Rattle.transit.specs.Message.{place_index, at, picks}
use Rattle.transit.specs.Unread.{Unread, AfterRemove, head, leave, removed, counted}
use Rattle.transit.specs.declared.Message.{Message}
use Rattle.transit.specs.declared.Selection.{Selection}
use Rattle.transit.specs.Laws.Order.{place_order_is_list_order}
use Rattle.base.specs.Laws.Lists.{without_narrower}

-- Where the places of the selected messages never fall, the one that was sent first leaves.
pub removed_sent_first : (s : Selection) (u : Unread) (m : Message) (rest : List Message)
    → never_falls (map place_index (select (picks s) u.messages)) ≡ true → select (picks s) u.messages ≡ m ∷ rest
    → removed s u ≡ record { found = Some m; unread = counted u.sent (without (picks s) u.messages) }
unfolding removed
removed_sent_first s u m rest rises first =
    ap (λ (o : List Message). leave s u (head o)) (place_order_is_list_order s u.messages rises ∙ first) ∙
    ap {B = AfterRemove} (λ l. record { found = Some m; unread = counted u.sent l })
    (without_narrower (picks s) (at m.place) u.messages m rest first (eq-eqb (place_index m) (place_index m) refl))
