use Rattle.std.proofs.Common.{◌∙◌, arith}
use Rattle.transit.specs.Pick.{pick_to}
use Rattle.transit.specs.declared.Selection.TheVariants.{ToAt}
use Rattle.transit.proofs.Laws.Passes.{hits_tally}
use Rattle.transit.specs.Laws.Places.{picked_to}
use Rattle.transit_count.proofs.count_to.Goals as goal

pub returns : goal.returns
returns c =
    let a = c.args in
    λ v d.
    rw c.to.ensures at c.count_hits.ensures
    ∙ hits_tally d (ToAt a.r a.place) (pick_to a.r a.place) (omega arith)
    (λ p n _ _ live placed. picked_to p n live placed a.r a.place)
