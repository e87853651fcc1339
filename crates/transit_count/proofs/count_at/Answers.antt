use Rattle.std.proofs.Common.{◌∙◌, arith}
use Rattle.transit.specs.Pick.{pick_between}
use Rattle.transit.specs.declared.Selection.TheVariants.{BetweenAt}
use Rattle.transit.proofs.Laws.Passes.{hits_tally}
use Rattle.transit.specs.Laws.Places.{picked_between}
use Rattle.transit_count.proofs.count_at.Goals as goal

pub returns : goal.returns
returns c =
    let a = c.args in
    let r = c.requires in
    λ v d.
    rw c.between.ensures at c.count_hits.ensures
    ∙ hits_tally d (BetweenAt a.a a.b a.place) (pick_between a.a a.b a.place) (omega arith)
    (λ p n _ _ live placed. picked_between p n live placed a.a a.b a.place r.a_lt_ranks r.b_lt_ranks)
