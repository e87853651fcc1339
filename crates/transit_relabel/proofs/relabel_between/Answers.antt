use Rattle.std.proofs.Common.{arith}
use Rattle.transit.specs.Pick.{pick_between}
use Rattle.transit.specs.declared.Selection.TheVariants.{BetweenAt}
use Rattle.transit.proofs.Laws.Passes.{pass_end}
use Rattle.transit.specs.Laws.Places.{picked_between}
use Rattle.transit_relabel.proofs.relabel_between.Goals as goal

pub returns : goal.returns
returns c =
    let a = c.args in
    let r = c.requires in
    λ v d.
    pass_end d (BetweenAt a.a a.b a.from) (pick_between a.a a.b a.from) (omega arith)
    (λ p n _ _ live placed. picked_between p n live placed a.a a.b a.from r.a_lt_ranks r.b_lt_ranks)
    a.to
    (rw (c.between.ensures, c.from.ensures, c.number.ensures) at c.pass.ensures)
