use Rattle.std.proofs.Common.{arith}
use Rattle.transit.specs.Pick.{pick_to}
use Rattle.transit.specs.declared.Selection.TheVariants.{ToAt}
use Rattle.transit.proofs.Laws.Passes.{pass_end}
use Rattle.transit.specs.Laws.Places.{picked_to}
use Rattle.transit_relabel.proofs.relabel_to.Goals as goal

pub returns : goal.returns
returns c =
    let a = c.args in
    λ v d.
    pass_end d (ToAt a.r a.from) (pick_to a.r a.from) (omega arith)
    (λ p n _ _ live placed. picked_to p n live placed a.r a.from)
    a.to
    (rw (c.to.ensures, c.from.ensures, c.number.ensures) at c.pass.ensures)
