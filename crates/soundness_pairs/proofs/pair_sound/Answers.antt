use Rattle.std.proofs.Common.{sym, ◌∙◌}
use Rattle.soundness_pairs.specs.Laws.Pairs.{names_decide}
use Rattle.soundness_pairs.proofs.pair_sound.Goals as goal

pub returns-then-holds_nothing : goal.returns-then-holds_nothing
returns-then-holds_nothing c =
    let x = c.args in
    let nothing = sym c.holds_nothing.ensures ∙ c.if-holds_nothing.true in
    let decide = names_decide x.drawn x.a x.b x.p x.q x.location x.there x.back nothing in
    rw (decide, c.vmids_apart.ensures, c.location_fits.ensures)
