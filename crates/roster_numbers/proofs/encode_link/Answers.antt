use Rattle.roster.specs.Laws.Numbers.{link_back}
use Rattle.roster_numbers.proofs.encode_link.Goals as goal

pub returns : goal.returns
returns c =
    let low = c.encode_line-low in
    let high = c.encode_await-high in
    rw (link_back low.result high.result low.ensures.small, low.ensures.result_value, high.ensures.result_value)
