-- Nothing at the input's end, and else the line of what stands there.
use Rattle.std.proofs.Common.{append-nil, add-zero, arith}
use Rattle.print_page.specs.Laws.Put.{untouched}
use Rattle.print_run.proofs.Laws.Ending.{closing_at_end, closing_by_kind}
use Rattle.print_ending.proofs.closing_line.Goals as goal

pub returns-in_default : goal.returns-in_default
returns-in_default c = rw (closing_at_end c.args.base c.args.rest.now 0 (omega (arith, c.in_default.len_below))) untouched

pub returns-in-len1-up : goal.returns-in-len1-up
returns-in-len1-up c =
    rw (
      closing_by_kind c.args.base c.args.rest.now 0 (omega (arith, c.in-len1-up.len_at_least)),
      append-nil,
      add-zero c.args.base,
      ← c.reason_of.ensures,
    )
    c.refused_line.ensures
