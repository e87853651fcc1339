use Rattle.std.proofs.Common.{◌∙◌, arith}
use Rattle.base.specs.Laws.Tabulate.{tabulate_at}
use Rattle.transit.specs.Message.{ranks}
use Rattle.broker.specs.Names.{unknown}
use Rattle.roster.specs.Laws.Columns.{locations_only}
use Rattle.roster.specs.Laws.Loaded.{fill_next, fill_whole}
use Rattle.roster.specs.Numbers.{vmid_of}
use Rattle.roster.specs.Roster.{LOCATIONS}
use Rattle.roster_load.proofs.load_locations.Goals as goal

pub loop-i-preserved : goal.loop-i-preserved
loop-i-preserved c =
    let row = c.row_of-row.ensures in
    let here = rw row at c.encode_vmid-w.ensures.result_value in
    let entry = here ∙ tabulate_at ranks _ c.loop-i.i unknown (omega arith) in
    (omega arith, fill_next vmid_of LOCATIONS c.loop-i.invariant.1 (omega arith) (omega arith) entry (omega arith))

pub returns : goal.returns
returns c =
    let filled = c.loop-a.invariant.1 in
    locations_only filled.kept (fill_whole filled c.well_formed.0.1.0.1 (omega arith))
