use Rattle.std.proofs.Common.{◌∙◌}
use Rattle.roster.specs.Laws.Columns.{no_messages}
use Rattle.roster_load.proofs.load.Goals as goal

pub returns : goal.returns
returns c =
    record {
      long = c.load_drawn.ensures.long;
      same = c.load_drawn.ensures.same ∙ rw (c.load_links.ensures.same, c.load_locations.ensures.same)
          (rw (c.load_processes.ensures.same, no_messages));
    }
