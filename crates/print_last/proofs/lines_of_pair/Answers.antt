-- Nothing where the pair has nothing unread.
use Rattle.std.proofs.Common.{[], sym, ◌∙◌}
use Rattle.transit.specs.Mail.{messages_in}
use Rattle.print_page.specs.Laws.Put.{untouched}
use Rattle.print_lines.specs.Laws.Parts.{no_line}
use Rattle.print_last.proofs.lines_of_pair.Goals as goal

pub returns-then-unread_between-eq0 : goal.returns-then-unread_between-eq0
returns-then-unread_between-eq0 c =
    record {
      text = [];
      put = untouched;
      same = λ contents held.
          no_line (messages_in c.args.slots.now contents) c.args.from.0 c.args.to.0
          (sym (c.unread_between.ensures contents held) ∙ c.if-unread_between-eq0.true);
    }
