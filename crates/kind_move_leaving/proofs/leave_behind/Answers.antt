use Rattle.std.proofs.Common.{ap, ◌∙◌}
use Rattle.transit.specs.Laws.Promise.{relabelled_unread}
use Rattle.transit.specs.Unread.{relabel_all}
use Rattle.transit.specs.declared.Place.TheVariants.{SourceChannel, Channel}
use Rattle.transit.specs.declared.Selection.TheVariants.{ToAt}
use Rattle.kind_move_leaving.proofs.leave_behind.Goals as goal

pub returns : goal.returns
returns c = record {
  kept = λ v m. (c.relabel_to-2.ensures v (c.relabel_to.ensures v m).kept).kept;
  left = λ v m.
      let listed = c.relabel_to.ensures v m in
      let both = c.relabel_to-2.ensures v listed.kept in
      relabelled_unread both ∙ ap (relabel_all (ToAt c.args.r Channel) SourceChannel) (relabelled_unread listed);
}
