-- The call was not posted to the current end: it goes on there, whatever is unread. Assumes nothing.
use Rattle.std.proofs.Common.{sym, ◌∙◌}
use Rattle.broker.specs.State.{with_unread}
use Rattle.roster.specs.Roster.{ranks_of}
use Rattle.kind_route.specs.Laws.Routed.{Found, route_goes_on}
use Rattle.kind_route.proofs.route.Goals as goal

pub returns-else-eq : goal.returns-else-eq
returns-else-eq c =
    let args = c.args in
    let lives = sym c.is_ended.ensures ∙ c.if-is_ended.false in
    let moved = sym c.eq.ensures ∙ c.if-eq.false in
    record {
      does = λ u.
          let found : Found args.a args.b (with_unread u (ranks_of args.desk.now.roster)) _ _ _ _ =
          record {
            calls = c.request_of-request.ensures;
            posts = c.posted_to.ensures;
            stands = c.standing_of-standing.ensures;
            ends = c.endpoint-end.ensures;
          } in
          c.route_on.ensures.does u ∙ route_goes_on found lives moved;
      mail = c.route_on.ensures.mail;
    }
