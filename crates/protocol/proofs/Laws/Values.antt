-- Each kind of step answers the values that the worked runs show, computed from the definitions. Assumes nothing.
use Rattle.std.specs.Prelude.{refl}
use Rattle.protocol.proofs.Laws.Edges.{by_computing}
use Rattle.protocol.specs.Laws.Opened.{opened}
use Rattle.protocol.specs.Values

pub values_hold : Values.ValuesHold
unfolding opened
values_hold =
    record {
      of_start = by_computing Values.start refl;
      of_call_lem = by_computing Values.call refl;
      of_route_there = by_computing Values.route_there_lem refl;
      of_route_on = by_computing Values.route_on_lem refl;
      of_route_to_ended = by_computing Values.route_to_ended_lem refl;
      of_send = by_computing Values.send refl;
      of_take = by_computing Values.take refl;
      of_move = by_computing Values.move refl;
      of_restart = by_computing Values.restart refl;
      of_heed = by_computing Values.heed refl;
      of_drain = by_computing Values.drain refl;
      of_land = by_computing Values.land refl;
      of_part = by_computing Values.part refl;
      of_end = by_computing Values.end refl;
      of_look = by_computing Values.look refl;
    }
