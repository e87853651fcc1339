-- A change that needs no messages is a change of the whole desk. Assumes nothing.
use Rattle.transit.specs.InPlace.{unread}
use Rattle.protocol.specs.Done.{Done}
use Rattle.broker.specs.State.{State}
use Rattle.answer.specs.declared.Values.{Values}
use Rattle.desk.specs.Desk.{Does, RosterDoes, state_of}
use Rattle.desk.specs.declared.Desk.{Desk}

pub roster_does :
    {f : State → Done} {d : Desk} {v : Values} {d' : Desk} → RosterDoes f d v d' → Does f (state_of d) v (state_of d')
roster_does {d = d} x = rw x.mail (x.does (unread d.mail))
