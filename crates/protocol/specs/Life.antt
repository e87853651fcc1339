-- Start and end: what each does to the state and answers. Paper 01, "The step log", kinds 01 and 0B.
-- Assumes nothing.
use Rattle.std.specs.Prelude.{List, ℕ, ◌+◌, set}
use Rattle.transit.specs.declared.Rank.{Rank}
use Rattle.protocol.specs.Done.{Done, done}
use Rattle.broker.specs.Names.{endpoint}
use Rattle.broker.specs.Ranks.{each_rank}
use Rattle.broker.specs.State.{State, cell, status, drawn_on, with_status, with_locations, next_vmid, draw}
use Rattle.broker.specs.declared.process.Status.TheVariants.{Running, Ended}
use Rattle.broker.specs.declared.process.Vmid.{Vmid}

-- "everybody's entry for r becomes that vmid"
unfoldable pub announced : Rank → Vmid → List Vmid → List Vmid
announced r v ls = each_rank (λ p l. set l (cell p r) v) ls

-- "r runs on h with h's next number; everybody's entry for r becomes that vmid. v1 host, v2 number."
unfoldable pub start : Rank → ℕ → State → Done
start r h s =
    done
    (with_locations (announced r (next_vmid s h) s.locations) (with_status r (Running (next_vmid s h)) (draw h s)))
    h
    (drawn_on s h + 1)
    0

-- "r is ended." "an ended rank keeps its last vmid"
unfoldable pub end : Rank → State → Done
end r s = done (with_status r (Ended (endpoint (status s r))) s) 0 0 0
