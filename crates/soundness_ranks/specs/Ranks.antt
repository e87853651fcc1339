-- What soundness says of each rank, by its process and its link to itself. Paper 01, "Sound states".
-- Assumes nothing.
use Rattle.std.specs.Prelude.{Bool, not, ◌&&◌, List, ℕ, get_or, Option}
use Rattle.transit.specs.declared.Rank.{Rank}
use Rattle.broker.specs.Names.{asks_for, is_closed, is_clear}
use Rattle.transit.specs.Message.{is_rank}
use Rattle.broker.specs.Ranks.{every_rank}
use Rattle.protocol.specs.Sound.{of_call}
use Rattle.broker.specs.State.{idle, link_at}
use Rattle.broker.specs.declared.link.Link.{Link}
use Rattle.broker.specs.declared.process.Process.{Process}
use Rattle.broker.specs.declared.process.Request.{Request}
use Rattle.soundness_names.specs.Names.{is_drawn_on, vmids_drawn}

-- "Ranks .. are in range, and each vmid in a .. call has a number already drawn"
abbrev pub request_drawn : List ℕ → Option Request → Bool
request_drawn drawn q = of_call is_rank (is_drawn_on drawn) q

-- "Nobody has a line, await, call .. with itself."
abbrev pub nothing_with_self : Rank → Option Request → Link → Bool
nothing_with_self r q own = is_closed own.connection && is_clear own.backlog && not (asks_for r q)

-- a rank's process, and its link to itself
abbrev pub rank_sound : List ℕ → Rank → Process → Link → Bool
rank_sound drawn r p own = vmids_drawn drawn p.status && request_drawn drawn p.request && nothing_with_self r p.request own

-- a rank by the processes and the links of all
abbrev pub rank_sound_at : List ℕ → List Process → List Link → Rank → Bool
rank_sound_at drawn ps ls r = rank_sound drawn r (get_or ps r.0 idle) (link_at ls r r)

-- every rank
unfoldable pub ranks_sound : List ℕ → List Process → List Link → Bool
ranks_sound drawn ps ls = every_rank (rank_sound_at drawn ps ls)
