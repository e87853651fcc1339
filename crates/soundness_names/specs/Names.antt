-- Vmids by the numbers drawn on each host. Paper 01, "Sound states".
-- Assumes nothing.
use Rattle.std.specs.Prelude.{Bool, ◌&&◌, List, ℕ, leb, ltb, get_or}
use Rattle.base.specs.Lists.{every}
use Rattle.broker.specs.Names.{hosts, vmids_of}
use Rattle.broker.specs.declared.process.Status.{Status}
use Rattle.broker.specs.declared.process.Vmid.{Vmid}

-- "hosts .. are in range, and each vmid .. has a number already drawn"
abbrev pub is_drawn_on : List ℕ → Vmid → Bool
is_drawn_on drawn v = ltb v.0 hosts && ltb 0 v.1 && leb v.1 (get_or drawn v.0 0)

-- "each vmid in use .. has a number already drawn"
abbrev pub vmids_drawn : List ℕ → Status → Bool
vmids_drawn drawn t = every (is_drawn_on drawn) (vmids_of t)
