-- The state that a desk in place holds. Paper 01, "What the contracts carry". Assumes nothing.
use Rattle.std.specs.Prelude.{Option, Some, None, true, false, ◌≡◌}
use Rattle.protocol.specs.Sound.{sound}
use Rattle.broker.specs.State.{State}
use Rattle.desk.specs.Desk.{state_of}
use Rattle.desk.specs.declared.Desk.{Desk}

-- the desk holds the state
abbrev pub HoldsState : State → Desk → Type 0
HoldsState s d = state_of d ≡ s

-- there is a desk exactly where the state is sound, and then it holds the state
abbrev pub Loads : State → Option Desk → Type 0
Loads s None = sound s ≡ false
Loads s (Some d) = (sound s ≡ true) × HoldsState s d
