-- The program takes a turn. Paper 01, "The printed run". Assumes nothing.
use Rattle.std.specs.Prelude.{Bool, List, ◌≡◌, ℕ}
use Rattle.broker.specs.State.{State}
use Rattle.print_turn.specs.Turn.{Turns}
use Rattle.print_turn.specs.declared.Turned.{Turned}
use Rattle.replay_stage.specs.Stage.{then_of}
use Rattle.replay_stage.specs.declared.Stage.{Stage}

-- where a turn leaves the program
abbrev pub behind : Turned → Bool → Stage
behind t done = record { held = t.held; base = t.base; done = done; used = t.used; then = then_of t.next }

-- the program takes a turn, and stands where it leaves the program
pub record Advances (s : State) (buffer : List ℕ) (before : Stage) (room : ℕ) (state : State) (buffer' : List ℕ) (after : Stage)
    (page : List ℕ) : Type 0 where
  pub turned : Turned
  pub turns : Turns s buffer before.held before.base before.done room state buffer' turned page
  pub stands : after ≡ behind turned before.done
