-- What a program has read and written that takes turns from the fresh state on. Paper 01, "The printed run". Assumes nothing.
use Rattle.std.specs.Prelude.{Bool, true, false, List, [], ◌∷◌, ◌++◌, ◌≡◌, ℕ, take, drop}
use Rattle.broker.specs.State.{State, fresh}
use Rattle.print_piece.specs.Ran.{Ran}
use Rattle.print_run.specs.Run.{Answered}
use Rattle.print_turn.specs.Turn.{Shows}
use Rattle.print_turn.specs.declared.Next.TheVariants.{End}
use Rattle.print_turn.specs.declared.Turned.{Turned}

-- a read that gives nothing is at the input's end, and no other is
abbrev pub at_end : List ℕ → Bool
at_end [] = true
at_end (byte ∷ rest) = false

-- all that was read and all that was written so far, the state, where what is held begins in the input, what is held, and whether the
-- input is at its end: nothing at first; short of its end more is read, behind what is held; and a turn that is not the last is written
pub data Course : List ℕ → List ℕ → State → ℕ → List ℕ → Bool → Type 0 where
  begun : Course [] [] fresh 0 [] false
  reads :
      {read written : List ℕ} {s : State} {base : ℕ} {held : List ℕ} →
      Course read written s base held false →
      (bytes : List ℕ) →
      Course (read ++ bytes) written s base (held ++ bytes) (at_end bytes)
  turns :
      {read written : List ℕ} {s : State} {base : ℕ} {held : List ℕ} {done : Bool} →
      Course read written s base held done →
      {state : State} {held' : List ℕ} {r : Turned} {page : List ℕ} →
      Shows s held base state held' r page →
      (r.next ≡ End → ⊥) →
      Course read (written ++ take r.used page) state r.base held' done

-- a program has read so much, and is not at the input's end
pub record ShortOfEnd (read : List ℕ) : Type 0 where
  pub written : List ℕ
  pub state : State
  pub base : ℕ
  pub held : List ℕ
  pub course : Course read written state base held false

-- so many whole records of what was read are run from the fresh state on: the state is theirs, and what is held stands behind them
pub record RunSoFar (read : List ℕ) (s : State) (base : ℕ) (held : List ℕ) : Type 0 where
  pub steps : ℕ
  pub answers : List Answered
  pub ran : Ran fresh read 0 steps s base answers
  pub rest : held ≡ drop base read
