-- Whole columns of a roster: what a pass that loads one has made of it so far, and what one that unloads it has read. Assumes nothing.
use Rattle.std.specs.Prelude.{◌≡◌, List, ℕ, ◌+◌, ◌*◌, ◌<◌, ◌≤◌, length, get_or}
use Rattle.base.specs.Lists.{tabulate}
use Rattle.transit.specs.Message.{ranks}
use Rattle.broker.specs.Names.{unknown}
use Rattle.broker.specs.State.{State}
use Rattle.broker.specs.declared.process.Process.{Process}
use Rattle.broker.specs.declared.process.Vmid.{Vmid}
use Rattle.roster.specs.Roster.{location_in, Whole}

-- all processes of a state
abbrev pub with_processes : List Process → State → State
with_processes ps s =
    record { processes = ps; locations = s.locations; links = s.links; drawn = s.drawn; unread = s.unread }

-- the numbers drawn on all hosts
abbrev pub with_all_drawn : List ℕ → State → State
with_all_drawn ns s =
    record { processes = s.processes; locations = s.locations; links = s.links; drawn = ns; unread = s.unread }

-- a's table among the tables: "one row an array of sixteen"
abbrev pub row_of : ℕ → List Vmid → List Vmid
row_of a ls = tabulate ranks (λ k. get_or ls (ranks * a + k) unknown)

-- a's table in a roster
abbrev pub row_in : ℕ → List ℕ → List Vmid
row_in a l = tabulate ranks (λ k. location_in l (ranks * a + k))

-- a list of the full length of which the first n are f 0, f 1, .. up to f (n - 1)
pub record Copying {A : Type 0} (f : ℕ → A) (d : A) (full n : ℕ) (xs : List A) : Type 0 where
  pub below : n ≤ full
  pub long : length xs ≡ full
  pub copied : (k : ℕ) → k < n → f k ≡ get_or xs k d

-- the roster is whole, and no number outside of `from` up to `to` has changed
pub record Outside (from to : ℕ) (before after : List ℕ) : Type 0 where
  pub whole : Whole after
  pub same : (j : ℕ) → (from ≤ j → j < to → ⊥) → get_or after j 0 ≡ get_or before j 0

-- the first n entries are those of xs, and no number outside of `from` up to `to` has changed
pub record Filled {A : Type 0} (entry : List ℕ → ℕ → A) (d : A) (xs : List A) (n from to : ℕ) (before after : List ℕ) : Type 0 where
  pub kept : Outside from to before after
  pub filled : (k : ℕ) → k < n → entry after k ≡ get_or xs k d
