-- What is left of a buffer goes to its front. Paper 01, "The printed run". Assumes nothing.
use Rattle.std.specs.Prelude.{◌≡◌, List, ℕ, ◌-◌, length, take, drop}

-- a buffer holds at its front, and so many bytes, what it held from a position on
pub record Kept (before : List ℕ) (from held : ℕ) (after : List ℕ) (kept : ℕ) : Type 0 where
  pub counts : kept ≡ held - from
  pub holds : take kept after ≡ drop from (take held before)
  pub room : length after ≡ length before
