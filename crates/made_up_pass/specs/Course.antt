-- What the program has written, piece by piece. Assumes nothing.
use Rattle.std.specs.Prelude.{List, [], ◌++◌, ℕ, take, Ok}
use Rattle.made_up_pass.specs.Piece.{Pieced}
use Rattle.made_up_pass.specs.declared.Piece.{Piece}

-- A pass of so many records from a seed, as far as it is written: the word that the generator stands at, how many records are left, and the
-- bytes that were written.
pub data Course (seed count : ℕ) : ℕ → ℕ → List ℕ → Type 0 where
  begun : Course seed count seed count []
  further : {word left : ℕ} {written buffer after : List ℕ} {p : Piece} → Pieced word left buffer (Ok p) after
      → Course seed count word left written → Course seed count p.word.0 p.left (written ++ take p.bytes after)

-- the program stands so in the course of its pass
pub record Stands (seed count word left : ℕ) : Type 0 where
  pub written : List ℕ
  pub course : Course seed count word left written
