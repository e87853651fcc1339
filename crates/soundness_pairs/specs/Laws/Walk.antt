-- The pairs of ranks as one walk, row after row. Assumes nothing.
use Rattle.std.specs.Prelude.{◌≡◌, Bool, true, false, ℕ, ◌/◌, ◌%◌, ◌<◌}
use Rattle.std.proofs.Common.{arith}
use Rattle.base.specs.Below.{all_below}
use Rattle.base.specs.Laws.Below.{all_below_at, all_below_of}
use Rattle.base.specs.Laws.Tests.{by_test, same_truth}
use Rattle.transit.specs.Message.{rank, ranks, cells}
use Rattle.transit.specs.declared.Rank.{Rank}
use Rattle.protocol.specs.Laws.Ranks.{every_pair_at, every_pair_of}
use Rattle.broker.specs.Ranks.{every_pair}
use Rattle.broker.specs.State.{cell}

-- Each number is the cell of its row and its column.
pub cell_of : (k : ℕ) → cell (rank (k / ranks)) (rank (k % ranks)) ≡ k
cell_of k = omega arith

-- The row and the column of a cell are its two ranks.
of_cell : (a b : Rank) → b.0 < ranks → (cell a b / ranks ≡ a.0) × (cell a b % ranks ≡ b.0)
of_cell a b inside = omega arith

module _ (f : Rank → Rank → Bool) where
  -- A test that fails at a cell's row and column fails at a pair.
  pub cell_fails : (k : ℕ) → k < cells → f (rank (k / ranks)) (rank (k % ranks)) ≡ false → every_pair f ≡ false
  cell_fails k inside fails =
      by_test (every_pair f) (λ h. cc (every_pair_at f h (rank (k / ranks)) (rank (k % ranks)) (omega arith) (omega arith))) (λ h. h)

  -- One that passes at each cell's passes at every pair.
  pub cells_pass : ((k : ℕ) → k < cells → f (rank (k / ranks)) (rank (k % ranks)) ≡ true) → every_pair f ≡ true
  cells_pass all =
      every_pair_of f (λ a b h i. let is = of_cell a b i in rw (is.0, is.1) at (all (cell a b) (omega arith)))

-- A test passes at every pair exactly where it passes at each cell's row and column.
pub every_cell : (f : Rank → Rank → Bool) → all_below cells (λ k. f (rank (k / ranks)) (rank (k % ranks))) ≡ every_pair f
every_cell f =
    let at : ℕ → Bool = λ k. f (rank (k / ranks)) (rank (k % ranks)) in
    same_truth (all_below cells at) (every_pair f) (λ all. cells_pass f (all_below_at cells at all))
    (λ all. all_below_of cells at (λ k b. every_pair_at f all (rank (k / ranks)) (rank (k % ranks)) (omega arith) (omega arith)))
