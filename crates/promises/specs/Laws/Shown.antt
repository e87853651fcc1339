-- What the runs of a table print, to be computed. Assumes nothing.
use Rattle.std.specs.Prelude.{List, [], ◌∷◌, map, ◌≡◌, refl}
use Rattle.broker.specs.State.{fresh}
use Rattle.print_run.specs.Printed.{printed}
use Rattle.print_run.proofs.Shown.{shown, prints_shown}
use Rattle.promises.specs.Words.{Run}

pub all_shown : (rs : List Run) →
    map (λ (r : Run). printed fresh r.log) rs ≡ map (λ (r : Run). shown r.log) rs
all_shown [] = refl
all_shown (r ∷ rs) = rw (prints_shown r.log, all_shown rs)
