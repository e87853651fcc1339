-- Laws of the text of a run: steps in front are lines in front. Assumes nothing.
use Rattle.std.specs.Prelude.{◌≡◌, refl, List, [], ◌∷◌, ◌++◌}
use Rattle.std.proofs.Common.{append_assoc}
use Rattle.print_run.specs.Printed.{lines_of, text_of}
use Rattle.print_run.specs.Run.{Answered, Came, behind}

pub lines_append : (xs ys : List Answered) → lines_of (xs ++ ys) ≡ lines_of xs ++ lines_of ys
lines_append [] ys = refl
lines_append (x ∷ xs) ys = rw (lines_append xs ys, append_assoc)

pub text_behind : (xs : List Answered) (c : Came) → text_of (behind xs c) ≡ lines_of xs ++ text_of c
text_behind xs c = rw (lines_append xs, append_assoc)
