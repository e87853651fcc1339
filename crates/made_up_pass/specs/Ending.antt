-- When the writing of a pass ends, how, and what is said of it. Paper 02, change 1. Assumes nothing.
use Rattle.std.specs.Prelude.{Bool, true, false, cond, List, [], ◌++◌, ◌≢◌, ◌≡◌, ℕ, eqb, Result, Ok, Err}
use Rattle.std.specs.declared.ops.ControlFlow.{ControlFlow}
use Rattle.std.specs.declared.ops.ControlFlow.TheVariants.{Continue, Break}
use Rattle.generator.specs.Answer.{number}
use Rattle.generator.specs.declared.Unmade.{Unmade}
use Rattle.generator_record.specs.MadeUp.{made_log}
use Rattle.print_page.specs.Ascii.{ascii}
use Rattle.print_page.specs.Text.{decimal}
use Rattle.made_up_pass.specs.Course.{Course}
use Rattle.made_up_pass.specs.declared.Piece.{Piece}
use Rattle.made_up_pass.specs.declared.Stop.{Stop}
use Rattle.made_up_pass.specs.declared.Stop.TheVariants.{Refused, Unwritten}

-- all of a pass is written, or its writing stops
abbrev pub Ending : Type 0
Ending = Result (Unit {0}) Stop

-- the next piece is made, from this one on, or the writing ends so
abbrev pub Next : Type 0
Next = ControlFlow Ending Piece

-- what is next behind a piece, of which all was written or not: a refusal comes before a failed write, and the pass is whole where no
-- record is left
abbrev pub next_of : Result Piece Unmade → Bool → Next
next_of (Ok p) written = cond written (cond (eqb p.left 0) (Break (Ok tt)) (Continue p)) (Break (Err Unwritten))
next_of (Err why) written = Break (Err (Refused why))

-- why that is next
abbrev pub Because : Result Piece Unmade → Bool → Next → Type 0
Because (Ok p) written (Continue next) = (next ≡ p) × (written ≡ true) × (p.left ≢ 0)
Because (Ok p) written (Break (Ok whole)) = (written ≡ true) × (p.left ≡ 0)
Because (Ok p) written (Break (Err (Refused why))) = ⊥
Because (Ok p) written (Break (Err Unwritten)) = written ≡ false
Because (Err why) written next = next ≡ Break (Err (Refused why))

-- every piece of the pass of a good seed was handed to the output, no record is left, and the pieces are the pass
pub record Handed (seed count : ℕ) : Type 0 where
  pub good : seed ≢ 0
  pub word : ℕ
  pub written : List ℕ
  pub course : Course seed count word 0 written
  pub pass : written ≡ made_log count seed

-- all is handed over; or "26 for seed zero", and no other refusal; or the output failed, of a pass that is not refused
abbrev pub Ends : ℕ → ℕ → Ending → Type 0
Ends seed count (Ok whole) = Handed seed count
Ends seed count (Err (Refused why)) = (number why ≡ 26) × (seed ≡ 0)
Ends seed count (Err Unwritten) = seed ≢ 0

-- the program has words for this ending: for "26 for seed zero", which is the one refusal that there is
abbrev pub Told : Ending → Type 0
Told (Ok whole) = Unit {0}
Told (Err (Refused why)) = number why ≡ 26
Told (Err Unwritten) = Unit {0}

-- what it says of an ending
abbrev pub ending_words : Ending → List ℕ
ending_words (Ok whole) = []
ending_words (Err (Refused why)) = ascii "made_up: refused with " ++ decimal (number why) ++ ascii ": the seed is zero\n"
ending_words (Err Unwritten) = ascii "made_up: standard output cannot be written\n"

-- the most bytes that this takes
abbrev pub ending_room : ℕ
ending_room = 43
