-- What the program says of its arguments where something is wrong with them, a line in ASCII. Assumes nothing.
use Rattle.std.specs.Prelude.{List, ◌++◌, ℕ, ◌+◌}
use Rattle.print_page.specs.Ascii.{ascii}
use Rattle.made_up_argument.specs.declared.Fault.{Fault}
use Rattle.made_up_argument.specs.declared.Fault.TheVariants.{NoNumber, TooLarge, TooLong}
use Rattle.made_up_plan.specs.declared.Problem.{Problem}
use Rattle.made_up_plan.specs.declared.Problem.TheVariants.{TooMany, Missing, Faulty}
use Rattle.made_up_plan.specs.declared.Which.{Which}
use Rattle.made_up_plan.specs.declared.Which.TheVariants.{Seed, Count}

-- an argument by its place and its name
abbrev pub name_words : Which → List ℕ
name_words Seed = ascii "made_up: argument 1, SEED, "
name_words Count = ascii "made_up: argument 2, COUNT, "

-- what is wrong with an argument
abbrev pub fault_words : Which → Fault → List ℕ
fault_words which NoNumber = ascii "is no decimal number\n"
fault_words Seed TooLarge = ascii "is above 4294967295\n"
fault_words Count TooLarge = ascii "is above 18446744073709551615\n"
fault_words which TooLong = ascii "is longer than 4096 bytes\n"

-- what is wrong with the arguments
abbrev pub problem_words : Problem → List ℕ
problem_words TooMany = ascii "made_up: argument 3 is too much\n"
problem_words (Missing which) = name_words which ++ ascii "is missing\n"
problem_words (Faulty which fault) = name_words which ++ fault_words which fault

-- the most bytes that these take
abbrev pub name_room : ℕ
name_room = 28

abbrev pub fault_room : ℕ
fault_room = 30

abbrev pub problem_room : ℕ
problem_room = name_room + fault_room
