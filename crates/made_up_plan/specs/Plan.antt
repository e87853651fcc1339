-- What the program does by its arguments. Assumes nothing.
use Rattle.std.specs.Prelude.{cond, ℕ, ◌^◌, ◌-◌, ltb, Result, Ok, Err}
use Rattle.made_up_argument.specs.Argument.{Argument}
use Rattle.made_up_plan.specs.declared.Pass.{Pass}
use Rattle.made_up_plan.specs.declared.Problem.{Problem}
use Rattle.made_up_plan.specs.declared.Problem.TheVariants.{TooMany, Missing, Faulty}
use Rattle.made_up_plan.specs.declared.Which.{Which}
use Rattle.made_up_plan.specs.declared.Which.TheVariants.{Seed, Count}

-- the most that an argument may be: a seed is a word of 32 bits, a count a number of 64
abbrev pub most : Which → ℕ
most Seed = 2 ^ 32 - 1
most Count = 2 ^ 64 - 1

-- a pass is written, or it is said what is wrong
abbrev pub Plan : Type 0
Plan = Result Pass Problem

-- a pass is written of two numbers; else it is said what is wrong, of the seed before the count
abbrev pub pass_of : Argument → Argument → Plan
pass_of (Ok seed) (Ok count) = Ok (record { seed = seed; count = count })
pass_of (Ok seed) (Err fault) = Err (Faulty Count fault)
pass_of (Err fault) count = Err (Faulty Seed fault)

-- by how many words the program is given, its own name among them, and what the two behind it say: how many there are comes before what
-- they are
abbrev pub plan_of : ℕ → Argument → Argument → Plan
plan_of given seed count =
    cond (ltb 3 given) (Err TooMany)
    (cond (ltb given 2) (Err (Missing Seed)) (cond (ltb given 3) (Err (Missing Count)) (pass_of seed count)))
