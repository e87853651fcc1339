-- What is done by some arguments, computed from the definitions. Assumes nothing.
use Rattle.std.specs.Prelude.{◌≡◌, refl, Ok, Err}
use Rattle.made_up_argument.specs.declared.Fault.TheVariants.{NoNumber, TooLarge, TooLong}
use Rattle.made_up_plan.specs.Plan.{plan_of}
use Rattle.made_up_plan.specs.declared.Problem.TheVariants.{TooMany, Missing, Faulty}
use Rattle.made_up_plan.specs.declared.Which.TheVariants.{Seed, Count}

-- the program's own name and two numbers
pub pass_of_two : plan_of 3 (Ok 7) (Ok 12) ≡ Ok (record { seed = 7; count = 12 })
pass_of_two = refl

-- fewer words, and more
pub name_alone : plan_of 1 (Err TooLong) (Err TooLong) ≡ Err (Missing Seed)
name_alone = refl

pub one_argument : plan_of 2 (Err NoNumber) (Err TooLong) ≡ Err (Missing Count)
one_argument = refl

pub three_arguments : plan_of 4 (Err NoNumber) (Err NoNumber) ≡ Err TooMany
three_arguments = refl

-- the seed comes before the count
pub seed_first : plan_of 3 (Err NoNumber) (Err TooLarge) ≡ Err (Faulty Seed NoNumber)
seed_first = refl
