-- A seed that is a number is a word.
use Rattle.std.proofs.Common.{◌≡◌, ℕ, ◌-◌, ◌^◌, ◌≤◌, Ok, Err, Result, arith}
use Rattle.std.specs.Prelude.{MatchResult, IsErrAnd}
use Rattle.made_up_argument.specs.Argument.{Argument, Within}
use Rattle.made_up_argument.specs.Laws.Argument.{within}
use Rattle.made_up_argument.specs.declared.Fault.{Fault}
use Rattle.made_up_plan.proofs.plan_of.Goals as goal

-- What is said of a fault leaves a number as it is.
as_said : {D : Type 0} (most : ℕ) (said : Argument) (answer : Result ℕ D) (P : Fault → D → Type 0) (word : ℕ) →
    MatchResult said (λ n. answer ≡ Ok n) (λ fault. IsErrAnd answer (P fault)) → answer ≡ Ok word → Within most said → word ≤ most
as_said most (Ok n) answer P word cases is number = let same : n ≡ word = cc in omega (arith, number)
as_said most (Err fault) answer P word cases is number = absurd (rw is at cases)

pub overflow_cast-result : goal.overflow_cast-result
overflow_cast-result c =
    let number : Within (2 ^ 32 - 1) c.argument_of.result = rw (c.argument_of.ensures, c.most.ensures) (within (2 ^ 32 - 1) _) in
    let word = as_said (2 ^ 32 - 1) _ _ _ _ c.map_err.ensures.cases c.in_ok-word.was number in
    record { fits = omega (arith, word) }
