-- Checks in turn: a verdict that each check may settle, and the first that fails decides. Assumes nothing.
use Rattle.std.specs.Prelude.{Bool, cond, List, [], ◌∷◌, ⊤, Result, Ok, Err}
use Rattle.std.proofs.Math.Option.{Option, none, some}
use Rattle.answer.specs.declared.Refusal.{Refusal}

-- the refusal of a verdict, if it is one
abbrev pub verdict_of : Result ⊤ Refusal → Option Refusal
verdict_of (Ok x) = none
verdict_of (Err n) = some n

-- no check failed
abbrev pub passed : Option Refusal
passed = none

-- the refusal so far, or, where there is none, this one if its check fails
abbrev pub or_else : Option Refusal → Bool → Refusal → Option Refusal
or_else (some m) fails n = some m
or_else none fails n = cond fails (some n) none

-- a check made: whether it fails, and the refusal that it then gives
pub record Test : Type 0 where
  pub fails : Bool
  pub refusal : Refusal

abbrev pub test : Bool → Refusal → Test
test b n = record { fails = b; refusal = n }

-- the refusal so far, or, where there is none, that of the first of these checks that fails
abbrev pub judged : Option Refusal → List Test → Option Refusal
judged v [] = v
judged v (t ∷ ts) = judged (or_else v t.fails t.refusal) ts
