-- What a maker of a log answers, and what it leaves in the buffer. Paper 02, change 1: "The answer is the bytes written; the buffer beyond
-- them is untouched. Checks: 26 for seed zero, then 27 for a buffer shorter than 7 times n bytes; neither writes a byte." Assumes nothing.
use Rattle.std.specs.Prelude.{cond, List, [], ◌++◌, ℕ, ◌*◌, eqb, ltb, length, drop, Result, Ok, Err}
use Rattle.generator_record.specs.MadeUp.{longest, made_log, log_leaves}
use Rattle.generator.specs.declared.Unmade.{Unmade}
use Rattle.generator.specs.declared.Unmade.TheVariants.{SeedZero, TooShort}
use Rattle.generator.specs.declared.Word.{Word}

-- all that there is afterwards: the number, the bytes written, the word that they leave, and the buffer
pub record Outcome : Type 0 where
  pub number : ℕ
  pub bytes : ℕ
  pub word : ℕ
  pub buffer : List ℕ

-- "neither writes a byte"
abbrev pub refuses : ℕ → List ℕ → Outcome
refuses number buffer = record { number = number; bytes = 0; word = 0; buffer = buffer }

-- the paper's number of each refusal
abbrev pub number : Unmade → ℕ
number SeedZero = 26
number TooShort = 27

-- the bytes written and the word that they leave, or a refusal
abbrev pub Made : Type 0
Made = Result (ℕ × Word) Unmade

-- the paper's number and values of each answer, 0 where a log was written, beside the buffer
abbrev pub outcome : Made → List ℕ → Outcome
outcome (Ok made) buffer = record { number = 0; bytes = made.0; word = made.1.0; buffer = buffer }
outcome (Err why) buffer = refuses (number why) buffer

-- the number alone
abbrev pub number_of : Made → ℕ
number_of made = (outcome made []).number

-- "The answer is the bytes written; the buffer beyond them is untouched."
abbrev pub writes : List ℕ → ℕ → List ℕ → Outcome
writes log word buffer =
    record { number = 0; bytes = length log; word = word; buffer = log ++ drop (length log) buffer }

-- "26 for seed zero, then 27 for a buffer shorter than 7 times n bytes"; else the log of n records from the word
abbrev pub makes : ℕ → ℕ → List ℕ → Outcome
makes word n buffer =
    cond (eqb word 0) (refuses 26 buffer)
    (cond (ltb (length buffer) (longest * n)) (refuses 27 buffer) (writes (made_log n word) (log_leaves n word) buffer))
