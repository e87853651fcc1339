-- What the entries promise, read off their contracts. Assumes nothing.
use Rattle.std.specs.Prelude.{List, [], ◌∷◌, ◌++◌, ◌≡◌, refl, ℕ, length, drop, Ok, Err}
use Rattle.std.proofs.Common.{ap, ap₂, ◌∙◌, arith}
use Rattle.answer.specs.Answer.{number, NeverEighteen}
use Rattle.generator.specs.Answer.{Made, Outcome, refuses, outcome, writes, makes}
use Rattle.generator.specs.Laws.Answer.{too_short, is_written}
use Rattle.generator.specs.declared.Unmade.TheVariants.{SeedZero, TooShort}
use Rattle.generator_record.specs.MadeUp.{made_log, log_leaves}
use Rattle.print_piece.specs.Ran.{NeverEighteenIn}
use Rattle.print_run.specs.Run.{Answered}
use Rattle.promises.specs.Entries.{EachAnswer, Makes}

-- No answer of a run has the number 18.
pub never_in_a_run : (answers : List Answered) → NeverEighteenIn answers → EachAnswer (λ a. number a ≡ 18 → ⊥) answers
unfolding NeverEighteen
never_in_a_run [] h = tt
never_in_a_run (a ∷ rest) h = (h.0, never_in_a_run rest h.1)

-- What a maker of a log answers, by what it comes to.
module _ (buffer after : List ℕ) where
  is_26 : (made : Made) → outcome made after ≡ refuses 26 buffer → (made ≡ Err SeedZero) × (after ≡ buffer)
  is_26 (Ok made) e = let z : ◌≡◌ {A = ℕ} 0 26 = ap (λ (o : Outcome). o.number) e in absurd (omega arith)
  is_26 (Err SeedZero) e = (refl, ap (λ (o : Outcome). o.buffer) e)
  is_26 (Err TooShort) e = let z : ◌≡◌ {A = ℕ} 27 26 = ap (λ (o : Outcome). o.number) e in absurd (omega arith)

  is_27 : (made : Made) → outcome made after ≡ refuses 27 buffer → (made ≡ Err TooShort) × (after ≡ buffer)
  is_27 (Ok made) e = let z : ◌≡◌ {A = ℕ} 0 27 = ap (λ (o : Outcome). o.number) e in absurd (omega arith)
  is_27 (Err SeedZero) e = let z : ◌≡◌ {A = ℕ} 26 27 = ap (λ (o : Outcome). o.number) e in absurd (omega arith)
  is_27 (Err TooShort) e = (refl, ap (λ (o : Outcome). o.buffer) e)

  is_written_log : (log : List ℕ) (left : ℕ) (made : Made) → outcome made after ≡ writes log left buffer →
      (made ≡ Ok (length log, record { 0 = left })) × (after ≡ log ++ drop (length log) buffer)
  is_written_log log left (Ok made) e = (
    ap₂ (λ (n w : ℕ). Ok (n, record { 0 = w })) (ap (λ (o : Outcome). o.bytes) e) (ap (λ (o : Outcome). o.word) e),
    ap (λ (o : Outcome). o.buffer) e,
  )
  is_written_log log left (Err SeedZero) e = let z : ◌≡◌ {A = ℕ} 26 0 = ap (λ (o : Outcome). o.number) e in absurd (omega arith)
  is_written_log log left (Err TooShort) e = let z : ◌≡◌ {A = ℕ} 27 0 = ap (λ (o : Outcome). o.number) e in absurd (omega arith)

  pub makes_so : (word n : ℕ) (made : Made) → outcome made after ≡ makes word n buffer → Makes word n buffer made after
  makes_so word n made e =
      record {
        seed_zero = λ zero. is_26 made (e ∙ rw zero);
        too_short = λ some short. is_27 made (e ∙ too_short word n buffer some short);
        written = λ some room. is_written_log (made_log n word) (log_leaves n word) made (e ∙ is_written word n buffer some room);
      }
