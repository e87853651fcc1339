-- Laws of how a pass ends: which seeds are refused. Assumes nothing.
use Rattle.std.specs.Prelude.{Bool, List, ◌≢◌, ◌≡◌, refl, ℕ, ◌≤◌, ◌<◌, length, Result, Ok, Err}
use Rattle.std.proofs.Common.{ap, ◌∙◌, arith, eq-eqb, ne_eqb}
use Rattle.base.specs.Laws.Tests.{by_test, by_equal}
use Rattle.std.specs.declared.ops.ControlFlow.TheVariants.{Continue, Break}
use Rattle.generator.specs.Answer.{Outcome, number}
use Rattle.generator.specs.declared.Unmade.{Unmade}
use Rattle.generator.specs.declared.Unmade.TheVariants.{SeedZero, TooShort}
use Rattle.generator_draw.specs.Draw.{words}
use Rattle.generator.specs.Laws.Answer.{is_written}
use Rattle.generator.specs.Laws.MadeUp.{IsWord, leaves_word}
use Rattle.made_up_pass.specs.Course.Course.{begun, further}
use Rattle.made_up_pass.specs.Course.{Course, Stands}
use Rattle.made_up_pass.specs.Ending.{Ending, next_of, Because, Ends, Told}
use Rattle.made_up_pass.specs.Laws.Course.{course_ends}
use Rattle.made_up_pass.specs.Laws.Piece.{piece_records_lem, piece_word}
use Rattle.made_up_pass.specs.Piece.{piece_room, piece_records, Pieced}
use Rattle.made_up_pass.specs.declared.Piece.{Piece}
use Rattle.made_up_pass.specs.declared.Stop.TheVariants.{Refused, Unwritten}

-- No refusal has the number 0.
numbered : (why : Unmade) → number why ≢ 0
numbered SeedZero none = omega arith
numbered TooShort none = omega arith

-- A piece is refused just for a word of zero, and then with 26.
module _ {word left : ℕ} {buffer after : List ℕ} where
  good_word : {p : Piece} → Pieced word left buffer (Ok p) after → word ≢ 0
  good_word pieced zero =
      let refused : ◌≡◌ {A = ℕ} 0 26 = rw zero at (ap (λ (o : Outcome). o.number) pieced.made) in omega arith

  refused_word : {why : Unmade} → Pieced word left buffer (Err why) after → piece_room ≤ length buffer → (number why ≡ 26) × (word ≡ 0)
  refused_word {why} pieced room =
      let given = ap (λ (o : Outcome). o.number) pieced.made in
      by_equal word 0 (λ zero. (given ∙ rw zero, zero))
      (λ some. let none : number why ≡ 0 = given ∙
      ap (λ (o : Outcome). o.number) (is_written word (piece_records left) buffer some (omega (arith, (piece_records_lem left).1))) in
      absurd (numbered why none))

-- A good seed leads to words that are not zero, and zero to no piece.
module _ {seed count : ℕ} where
  good_seed : {word left : ℕ} {written : List ℕ} → Course seed count word left written → word ≢ 0 → seed ≢ 0
  good_seed begun some = some
  good_seed (further pieced course) some = good_seed course (good_word pieced)

  stays_word : IsWord seed → {word left : ℕ} {written : List ℕ} → Course seed count word left written → IsWord word
  stays_word good begun = good
  stays_word good (further {word} {left} pieced course) =
      rw (piece_word pieced) (leaves_word (piece_records left) word (stays_word good course))

  seed_good : {word left : ℕ} {written buffer after : List ℕ} {p : Piece} → Course seed count word left written
      → Pieced word left buffer (Ok p) after → seed ≢ 0
  seed_good course pieced = good_seed course (good_word pieced)

  seed_zero : seed < words → {word left : ℕ} {written : List ℕ} → Course seed count word left written → word ≡ 0 → seed ≡ 0
  seed_zero within course zero =
      by_equal seed 0 (λ e. e)
      (λ some. let word = (stays_word (record { some = omega arith; within = within }) course).some in absurd (omega arith))

-- What is next is so because of the piece and of whether it was written.
pub because : (piece : Result Piece Unmade) (written : Bool) → Because piece written (next_of piece written)
because (Ok p) written =
    by_test written
    (λ all. rw all (by_equal p.left 0 (λ none. rw (eq-eqb p.left 0 none) (refl, none))
    (λ more. rw (ne_eqb p.left 0 more) (refl, refl, more))))
    (λ short. rw short refl)
because (Err why) written = refl

-- Where the next piece is made, the program stands behind the one before it in the course of its pass: a refused piece is no such one.
pub goes_on : {seed count word left : ℕ} {written buffer after : List ℕ} → Course seed count word left written →
    (piece : Result Piece Unmade) → Pieced word left buffer piece after → (done : Bool) (next : Piece) →
    Because piece done (Continue next) → Stands seed count next.word.0 next.left
goes_on course (Ok p) pieced done next why = rw why.0 (record { written = _; course = further pieced course })
goes_on course (Err why) pieced done next is = cc

-- A pass whose seed is a word ends as it may end.
module _ {seed count word left : ℕ} {written buffer after : List ℕ} (within : seed < words)
    (course : Course seed count word left written) (room : piece_room ≤ length buffer) where
  pub ends_so : (piece : Result Piece Unmade) → Pieced word left buffer piece after → (done : Bool) (ending : Ending) →
      Because piece done (Break ending) → Ends seed count ending
  ends_so (Ok p) pieced done (Ok whole) why =
      let all = rw why.1 at (further pieced course) in
      record { good = seed_good course pieced; word = p.word.0; written = _; course = all; pass = course_ends all }
  ends_so (Ok p) pieced done (Err (Refused other)) why = absurd why
  ends_so (Ok p) pieced done (Err Unwritten) why = seed_good course pieced
  ends_so (Err why) pieced done ending is =
      let refused = refused_word pieced room in
      let ends : Ends seed count (Err (Refused why)) = (refused.0, seed_zero within course refused.1) in
      let same : ending ≡ Err (Refused why) = cc in
      rw same ends

-- So the program has words for it.
pub ends_told : (seed count : ℕ) (ending : Ending) → Ends seed count ending → Told ending
ends_told seed count (Ok whole) ends = tt
ends_told seed count (Err (Refused why)) ends = ends.0
ends_told seed count (Err Unwritten) ends = tt
