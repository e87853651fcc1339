-- Ends that a pass does not have, so that the promise of its writing says something; what is next behind some pieces, and what is said.
-- Assumes nothing.
use Rattle.std.specs.Prelude.{true, false, ◌≡◌, refl, ℕ, Ok, Err}
use Rattle.std.proofs.Common.{true≢false, sym, arith}
use Rattle.std.specs.declared.ops.ControlFlow.TheVariants.{Continue, Break}
use Rattle.generator.specs.declared.Unmade.TheVariants.{SeedZero, TooShort}
use Rattle.print_page.specs.Ascii.{ascii}
use Rattle.print_page.specs.Text.{decimal}
use Rattle.made_up_pass.specs.Ending.{next_of, Because, Ends, ending_words}
use Rattle.made_up_pass.specs.declared.Piece.{Piece}
use Rattle.made_up_pass.specs.declared.Stop.TheVariants.{Refused, Unwritten}

-- a piece of eight bytes with so many records left
abbrev eight_bytes : ℕ → Piece
eight_bytes left = record { bytes = 8; word = record { 0 = 7 }; left = left }

-- seed zero has no pass, not even one of no records
pub zero_not_whole : Ends 0 0 (Ok tt) → ⊥
zero_not_whole ends = ends.good refl

pub zero_not_unwritten : Ends 0 0 (Err Unwritten) → ⊥
zero_not_unwritten good = good refl

-- 27 is not given, and a good seed is not refused
pub not_short : Ends 0 1 (Err (Refused TooShort)) → ⊥
not_short ends = let number = ends.0 in omega arith

pub good_not_refused : Ends 1 1 (Err (Refused SeedZero)) → ⊥
good_not_refused ends = let seed = ends.1 in omega arith

-- a piece that was written, with a record left and with none
pub one_left : next_of (Ok (eight_bytes 1)) true ≡ Continue (eight_bytes 1)
one_left = refl

pub none_left : next_of (Ok (eight_bytes 0)) true ≡ Break (Ok tt)
none_left = refl

-- a write that fails ends it, and a refusal comes before that
pub last_unwritten : next_of (Ok (eight_bytes 0)) false ≡ Break (Err Unwritten)
last_unwritten = refl

pub refusal_first : next_of (Err SeedZero) false ≡ Break (Err (Refused SeedZero))
refusal_first = refl

pub refusal_said : ending_words (Err (Refused SeedZero)) ≡ ascii "made_up: refused with 26: the seed is zero\n"
unfolding decimal
refusal_said = refl

-- a piece that was not written is no reason to end well or to go on, and one that was is none to stop
pub unwritten_not_whole : Because (Ok (eight_bytes 0)) false (Break (Ok tt)) → ⊥
unwritten_not_whole why = true≢false (sym why.0)

pub unwritten_not_again : (next : Piece) → Because (Ok (eight_bytes 1)) false (Continue next) → ⊥
unwritten_not_again next why = true≢false (sym why.1)

pub written_no_fault : Because (Ok (eight_bytes 0)) true (Break (Err Unwritten)) → ⊥
written_no_fault why = true≢false why
