-- Laws of what a maker of a log answers: each of its three cases, and that equal seeds give equal logs. Assumes nothing.
use Rattle.std.specs.Prelude.{◌≡◌, refl, List, ◌++◌, ◌≢◌, ℕ, ◌+◌, ◌*◌, ◌≤◌, ◌<◌, length, take, drop}
use Rattle.std.proofs.Common.{sym, ◌∙◌, arith, ne_eqb, lt-ltb, le-ltb}
use Rattle.std.proofs.Math.Seq.{take-append_seam}
use Rattle.base.specs.Laws.Tests.{by_equal, by_less}
use Rattle.generator.specs.Answer.{Outcome, refuses, writes, makes}
use Rattle.generator.specs.Laws.MadeUp.{log_goes_on}
use Rattle.generator_record.specs.MadeUp.{longest, made_log, log_leaves}

module _ (word n : ℕ) (buffer : List ℕ) (some : word ≢ 0) where
  pub too_short : length buffer < longest * n → makes word n buffer ≡ refuses 27 buffer
  too_short h = rw (ne_eqb word 0 some, lt-ltb (length buffer) (longest * n) h)

  pub is_written : longest * n ≤ length buffer → makes word n buffer ≡ writes (made_log n word) (log_leaves n word) buffer
  is_written h = rw (ne_eqb word 0 some, le-ltb (length buffer) (longest * n) h)

-- the bytes that were written
abbrev pub written : Outcome → List ℕ
written o = take o.bytes o.buffer

-- What is written, where nothing is refused, is the log from that word: so many bytes, and the word left is the one that it leaves.
pub what_is_written : (word n : ℕ) (buffer : List ℕ) → (makes word n buffer).number ≡ 0
    → (written (makes word n buffer) ≡ made_log n word) × ((makes word n buffer).word ≡ log_leaves n word)
    × ((makes word n buffer).bytes ≡ length (made_log n word))
what_is_written word n buffer accepted =
    by_equal word 0 (λ e. let refused : 26 ≡ 0 = rw e at accepted in absurd (omega arith))
    (λ some. by_less (length buffer) (longest * n)
    (λ h. let refused : 27 ≡ 0 = rw (too_short word n buffer some h) at accepted in absurd (omega arith))
    (λ h. rw (is_written word n buffer some h) (take-append_seam (made_log n word) (drop (length (made_log n word)) buffer), refl, refl)))

-- Equal seeds give equal logs, whatever the two buffers held.
pub equal_seeds : (word n : ℕ) (one other : List ℕ) → (makes word n one).number ≡ 0 → (makes word n other).number ≡ 0
    → written (makes word n one) ≡ written (makes word n other)
equal_seeds word n one other p q = (what_is_written word n one p).0 ∙ sym (what_is_written word n other q).0

-- A log that is made in two parts, the second from the word that the first left, is the log that is made at once.
pub in_two_parts : (word n m : ℕ) (whole first second : List ℕ) → (makes word (n + m) whole).number ≡ 0 → (makes word n first).number ≡ 0
    → (makes (makes word n first).word m second).number ≡ 0
    → written (makes word (n + m) whole) ≡ written (makes word n first) ++ written (makes (makes word n first).word m second)
in_two_parts word n m whole first second p q r =
    let front = what_is_written word n first q in
    rw ((what_is_written word (n + m) whole p).0, front.0, (what_is_written (makes word n first).word m second r).0, front.1)
    (log_goes_on m n word)
