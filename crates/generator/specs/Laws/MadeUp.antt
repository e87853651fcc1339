-- Laws of the log that is made: how long it is, and that it goes on from the word that a first part of it leaves. Assumes nothing.
use Rattle.std.specs.Prelude.{◌≡◌, refl, leb, length}
use Rattle.std.proofs.Common.{sym, ap, ◌∙◌, arith, leb-true, length-append}
use mathlib.Core.List.{List, [], ◌∷◌, ◌++◌, append_assoc, append-nil}
use Prim.Native.Nat.{ℕ, zero, suc, ◌+◌, ◌*◌, ◌≤◌, ◌<◌}
use Rattle.std.proofs.Math.Nat.{zero-add, suc-add}
use Rattle.std.proofs.Math.ListN.{get_or-map}
use Rattle.base.specs.Laws.Below.{all_below_at}
use Rattle.base.specs.Laws.Tests.{by_equal}
use Rattle.record.specs.Kind.{Field, rank_byte, host_byte, value_bytes, field_length, fields_length}
use Rattle.record.specs.Record.{bodies, fields_of, body_length}
use Rattle.generator_draw.specs.Draw.{words, draw}
use Rattle.generator_draw.specs.Laws.Draw.{draw_word, draw_zero}
use Rattle.generator_record.specs.MadeUp.{
  kinds,
  longest,
  drawn,
  body,
  body_leaves,
  kind_drawn,
  made_record,
  record_leaves,
  made_log,
  log_leaves,
}

length_drawn : (f : Field) (word : ℕ) → length (drawn f word) ≡ field_length f
length_drawn rank_byte word = refl
length_drawn host_byte word = refl
length_drawn value_bytes word = refl

length_body : (fs : List Field) (word : ℕ) → length (body fs word) ≡ fields_length fs
length_body [] word = refl
length_body (f ∷ fs) word = rw (length-append, length_drawn f (draw word), length_body fs (draw word))

-- A record is as long as its kind says.
pub record_length : (word : ℕ) → length (made_record word) ≡ 1 + body_length (kind_drawn word)
unfolding made_record
record_length word =
    let long = length_body (fields_of (kind_drawn word)) (draw word) ∙ sym (get_or-map fields_length bodies (kind_drawn word) []) in
    omega arith

-- No body of the kinds drawn has more than six bytes.
record_within : (word : ℕ) → length (made_record word) ≤ longest
record_within word =
    let kind = kind_drawn word in
    let short : body_length kind ≤ 6 = leb-true _ 6 (all_below_at (1 + kinds) (λ k. leb (body_length k) 6) refl kind (omega arith)) in
    rw (record_length word) (omega arith)

-- "7 times n bytes" are enough for n records.
pub log_within : (n word : ℕ) → length (made_log n word) ≤ longest * n
unfolding made_log
log_within zero word = omega arith
log_within (suc n) word =
    let first = record_within word in
    let rest = log_within n (record_leaves word) in
    rw length-append (omega arith)

module _ (m : ℕ) where
  -- The log of n + m records is the log of n, and then the log of m from the word that was left.
  pub log_goes_on : (n word : ℕ) → made_log (n + m) word ≡ made_log n word ++ made_log m (log_leaves n word)
  unfolding made_log log_leaves
  log_goes_on zero word = rw zero-add
  log_goes_on (suc n) word =
      let first = made_record word in
      let rest = record_leaves word in
      rw (suc-add, append_assoc first (made_log n rest) _) (ap (λ l. first ++ l) (log_goes_on n rest))

  pub leaves_on : (n word : ℕ) → log_leaves (n + m) word ≡ log_leaves m (log_leaves n word)
  unfolding log_leaves
  leaves_on zero word = rw zero-add
  leaves_on (suc n) word = rw suc-add (leaves_on n (record_leaves word))

-- One record more stands behind the log.
pub one_more : (n word : ℕ) → made_log n word ++ made_record (log_leaves n word) ≡ made_log (n + 1) word
unfolding made_log
one_more n word = sym (log_goes_on 1 n word ∙ rw append-nil)

pub one_more_leaves : (n word : ℕ) → record_leaves (log_leaves n word) ≡ log_leaves (n + 1) word
unfolding log_leaves
one_more_leaves n word = sym (leaves_on 1 n word)

-- a word of the generator that is not zero
pub record IsWord (word : ℕ) : Type 0 where
  pub some : 0 < word
  pub within : word < words

drawn_word : (word : ℕ) → IsWord word → IsWord (draw word)
drawn_word word w =
    record {
      some = by_equal (draw word) 0 (λ e. let zero = draw_zero word w.within e in omega arith) (λ d. omega arith);
      within = draw_word word w.within;
    }

body_word : (fs : List Field) (word : ℕ) → IsWord word → IsWord (body_leaves fs word)
body_word [] word w = w
body_word (f ∷ fs) word w = body_word fs (draw word) (drawn_word word w)

-- A log that starts from a word that is not zero leaves one: going on is not refused with 26.
pub leaves_word : (n word : ℕ) → IsWord word → IsWord (log_leaves n word)
unfolding log_leaves record_leaves
leaves_word zero word w = w
leaves_word (suc n) word w =
    leaves_word n (record_leaves word) (body_word (fields_of (kind_drawn word)) (draw word) (drawn_word word w))
