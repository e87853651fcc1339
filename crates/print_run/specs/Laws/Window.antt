-- What stands at a position of a log, seen in a part of the log: what is before the part only moves positions, and what is behind it
-- changes nothing of a record that is whole in it, or of a kind that is none. Assumes nothing.
use Rattle.std.specs.Prelude.{◌≡◌, refl, true, false, List, ◌++◌, ℕ, ◌+◌, ◌≤◌, ◌<◌, ltb, leb, length, take, drop, get_or, Ok, Err}
use Rattle.std.proofs.Common.{sym, ◌∙◌, zero-add, arith, ltb-true, ltb-false, leb-true, leb-false, length-append, length-drop, get_or-drop}
use Rattle.std.proofs.Math.ListN.{get_or-append}
use Rattle.base.specs.Laws.Tests.{by_test}
use Rattle.record.specs.Record.{is_kind, body_length, record_of, body_at, decode, Decoded}
use Rattle.record.specs.declared.Fault.TheVariants.{Unknown, Cut}
use Rattle.record.specs.declared.Record.{Record}
use Rattle.record.specs.Laws.Record.{whole, no_kind, cut_short, at_end_lem, body_same}
use Rattle.print_run.specs.Wholes.{is_whole, reason}

-- what stands at a position, with the tests that say so
pub data Seen (log : List ℕ) (at : ℕ) : Decoded → Type 0 where
  seen_whole :
      at < length log → is_kind (get_or log at 0) ≡ true → at + 1 + body_length (get_or log at 0) ≤ length log →
      Seen log at (Ok (record_of (get_or log at 0) (body_at log at), at + 1 + body_length (get_or log at 0)))
  seen_none : at < length log → is_kind (get_or log at 0) ≡ false → Seen log at (Err Unknown)
  seen_cut :
      at < length log → is_kind (get_or log at 0) ≡ true → length log < at + 1 + body_length (get_or log at 0) →
      Seen log at (Err Cut)
  seen_end : length log ≤ at → Seen log at (Err Cut)

module _ (log : List ℕ) (at : ℕ) where
  by_tests : Seen log at (decode log at)
  by_tests =
      by_test (ltb at (length log))
      (λ t. let h = ltb-true _ _ t in
      by_test (is_kind (get_or log at 0))
      (λ k. by_test (leb (at + 1 + body_length (get_or log at 0)) (length log))
      (λ f. let l = leb-true _ _ f in rw (whole log at h k l) (seen_whole h k l))
      (λ f. let l = leb-false _ _ f in rw (cut_short log at h k l) (seen_cut h k l)))
      (λ k. rw (no_kind log at h k) (seen_none h k)))
      (λ t. let l = ltb-false _ _ t in rw (at_end_lem log at l) (seen_end l))

  pub seen : {d : Decoded} → decode log at ≡ d → Seen log at d
  seen e = rw e at by_tests

-- what is known of a position that has a whole record, which ends before the next position
pub record Stands (log : List ℕ) (at next : ℕ) : Type 0 where
  pub inside : at < length log
  pub passes : at < next
  pub fits : next ≤ length log

pub stands : (log : List ℕ) (at : ℕ) {r : Record} {next : ℕ} → decode log at ≡ Ok (r, next) → Stands log at next
stands log at e = by (seen log at e)
  where
    by : {r : Record} {next : ℕ} → Seen log at (Ok (r, next)) → Stands log at next
    by (seen_whole h k f) = record { inside = h; passes = omega arith; fits = f }

-- what stands at a position, read so many bytes further on
abbrev pub moved : ℕ → Decoded → Decoded
moved k (Ok (r, next)) = Ok (r, k + next)
moved k (Err Unknown) = Err Unknown
moved k (Err Cut) = Err Cut

-- Whether it is a whole record, and why a run ends there, is the same.
pub moved_same : (k : ℕ) (d : Decoded) → (is_whole (moved k d) ≡ is_whole d) × (reason (moved k d) ≡ reason d)
moved_same k (Ok (r, next)) = (refl, refl)
moved_same k (Err Unknown) = (refl, refl)
moved_same k (Err Cut) = (refl, refl)

-- A part of a log, whose bytes stand there from a position on: what stands in it stands in the log, so many bytes further on; but what
-- is cut only where the log has no more than the part.
module _ (part log : List ℕ) (k : ℕ) (long : k + length part ≤ length log)
    (bytes : (i : ℕ) → i < length part → get_or log (k + i) 0 ≡ get_or part i 0) (at : ℕ) where
  decode_in : {d : Decoded} → Seen part at d → (d ≡ Err Cut → length log ≡ k + length part) → decode log (k + at) ≡ moved k d
  decode_in (seen_whole h known f) last =
      let kind = get_or part at 0 in
      let same : get_or log (k + at) 0 ≡ kind = bytes at h in
      let body : take (body_length kind) (drop (k + at + 1) log) ≡ body_at part at =
      body_same log part (k + at + 1) (at + 1) (body_length kind) (omega arith) f
      (λ j b. let place : k + at + 1 + j ≡ k + (at + 1 + j) = omega arith in rw place (bytes (at + 1 + j) (omega arith))) in
      let on : k + at + 1 + body_length kind ≡ k + (at + 1 + body_length kind) = omega arith in
      rw same at (whole log (k + at) (omega arith) (rw same known) (rw same (omega arith))) ∙ rw (body, on)
  decode_in (seen_none h none) last = no_kind log (k + at) (omega arith) (rw (bytes at h) none)
  decode_in (seen_cut h known short) last =
      let end = last refl in
      cut_short log (k + at) (omega arith) (rw (bytes at h) known) (rw (bytes at h) (omega arith))
  decode_in (seen_end past) last = let end = last refl in at_end_lem log (k + at) (omega arith)

-- What stands in a log stands at the start of what is left from there on.
pub decode_dropped : (log : List ℕ) (k : ℕ) → k ≤ length log → (at : ℕ) → decode log (k + at) ≡ moved k (decode (drop k log) at)
decode_dropped log k room at =
    let long = length-drop k log in
    decode_in (drop k log) log k (omega arith) (λ i b. sym (get_or-drop k log i 0)) at (seen (drop k log) at refl) (λ _. omega arith)

-- A record that is whole in a piece, and a kind that is none, stand there whatever follows.
module _ (piece more : List ℕ) (at : ℕ) where
  stays : {d : Decoded} → decode piece at ≡ d → (d ≡ Err Cut → length (piece ++ more) ≡ 0 + length piece) →
      decode (piece ++ more) at ≡ moved 0 d
  stays e =
      let long = length-append piece more in
      rw (zero-add at) at
      (decode_in piece (piece ++ more) 0 (omega arith) (λ i b. rw (zero-add i) (get_or-append piece more 0 i b)) at (seen piece at e))

  pub whole_stays : {r : Record} {next : ℕ} → decode piece at ≡ Ok (r, next) → decode (piece ++ more) at ≡ Ok (r, next)
  whole_stays {next = next} e = rw (zero-add next) at (stays e (λ c. cc))

  pub unknown_stays : decode piece at ≡ Err Unknown → decode (piece ++ more) at ≡ Err Unknown
  unknown_stays e = stays e (λ c. cc)

-- A kind that is none stands in the log.
pub unknown_inside : (log : List ℕ) (at : ℕ) → decode log at ≡ Err Unknown → at < length log
unknown_inside log at e = by (seen log at e)
  where
    by : Seen log at (Err Unknown) → at < length log
    by (seen_none h k) = h
