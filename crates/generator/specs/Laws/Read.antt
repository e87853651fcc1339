-- A made-up log is read as the records that were made: each is whole, of a known kind, and names ranks and hosts that there are.
-- Assumes nothing.
use Rattle.std.specs.Prelude.{◌≡◌, true, ◌&&◌, List, [], ◌++◌, ℕ, zero, suc, ◌+◌, ◌%◌, ltb, get_or, drop, Ok}
use Rattle.std.proofs.Math.Path.{refl, ap}
use Rattle.std.proofs.Common.{sym, ◌∙◌, append_assoc, append-nil, arith, mod-lt, lt-ltb, length-append}
use Rattle.std.proofs.Math.Bool.{and-false}
use Rattle.std.proofs.Math.ListN.{length, take}
use Rattle.std.proofs.Math.Seq.{get_or-append_seam, drop-append-add, take-append_seam}
use Rattle.base.specs.Below.{Each}
use Rattle.base.specs.Laws.Below.{each_at}
use Rattle.base.specs.Laws.Tests.{both}
use Rattle.base.specs.Lists.{every}
use Rattle.transit.specs.Message.{ranks, rank, is_rank}
use Rattle.protocol.specs.Checks.{rank_range, host_range}
use Rattle.record.specs.Laws.Record.{whole, kind_between}
use Rattle.broker.specs.Names.{hosts}
use Rattle.record.specs.Parts.{ranks_in, hosts_in}
use Rattle.record.specs.Record.{fields_of, body_length, record_of, decode}
use Rattle.record.specs.declared.Record.{Record}
use Rattle.generator_draw.specs.Draw.{draw}
use Rattle.generator.specs.Laws.MadeUp.{record_length}
use Rattle.generator_record.specs.MadeUp.{kinds, body, kind_drawn, made_record, record_leaves, made_log}
use Rattle.generator.specs.Records.{InRange, Holds, ends, reads}

-- A record is in range whose ranks and hosts are.
in_range : (r : Record) → every is_rank (ranks_in r) ≡ true → every (λ h. ltb h hosts) (hosts_in r) ≡ true → InRange r
unfolding rank_range host_range
in_range r named host = record { ranks = λ s. rw named; hosts = λ s. rw (host, and-false) }

-- A record whose body was drawn is in range.
module _ (word : ℕ) where
  first : is_rank (rank (draw word % ranks)) ≡ true
  first = lt-ltb _ ranks (mod-lt (draw word) (omega arith))

  one : (is_rank (rank (draw word % ranks)) && true) ≡ true
  one = both first refl

  two : (is_rank (rank (draw word % ranks)) && (is_rank (rank (draw (draw word) % ranks)) && true)) ≡ true
  two = both first (both (lt-ltb _ ranks (mod-lt (draw (draw word)) (omega arith))) refl)

  host : (ltb (draw (draw word) % hosts) hosts && true) ≡ true
  host = both (lt-ltb _ hosts (mod-lt (draw (draw word)) (omega arith))) refl

  drawn_in_range : Each (λ k. InRange (record_of k (body (fields_of k) word))) 1 kinds
  unfolding record_of
  drawn_in_range = (
    in_range _ one host,
    (
      in_range _ two refl,
      (
        in_range _ two refl,
        (
          in_range _ two refl,
          (
            in_range _ two refl,
            (
              in_range _ one host,
              (
                in_range _ two refl,
                (
                  in_range _ two refl,
                  (
                    in_range _ one refl,
                    (
                      in_range _ two refl,
                      (
                        in_range _ one refl,
                        (in_range _ one refl, tt),
                      ),
                    ),
                  ),
                ),
              ),
            ),
          ),
        ),
      ),
    ),
  )

-- A made record, between other bytes, is read whole.
module _ (front : List ℕ) (word : ℕ) (rest : List ℕ) where
  abbrev log : List ℕ
  log = front ++ (made_record word ++ rest)

  kind_read : get_or log (length front) 0 ≡ kind_drawn word
  unfolding made_record
  kind_read = get_or-append_seam front (kind_drawn word) _ 0

  abbrev kind : ℕ
  kind = kind_drawn word

  -- its body is the one that was drawn
  body_read : take (body_length kind) (drop (length front + 1) log) ≡ body (fields_of kind) (draw word)
  unfolding made_record
  body_read =
      let drawn = body (fields_of kind) (draw word) in
      let own : length drawn ≡ body_length kind = omega (arith, record_length word) in
      ap (take (body_length kind)) (drop-append-add front (made_record word ++ rest) 1) ∙
      ap (λ (n : ℕ). take n (drawn ++ rest)) (sym own) ∙ take-append_seam drawn rest

  record_read : decode log (length front) ≡
      Ok (record_of kind (body (fields_of kind) (draw word)), length front + length (made_record word))
  record_read =
      let long : length log ≡ length front + (length (made_record word) + length rest) = rw (length-append, length-append) in
      let own = record_length word in
      let next : length front + 1 + body_length kind ≡ length front + length (made_record word) = omega arith in
      let known = kind_between kind (omega arith) (omega arith) in
      rw kind_read at (whole log (length front) (omega arith) (rw kind_read known) (rw kind_read (omega arith))) ∙ rw (body_read, next)

  record_in_range : InRange (record_of kind (body (fields_of kind) (draw word)))
  record_in_range =
      each_at (λ k. InRange (record_of k (body (fields_of k) (draw word)))) 1 kinds (drawn_in_range (draw word)) kind (omega arith)
      (omega arith)

-- Behind any bytes, a made-up log is the records that were asked for, and then its end.
made_behind : (n word : ℕ) (front : List ℕ) → Holds (front ++ made_log n word) n (length front)
unfolding made_log
made_behind zero word front = ends {at = length front} (rw append-nil)
made_behind (suc n) word front =
    let rest = made_log n (record_leaves word) in
    reads (record_read front word rest) (record_in_range front word rest)
    (rw (length-append, append_assoc front (made_record word) rest) at (made_behind n (record_leaves word) (front ++ made_record word)))

-- A made-up log is the records that were asked for: each whole, of a known kind and in range.
pub made_holds : (n word : ℕ) → Holds (made_log n word) n 0
made_holds n word = made_behind n word []
