-- Laws of the whole records of a log: where they end, one record more at either end, some of them and then the others, and a log of which
-- the front is dropped. Assumes nothing.
use Rattle.std.specs.Prelude.{◌≡◌, false, List, [], ◌∷◌, ◌++◌, length, drop, Result, Ok, Err}
use Rattle.std.proofs.Math.Path.{refl, ap}
use Rattle.std.proofs.Common.{sym, ◌∙◌, zero-add, arith, length-drop, get_or-drop}
use Prim.Native.Nat.{ℕ, zero, suc, ◌+◌, ◌-◌, ◌≤◌}
use Rattle.std.proofs.Math.ListN.{get_or-append}
use Rattle.answer.specs.declared.Refusal.{Refusal}
use Rattle.answer.specs.declared.Values.{Values}
use Rattle.record.specs.Record.{decode, Decoded}
use Rattle.broker.specs.State.{State}
use Rattle.protocol.specs.Step.{settle}
use Rattle.record.specs.declared.Fault.TheVariants.{Unknown, Cut}
use Rattle.record.specs.declared.Record.{Record}
use Rattle.record.specs.Laws.Record.{at_end_lem}
use Rattle.print_run.specs.Laws.Window.{moved, moved_same, stands, whole_stays, decode_dropped}
use Rattle.print_run.specs.Run.{Came, standing, behind}
use Rattle.print_run.specs.Wholes.{is_whole, answered_at, on_read, wholes, all_wholes}

module _ (base : ℕ) (log : List ℕ) where
  -- a whole record ahead of what follows it
  abbrev pub ahead : State → ℕ → Record → Came → Came
  ahead s at r c = behind (answered_at base log at (settle r s).answer ∷ []) c

  -- What holds of no steps, where no whole record stands, and of one record more in front, holds of every run.
  module _
      (P : ℕ → State → ℕ → Came → Type 0)
      (no_steps : (s : State) (at : ℕ) → P 0 s at (standing s at))
      (no_record : (n : ℕ) (s : State) (at : ℕ) → is_whole (decode log at) ≡ false → P (suc n) s at (standing s at))
      (one_more : (n : ℕ) (s : State) (at : ℕ) (r : Record) (next : ℕ) → decode log at ≡ Ok (r, next) → (c : Came) →
      P n (settle r s).state next c → P (suc n) s at (ahead s at r c))
    where
      pub along : (n : ℕ) (s : State) (at : ℕ) → P n s at (wholes base n s log at)
      unfolding wholes
      along zero s at = no_steps s at
      along (suc n) s at = by (decode log at) refl (λ t k. along n t k)
        where
          by : (d : Decoded) → decode log at ≡ d → ((t : State) (k : ℕ) → P n t k (wholes base n t log k)) →
              P (suc n) s at (on_read base s log at (λ t k. wholes base n t log k) d)
          by (Ok (r, next)) e later = one_more n s at r next e _ (later (settle r s).state next)
          by (Err Unknown) e later = no_record n s at (ap is_whole e)
          by (Err Cut) e later = no_record n s at (ap is_whole e)

  -- Where no whole record stands, none is run.
  pub none_run : (n : ℕ) (s : State) (at : ℕ) → is_whole (decode log at) ≡ false → wholes base n s log at ≡ standing s at
  none_run =
      along (λ n s at c. is_whole (decode log at) ≡ false → c ≡ standing s at) (λ s at h. refl) (λ n s at none h. refl)
      (λ n s at r next e c later h. cc (ap is_whole e))

  -- A whole record is run first.
  pub one_first : (n : ℕ) (s : State) (at : ℕ) {r : Record} {next : ℕ} → decode log at ≡ Ok (r, next) →
      wholes base (suc n) s log at ≡ ahead s at r (wholes base n (settle r s).state log next)
  unfolding wholes
  one_first n s at e = rw e

  -- A run comes to no position past the log's end.
  pub run_within : (n : ℕ) (s : State) (at : ℕ) → at ≤ length log → (wholes base n s log at).at ≤ length log
  run_within =
      along (λ n s at c. at ≤ length log → c.at ≤ length log) (λ s at h. h) (λ n s at none h. h)
      (λ n s at r next e c later h. later (stands log at e).fits)

  -- A bound that reaches the log's end is no part of what a run comes to.
  pub bound_is_free : (n m : ℕ) (s : State) (at : ℕ) → length log ≤ at + n → length log ≤ at + m →
      wholes base n s log at ≡ wholes base m s log at
  bound_is_free n m s at =
      along (λ n s at c. (m : ℕ) → length log ≤ at + n → length log ≤ at + m → c ≡ wholes base m s log at)
      (λ s at m h g. sym (none_run m s at (ap is_whole (at_end_lem log at (omega arith)))))
      (λ n s at none m h g. sym (none_run m s at none))
      (λ n s at r next e c later m h g.
      let there = stands log at e in
      let one : m ≡ suc (m - 1) = omega arith in
      rw one (ap (ahead s at r) (later (m - 1) (omega arith) (omega arith)) ∙ sym (one_first (m - 1) s at e)))
      n s at m

  -- what some whole records have come to, with one record more at their end
  abbrev further : Came → Record → ℕ → Came
  further c r next =
      let x = settle r c.state in
      record { state = x.state; at = next; answers = c.answers ++ (answered_at base log c.at x.answer ∷ []) }

  -- A whole record is run last.
  pub one_last : (n : ℕ) (s : State) (at : ℕ) (r : Record) (next : ℕ) → decode log (wholes base n s log at).at ≡ Ok (r, next) →
      wholes base (suc n) s log at ≡ further (wholes base n s log at) r next
  unfolding wholes
  one_last n s at r next =
      along (λ n s at c. decode log c.at ≡ Ok (r, next) → wholes base (suc n) s log at ≡ further c r next)
      (λ s at e. one_first 0 s at e)
      (λ n s at none e. cc)
      (λ n s at q k d c later e. one_first (suc n) s at d ∙ ap (ahead s at q) (later e))
      n s at

-- Some whole records of a piece, and then as many more, of it and of what follows it, are so many of both.
module _ (base : ℕ) (piece more : List ℕ) where
  pub in_a_row : (m n : ℕ) (s : State) (at : ℕ) → let w = wholes base n s piece at in
      wholes base (length w.answers + m) s (piece ++ more) at ≡
      behind w.answers (wholes base m w.state (piece ++ more) w.at)
  in_a_row m =
      along base piece
      (λ n s at c. wholes base (length c.answers + m) s (piece ++ more) at ≡
      behind c.answers (wholes base m c.state (piece ++ more) c.at))
      (λ s at. rw (zero-add m))
      (λ n s at none. rw (zero-add m))
      (λ n s at r next e c later.
      let one : suc (length c.answers) + m ≡ suc (length c.answers + m) = omega arith in
      let same = get_or-append piece more 0 at (stands piece at e).inside in
      rw one (one_first base (piece ++ more) (length c.answers + m) s at (whole_stays piece more at e) ∙
      rw same (ap (ahead base piece s at r) later)))

-- What whole records come to, so many bytes further on.
abbrev pub moved_by : ℕ → Came → Came
moved_by k c = record { state = c.state; at = k + c.at; answers = c.answers }

-- The front of a log, where it is dropped, moves what the other records come to, and no more.
module _ (base : ℕ) (log : List ℕ) (k : ℕ) (room : k ≤ length log) where
  answered_dropped : (at : ℕ) (a : Result Values Refusal) → answered_at base log (k + at) a ≡ answered_at (base + k) (drop k log) at a
  answered_dropped at a = let place : base + (k + at) ≡ base + k + at = omega arith in rw (place, get_or-drop)

  pub wholes_dropped :
      (n : ℕ) (s : State) (at : ℕ) → wholes base n s log (k + at) ≡ moved_by k (wholes (base + k) n s (drop k log) at)
  unfolding wholes
  wholes_dropped =
      along (base + k) (drop k log) (λ n s at c. wholes base n s log (k + at) ≡ moved_by k c)
      (λ s at. refl)
      (λ n s at none.
      none_run base log (suc n) s (k + at)
      (ap is_whole (decode_dropped log k room at) ∙ (moved_same k (decode (drop k log) at)).0 ∙ none))
      (λ n s at r next e c later.
      one_first base log n s (k + at) (decode_dropped log k room at ∙ ap (moved k) e) ∙
      rw (answered_dropped at (settle r s).answer) (ap (ahead (base + k) (drop k log) s at r) later))

  pub all_dropped : (s : State) (at : ℕ) → all_wholes base s log (k + at) ≡ moved_by k (all_wholes (base + k) s (drop k log) at)
  all_dropped s at =
      let long = length-drop k log in
      bound_is_free base log (length log) (length (drop k log)) s (k + at) (omega arith) (omega arith) ∙
      wholes_dropped (length (drop k log)) s at
