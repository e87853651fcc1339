-- Laws of a buffer whose rest goes to its front, byte after byte. Assumes nothing.
use Rattle.std.specs.Prelude.{◌≡◌, refl, List, ◌++◌, ℕ, suc, ◌+◌, ◌-◌, ◌≤◌, ◌<◌, length, take, drop, get_or, set}
use Rattle.std.proofs.Common.{sym, ◌∙◌, zero-add, arith, take_at, drop_at, length-take-le, get_or-take, get_or-drop, take_all}
use Rattle.std.proofs.Math.Seq.{paste-suc, slice, length-slice}
use Rattle.std.proofs.lemmas.List.Edits.{length-paste}
use Rattle.print_buffer.specs.Buffer.{Kept}

-- the buffer with so many bytes moved of what stands from a position on
abbrev pub moving : List ℕ → ℕ → ℕ → ℕ → List ℕ
moving before from held kept = take kept (slice from held before) ++ drop kept before

module _ (before : List ℕ) (from held : ℕ) (order : from ≤ held) (room : held ≤ length before) where
  abbrev rest : List ℕ
  rest = slice from held before

  long : length rest ≡ held - from
  long = length-slice from held before room

  front : (kept : ℕ) → kept ≤ held - from → length (take kept rest) ≡ kept
  front kept h = length-take-le kept rest (omega (arith, long))

  -- A byte that is not moved yet is as it was.
  byte_kept : (kept : ℕ) → kept < held - from → get_or (moving before from held kept) (from + kept) 0 ≡ get_or rest kept 0
  byte_kept kept h =
      let behind = drop_at (take kept rest) (drop kept before) kept (front kept (omega arith)) in
      let place : from + kept ≡ kept + from = omega arith in
      let there : get_or (moving before from held kept) (kept + from) 0 ≡ get_or before (kept + from) 0 =
      sym (get_or-drop kept (moving before from held kept) from 0) ∙ rw behind (get_or-drop kept before from 0) in
      let here : get_or rest kept 0 ≡ get_or before (from + kept) 0 =
      get_or-drop from (take held before) kept 0 ∙ get_or-take held before (from + kept) 0 (omega arith) in
      rw (here, place) there

  -- One byte more is moved.
  pub one_moved : (kept : ℕ) → kept < held - from → let b = moving before from held kept in
      set b kept (get_or b (from + kept) 0) ≡ moving before from held (suc kept)
  one_moved kept h = rw (byte_kept kept h) (simp zero-add at (paste-suc before 0 rest kept 0 (omega arith) (omega (arith, long))))

  -- All are moved.
  pub all_moved : Kept before from held (moving before from held (held - from)) (held - from)
  all_moved =
      let all = held - from in
      record {
        counts = refl;
        holds =
            take_at (take all rest) (drop all before) all (front all (omega arith)) ∙ take_all all rest (omega (arith, long));
        room = simp zero-add at (length-paste before 0 rest all (omega arith) (omega (arith, long)));
      }
