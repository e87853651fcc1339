-- Passes over the columns: one entry more, and what a whole pass has made of a list or a roster. Assumes nothing.
use Rattle.std.specs.Prelude.{◌≢◌, ◌≡◌, List, ℕ, ◌+◌, ◌<◌, ◌≤◌, length, get_or, set, replicate}
use Rattle.std.proofs.Common.{sym, ap, ◌∙◌, arith, below_none, below_more, get_or-set_same, get_or-set_other}
use Rattle.std.proofs.lemmas.List.{length-replicate, get_or-replicate}
use Rattle.base.specs.Laws.Stores.{long_set}
use Rattle.base.specs.Laws.Tabulate.{tabulate_is}
use Rattle.base.specs.Lists.{tabulate}
use Rattle.transit.specs.Message.{ranks, cells}
use Rattle.broker.specs.Names.{unknown, hosts}
use Rattle.broker.specs.State.{idle, apart, fresh}
use Rattle.broker.specs.declared.process.Process.{Process}
use Rattle.roster.specs.Laws.Columns.{nothing_changed, changed_inside}
use Rattle.roster.specs.Laws.Numbers.{status_zero, request_zero, link_zero}
use Rattle.roster.specs.Loaded.{Copying, Filled}
use Rattle.roster.specs.Numbers.{status_of, request_of}
use Rattle.roster.specs.Roster.{
  process_in,
  location_in,
  link_in,
  drawn_in,
  ranks_of,
  Holds,
  Whole,
  REQUESTS,
  LOCATIONS,
  LINKS,
  DRAWN,
  roster_length,
}

module _ {A : Type 0} {f : ℕ → A} {d : A} {full : ℕ} where
  -- a copy that has not begun
  pub copy_none : {xs : List A} → length xs ≡ full → Copying f d full 0 xs
  copy_none long = record { below = omega arith; long = long; copied = below_none _ }

  -- one element more is copied
  pub copy_next : {n : ℕ} {xs : List A} {x : A} → Copying f d full n xs → n < full → f n ≡ x → Copying f d full (n + 1) (set xs n x)
  copy_next {n} {xs} {x} so below here =
      record {
        below = omega arith;
        long = long_set full xs n x so.long;
        copied =
            below_more _ _ (λ k b. so.copied k b ∙ sym (get_or-set_other xs n k x d (λ e. omega arith)))
            (here ∙ sym (get_or-set_same xs n x d (omega (arith, so.long))));
      }

  -- fewer are copied too
  pub copy_fewer : {m n : ℕ} {xs : List A} → Copying f d full n xs → m ≤ n → Copying f d full m xs
  copy_fewer so fewer = record { below = omega (arith, so.below); long = so.long; copied = λ k b. so.copied k (omega arith) }

  -- a whole copy
  pub copy_whole : {n : ℕ} {xs : List A} → Copying f d full n xs → full ≤ n → xs ≡ tabulate full f
  copy_whole {xs = xs} so all = sym (tabulate_is full f xs d so.long (λ k b. so.copied k (omega arith)))

module _ {A : Type 0} {entry : List ℕ → ℕ → A} {d : A} {xs : List A} {from to : ℕ} where
  -- a pass that has not begun
  pub fill_none : {l : List ℕ} → Whole l → Filled entry d xs 0 from to l l
  fill_none whole = record { kept = nothing_changed whole; filled = below_none _ }

  -- and one that goes on from where another stands
  pub fill_from : {m n : ℕ} {before after : List ℕ} → Filled entry d xs n from to before after → m ≤ n
      → Filled entry d xs m from to after after
  fill_from so fewer = record { kept = nothing_changed so.kept.whole; filled = λ k b. so.filled k (omega arith) }

  -- both together
  pub fill_joined : {m n k : ℕ} {before between after : List ℕ} → Filled entry d xs m from to before between
      → Filled entry d xs n from to between after → k ≤ n → Filled entry d xs k from to before after
  fill_joined so then fewer =
      record {
        kept = record { whole = then.kept.whole; same = λ j out. then.kept.same j out ∙ so.kept.same j out };
        filled = λ k b. then.filled k (omega arith);
      }

  -- a whole pass
  pub fill_whole : {m n : ℕ} {before after : List ℕ} → Filled entry d xs m from to before after → length xs ≡ n → n ≤ m
      → tabulate n (entry after) ≡ xs
  fill_whole {n = n} {after = after} so full all = tabulate_is n (entry after) xs d full (λ k b. so.filled k (omega arith))

-- one number more of a column is filled
pub fill_next : {A : Type 0} (decode : ℕ → A) (from : ℕ) {d : A} {xs : List A} {m n to w : ℕ} {before after : List ℕ}
    → Filled (λ l k. decode (get_or l (from + k) 0)) d xs n from to before after
    → from + n < to → to ≤ roster_length → decode w ≡ get_or xs n d → m ≤ n + 1
    → Filled (λ l k. decode (get_or l (from + k) 0)) d xs m from to before (set after (from + n) w)
fill_next decode from {n = n} {w = w} {after = after} so inside room here upto =
    let last = ap decode (get_or-set_same after (from + n) w 0 (omega (arith, so.kept.whole))) ∙ here in
    record {
      kept = changed_inside (from + n) w so.kept (omega arith) inside;
      filled = λ k b.
          below_more _ _ (λ j c. ap decode (get_or-set_other after (from + n) (from + j) w 0 (λ e. omega arith)) ∙ so.filled j c) last
          k (omega arith);
    }

-- one process more is filled: its standing and its call
pub fill_process : {ps : List Process} {n : ℕ} (v w : ℕ) {before after : List ℕ} → Filled process_in idle ps n 0 LOCATIONS before after
    → n < ranks → record { status = status_of v; request = request_of w } ≡ get_or ps n idle
    → Filled process_in idle ps (n + 1) 0 LOCATIONS before (set (set after n v) (REQUESTS + n) w)
fill_process {n = n} v w {after = after} so below here =
    let m = set after n v in
    let kept = changed_inside n v so.kept (omega arith) (omega arith) in
    let others : (j : ℕ) → j ≢ n → j ≢ REQUESTS + n → get_or (set m (REQUESTS + n) w) j 0 ≡ get_or after j 0 =
    λ j p q. get_or-set_other m (REQUESTS + n) j w 0 q ∙ get_or-set_other after n j v 0 p in
    let call = get_or-set_same m (REQUESTS + n) w 0 (omega (arith, kept.whole)) in
    let standing = get_or-set_other m (REQUESTS + n) n w 0 (λ e. omega arith) ∙
    get_or-set_same after n v 0 (omega (arith, so.kept.whole)) in
    record {
      kept = changed_inside (REQUESTS + n) w kept (omega arith) (omega arith);
      filled =
          below_more _ _
          (λ k b.
          rw (others k (λ e. omega arith) (λ e. omega arith), others (REQUESTS + k) (λ e. omega arith) (λ e. omega arith)) (so.filled k b))
          (rw (call, standing) here);
    }

-- a list that is everywhere the same
tabulate_constant : {A : Type 0} (n : ℕ) (f : ℕ → A) (x : A) → ((k : ℕ) → k < n → f k ≡ x) → tabulate n f ≡ replicate n x
tabulate_constant n f x same =
    tabulate_is n f (replicate n x) x (length-replicate n x) (λ k b. same k b ∙ sym (get_or-replicate n k x x b))

-- all zeros is the fresh state
pub cleared : {l : List ℕ} {n : ℕ} → Copying (λ k. 0) 0 roster_length n l → roster_length ≤ n → Holds l fresh
unfolding ranks_of
cleared {l} so all =
    let zero : (k : ℕ) → k < roster_length → get_or l k 0 ≡ 0 = λ k b. sym (so.copied k (omega arith)) in
    let processes = tabulate_constant ranks (process_in l) idle
    (λ k b. rw (zero k (omega arith), zero (REQUESTS + k) (omega arith), status_zero, request_zero)) in
    let locations = tabulate_constant cells (location_in l) unknown (λ k b. rw (zero (LOCATIONS + k) (omega arith))) in
    let links = tabulate_constant cells (link_in l) apart (λ k b. rw (zero (LINKS + k) (omega arith), link_zero)) in
    let drawn = tabulate_constant hosts (drawn_in l) 0 (λ k b. rw (zero (DRAWN + k) (omega arith))) in
    record { long = so.long; same = rw (processes, locations, links, drawn) }
