-- The columns of a roster after a store. Assumes nothing.
use Rattle.std.specs.Prelude.{◌≢◌, ◌≡◌, List, ℕ, ◌+◌, ◌<◌, length, get_or, set, Option}
use Rattle.std.proofs.Common.{ap, ◌∙◌, arith, get_or-set_same, get_or-set_other}
use Rattle.base.specs.Laws.Tabulate.{tabulate_at, tabulate_set}
use Rattle.base.specs.Lists.{tabulate}
use Rattle.transit.specs.Message.{ranks}
use Rattle.transit.specs.declared.Rank.{Rank}
use Rattle.broker.specs.State.{idle, status, request, with_status, with_request}
use Rattle.broker.specs.declared.process.Process.{Process}
use Rattle.broker.specs.declared.process.Request.{Request}
use Rattle.broker.specs.declared.process.Status.{Status}
use Rattle.roster.specs.Laws.Columns.{stored, processes_only}
use Rattle.roster.specs.Numbers.{status_of, request_of}
use Rattle.roster.specs.Roster.{process_in, ranks_of, Holds, Whole, REQUESTS}

-- a column of n numbers from `start` on
pub column_set : {A : Type 0} (decode : ℕ → A) (start n : ℕ) (l : List ℕ) {i w : ℕ} {x : A} → i < n → start + i < length l → decode w ≡ x
    → tabulate n (λ k. decode (get_or (set l (start + i) w) (start + k) 0)) ≡ set (tabulate n (λ k. decode (get_or l (start + k) 0))) i x
column_set decode start n l {i} {w} {x} below there here =
    tabulate_set n _ _ i x below (ap decode (get_or-set_same l (start + i) w 0 there) ∙ here)
    (λ k b other. ap decode (get_or-set_other l (start + i) (start + k) w 0 (λ e. other (omega arith))))

-- the processes where only the numbers of one of them have changed
process_set : (l m : List ℕ) (i : ℕ) (p : Process) → i < ranks → process_in m i ≡ p
    → ((j : ℕ) → j ≢ i → j ≢ REQUESTS + i → get_or m j 0 ≡ get_or l j 0)
    → tabulate ranks (process_in m) ≡ set (tabulate ranks (process_in l)) i p
process_set l m i p below here others =
    tabulate_set ranks (process_in m) (process_in l) i p below here
    (λ k b other. rw (others k other (λ e. omega arith), others (REQUESTS + k) (λ e. omega arith) (λ e. other (omega arith))))

-- what a roster holds after a store of a standing
pub standing_stored : (l : List ℕ) (r : Rank) (w : ℕ) {s : Status} → Whole l → r.0 < ranks → status_of w ≡ s
    → Holds (set l r.0 w) (with_status r s (ranks_of l))
unfolding ranks_of
standing_stored l r w whole b standing =
    let i = r.0 in
    let call = get_or-set_other l i (REQUESTS + i) w 0 (λ e. omega arith) in
    let before = tabulate_at ranks (process_in l) i idle b in
    processes_only (stored l i w whole (omega arith) (omega arith))
    (process_set l (set l i w) i _ b (rw (get_or-set_same l i w 0 (omega arith), standing, call, before, request))
    (λ j p q. get_or-set_other l i j w 0 p))

-- and of a call
pub request_stored : (l : List ℕ) (r : Rank) (w : ℕ) {q : Option Request} → Whole l → r.0 < ranks → request_of w ≡ q
    → Holds (set l (REQUESTS + r.0) w) (with_request r q (ranks_of l))
unfolding ranks_of
request_stored l r w whole b call =
    let i = REQUESTS + r.0 in
    let standing = get_or-set_other l i r.0 w 0 (λ e. omega arith) in
    let before = tabulate_at ranks (process_in l) r.0 idle b in
    processes_only (stored l i w whole (omega arith) (omega arith))
    (process_set l (set l i w) r.0 _ b (rw (get_or-set_same l i w 0 (omega arith), call, standing, before, status))
    (λ j p q. get_or-set_other l i j w 0 q))
