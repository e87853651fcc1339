-- A standing, call or link stands for itself when it is written as a number and read back. Assumes nothing.
use Rattle.std.specs.Prelude.{◌≡◌, refl, ℕ, ◌+◌, ◌*◌, ◌/◌, ◌%◌, ◌<◌, None}
use Rattle.std.proofs.Common.{zero-add, arith, ne_eqb, lit<}
use Rattle.std.proofs.Math.Nat.{add-mul-mod_self_left, add-mul-div_left}
use Rattle.broker.specs.Names.{vmid, posted}
use Rattle.transit.specs.Message.{rank}
use Rattle.broker.specs.State.{apart}
use Rattle.broker.specs.declared.process.Status.TheVariants.{Unstarted, Running, Migrating, Ended}
use Rattle.roster.specs.Numbers.{vmid_of, status_of, request_of, line_of, await_of, link_of}

-- zero stands for what a fresh desk has
pub status_zero : status_of 0 ≡ Unstarted
unfolding status_of
status_zero = refl

pub request_zero : request_of 0 ≡ None
unfolding request_of
request_zero = refl

pub link_zero : link_of 0 ≡ apart
unfolding link_of
link_zero = refl

-- two vmids of the same host and number are the same
pub same_vmid_lem : {h n h' n' : ℕ} → h ≡ h' → n ≡ n' → vmid h n ≡ vmid h' n'
same_vmid_lem host number = rw (host, number)

-- what lies above a vmid's bits does not change it
vmid_below : (n m : ℕ) → vmid_of (n + 16777216 * m) ≡ vmid_of n
vmid_below n m = same_vmid_lem (omega arith) (omega arith)

-- a status that was written is read back
pub running_back : (n : ℕ) → status_of (1 + 4 * n) ≡ Running (vmid_of n)
unfolding status_of
running_back n = rw (add-mul-mod_self_left 1 4 n, add-mul-div_left 1 n (lit< tt), zero-add)

pub ended_back : (n : ℕ) → status_of (2 + 4 * n) ≡ Ended (vmid_of n)
unfolding status_of
ended_back n = rw (add-mul-mod_self_left 2 4 n, add-mul-div_left 2 n (lit< tt), zero-add)

pub migrating_back : (n m : ℕ) → n < 16777216 → status_of (3 + 4 * n + 67108864 * m) ≡ Migrating (vmid_of n) (vmid_of m)
unfolding status_of
migrating_back n m small =
    let tag : (3 + 4 * n + 67108864 * m) % 4 ≡ 3 = omega arith in
    let rest : (3 + 4 * n + 67108864 * m) / 4 ≡ n + 16777216 * m = omega arith in
    let last : (3 + 4 * n + 67108864 * m) / 67108864 ≡ m = omega arith in
    rw (tag, rest, last, vmid_below n m)

pub posted_back : (r n : ℕ) → r < 256 → request_of (4294967296 + r + 256 * n) ≡ posted (rank r) (vmid_of n)
unfolding request_of
posted_back r n small =
    let low : (4294967296 + r + 256 * n) % 256 ≡ r = omega arith in
    let high : (4294967296 + r + 256 * n) / 256 ≡ n + 16777216 * 1 = omega arith in
    rw (ne_eqb (4294967296 + r + 256 * n) 0 (λ e. omega arith), low, high, vmid_below n 1)

pub link_back : (n m : ℕ) → n < 3 → link_of (n + 4 * m) ≡ record { connection = line_of n; backlog = await_of m }
unfolding link_of
link_back n m small =
    let low : (n + 4 * m) % 4 ≡ n = omega arith in
    let high : (n + 4 * m) / 4 ≡ m = omega arith in
    rw (low, high)
