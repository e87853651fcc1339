-- Logs that are not so many records in range, so that the promise of a made-up log says something. Assumes nothing.
use Rattle.std.proofs.Common.{true≢false, arith}
use Rattle.std.specs.Prelude.{[], ◌∷◌, ◌≡◌, ℕ}
use Rattle.transit.specs.Message.{rank}
use Rattle.protocol.proofs.Laws.Step.{whole_ends}
use Rattle.protocol.specs.Checks.{rank_range, host_range}
use Rattle.record.specs.Kind
use Rattle.record.specs.Record.{decode, record_of}
use Rattle.broker.specs.State.{fresh}
use Rattle.record.specs.declared.Record.TheVariants.{Start, Call, Look}
use Rattle.generator.specs.Records.{InRange, Holds, ends, reads}

-- 2: a kind that is none
pub kind_unknown : Holds (0x0D ∷ 1 ∷ []) 1 0 → ⊥
unfolding decode record_of
kind_unknown (reads e range rest) = let clash : ◌≡◌ {A = ℕ} 0 1 = cc in omega arith

-- 3: a body cut short
pub body_cut : Holds (Kind.call ∷ 1 ∷ []) 1 0 → ⊥
unfolding decode record_of
body_cut (reads e range rest) = let clash : ◌≡◌ {A = ℕ} 0 1 = cc in omega arith

-- fewer records than there are, and more
pub record_behind : Holds (Kind.look ∷ 1 ∷ Kind.look ∷ 2 ∷ []) 1 0 → ⊥
record_behind (reads {next} e range (ends end)) =
    let past : next ≡ 2 = whole_ends (Kind.look ∷ 1 ∷ Kind.look ∷ 2 ∷ []) 0 _ next e in
    let clash : ◌≡◌ {A = ℕ} 2 4 = cc in
    omega arith

pub record_missing : Holds [] 1 0 → ⊥
unfolding decode record_of
record_missing (reads e range rest) = let clash : ◌≡◌ {A = ℕ} 0 1 = cc in omega arith

-- 4: a rank above 15, first or second
pub first_above : InRange (Look (rank 16)) → ⊥
unfolding rank_range
first_above range = true≢false (range.ranks fresh)

pub second_above : InRange (Call (rank 1) (rank 16)) → ⊥
unfolding rank_range
second_above range = true≢false (range.ranks fresh)

-- 5: a host above 7
pub host_above : InRange (Start (rank 1) 8) → ⊥
unfolding host_range
host_above range = true≢false (range.hosts fresh)
