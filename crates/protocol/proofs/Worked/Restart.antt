-- The laws of a restart, at a state: rank 0 is started on host 5 and runs as 5.1. Paper 02, change 2. Assumes nothing.
use Rattle.std.specs.Prelude.{true, false, [], ◌∷◌, ◌≡◌, refl, ◌<◌}
use Rattle.std.proofs.Math.Option.{none}
use Rattle.std.proofs.Common.{arith, ltb-true}
use Rattle.transit.specs.Message.{rank}
use Rattle.protocol.specs.Checks.{refusal}
use Rattle.record.specs.Kind
use Rattle.protocol.specs.Laws.Opened.{opened_sound}
use Rattle.protocol.proofs.Laws.Restart.{like_any_other, restart_draws, restart_apart, restart_accepted, restart_carried_out}
use Rattle.protocol.proofs.Laws.Step.{carried}
use Rattle.protocol.specs.Life.{announced, start}
use Rattle.protocol.specs.Migrate.{move}
use Rattle.broker.specs.Names.{numbers, vmid, same_vmid}
use Rattle.broker.specs.Ranks.{each_rank}
use Rattle.record.specs.Record.{decode, record_of}
use Rattle.protocol.specs.Sound.{sound}
use Rattle.broker.specs.State.{State, status, drawn_on, fresh}
use Rattle.protocol.specs.Step.{step}
use Rattle.broker.specs.declared.process.Status.TheVariants.{Running}
use Rattle.record.specs.declared.Record.TheVariants.{Move}

abbrev started : State
started = (start (rank 0) 5 fresh).state

is_sound : sound started ≡ true
unfolding opened_sound start announced each_rank
is_sound = refl

runs : status started (rank 0) ≡ Running (vmid 5 1)
unfolding start announced
runs = refl

has_room : drawn_on started 5 < numbers
unfolding start announced
has_room = ltb-true 1 numbers refl

pub restart_is_like_a_move_elsewhere : refusal started (Move (rank 0) 5) ≡ refusal started (Move (rank 0) 3)
unfolding start announced
restart_is_like_a_move_elsewhere = like_any_other started (rank 0) 5 3 (omega arith) (omega arith) has_room (ltb-true 0 numbers refl)

pub restart_is_accepted : refusal started (Move (rank 0) 5) ≡ none
unfolding start announced
restart_is_accepted = restart_accepted started (rank 0) (vmid 5 1) is_sound (omega arith) runs refl has_room

pub number_is_greater : 1 < 2
unfolding start announced
number_is_greater = restart_draws started (rank 0) (vmid 5 1) is_sound (omega arith) runs

pub vmids_differ : same_vmid (vmid 5 1) (vmid 5 2) ≡ false
unfolding start announced
vmids_differ = restart_apart started (rank 0) (vmid 5 1) is_sound (omega arith) runs

pub restart_is_carried_out : step started (Kind.move ∷ 0 ∷ 5 ∷ []) 0 ≡ carried (move (rank 0) 5 started) 3
unfolding start announced decode record_of
restart_is_carried_out =
    restart_carried_out started (rank 0) (vmid 5 1) is_sound (omega arith) runs refl has_room (Kind.move ∷ 0 ∷ 5 ∷ []) 0 3 refl
