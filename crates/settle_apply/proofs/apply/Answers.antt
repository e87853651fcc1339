-- `settle_apply::apply` meets its contract: each arm is what its kind's function ensures, and what it asks follows from the checks.
-- Assumes nothing.
use Rattle.std.proofs.Common.{◌≡◌}
use Rattle.std.proofs.Math.Option.{none}
use native.Mathlib.Nat.{pos_of_ne-zero}
use borrow.Author.Tests.{eqb-false}
use Rattle.protocol.specs.Checks.{refusal}
use Rattle.protocol.proofs.Laws.Accepted.{start_fits, send_fits, take_fits, move_fits, heed_fits, drain_fits, land_fits, part_fits}
use Rattle.broker.specs.State.{State}
use Rattle.record.specs.declared.Record.{Record}
use Rattle.desk.specs.Desk.{state_of}
use Rattle.settle_apply.proofs.apply.Goals as goal

-- no check applies to the record that was read
passing : (s : State) (read r : Record) → refusal s read ≡ none → read ≡ r → refusal s r ≡ none
passing s read r h e = rw e at h

pub start-requires : goal.start-requires
start-requires c =
    let s = state_of c.args.desk.now in
    (start_fits s _ _ (passing s _ _ c.requires c.in-Start.is)).room

pub send-requires : goal.send-requires
send-requires c =
    let s = state_of c.args.desk.now in
    let fits = send_fits s _ _ _ (passing s _ _ c.requires c.in-Send.is) in
    record { a_lt_ranks = (fits.two.first, fits.two.second); contents_len_bound = fits.room; contents_bound = fits.numbered }

pub take-requires : goal.take-requires
take-requires c =
    let s = state_of c.args.desk.now in
    let fits = take_fits s _ _ (passing s _ _ c.requires c.in-Take.is) in
    record { a_lt_ranks = (fits.two.second, fits.two.first); nonzero = pos_of_ne-zero (eqb-false _ 0 fits.unread) }

pub move_to-requires : goal.move_to-requires
move_to-requires c =
    let s = state_of c.args.desk.now in
    let fits = move_fits s _ _ (passing s _ _ c.requires c.in-Move.is) in
    record { r_lt_ranks = fits.one.in_range; host_bound = fits.room }

pub heed-requires : goal.heed-requires
heed-requires c =
    let s = state_of c.args.desk.now in
    let fits = heed_fits s _ _ (passing s _ _ c.requires c.in-Heed.is) in
    (fits.two.first, fits.two.second)

pub drain-requires : goal.drain-requires
drain-requires c =
    let s = state_of c.args.desk.now in
    let fits = drain_fits s _ _ (passing s _ _ c.requires c.in-Drain.is) in
    (fits.two.first, fits.two.second)

pub land-requires : goal.land-requires
land-requires c =
    let s = state_of c.args.desk.now in
    (land_fits s _ (passing s _ _ c.requires c.in-Land.is)).one.in_range

pub part-requires : goal.part-requires
part-requires c =
    let s = state_of c.args.desk.now in
    let fits = part_fits s _ _ (passing s _ _ c.requires c.in-Part.is) in
    record { a_lt_ranks = (fits.two.first, fits.two.second); apart = fits.two.apart }
