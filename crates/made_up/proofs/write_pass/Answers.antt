-- The laws of the course of a pass say what a turn of the loop does, and how the loop ends. Assumes nothing.
use Rattle.std.proofs.Common.{[], arith, refl}
use Rattle.made_up_pass.specs.Course.Course.{begun}
use Rattle.made_up_pass.specs.Laws.Ending.{because, goes_on, ends_so}
use Rattle.made_up_pass.specs.Laws.Piece.{bytes_fit}
use Rattle.made_up.proofs.write_pass.Goals as goal

pub loop-next-init : goal.loop-next-init
loop-next-init g c = (rw c.no_piece-piece.ensures (record { written = []; course = begun }), refl)

pub slice_bounds-write_all-end : goal.slice_bounds-write_all-end
slice_bounds-write_all-end g c =
    let made = c.next_piece-made in
    let room = c.requires in
    omega (arith, c.bytes_of.ensures, bytes_fit made.ensures, room, c.loop-next.invariant.1, made.auto.buffer)

pub loop-next-preserved : goal.loop-next-preserved
loop-next-preserved g c =
    let made = c.next_piece-made in
    let written = c.is_ok-written.result in
    let why = rw (← c.next_of.ensures, c.in-Continue.is) at (because made.result written) in
    let inv = c.loop-next.invariant in
    (goes_on inv.0.course made.result made.ensures written c.in-Continue.next why, omega (arith, inv.1, made.auto.buffer))

pub returns-in-Break : goal.returns-in-Break
returns-in-Break g c =
    let made = c.next_piece-made in
    let written = c.is_ok-written.result in
    let why = rw (← c.next_of.ensures, c.in-Break.is) at (because made.result written) in
    let stands = c.loop-next.invariant.0 in
    let room = c.requires in
    ends_so (omega (arith, c.ranges.seed.fits)) stands.course (omega (arith, room, c.loop-next.invariant.1)) made.result made.ensures
    written c.in-Break.ending why
