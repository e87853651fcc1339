-- What is copied to the front is what stood from the position on: all bytes are moved.
use Rattle.std.proofs.Common.{◌≡◌, ◌+◌, ◌-◌, refl, arith, zero-add, drop}
use Rattle.std.proofs.lemmas.List.{drop-take, take-take}
use Rattle.std.proofs.Math.Seq.{paste}
use Rattle.print_buffer.specs.Laws.Buffer.{moving, all_moved}
use Rattle.print_buffer.proofs.keep_rest.Goals as goal

pub returns : goal.returns
returns c =
    let before = c.args.buffer.now in
    let from = c.args.from in
    let n = c.args.held - from in
    let all : from + n ≡ c.args.held = omega arith in
    let same = rw all at (drop-take from n before) in
    let moved : paste before 0 (drop from before) n ≡ moving before from c.args.held n =
    rw (same, take-take n n (drop from before) (omega arith), zero-add) refl in
    rw (c.copy_within.ensures.after, moved) (all_moved before from c.args.held c.requires.0 c.requires.1)
