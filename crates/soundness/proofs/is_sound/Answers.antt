use Rattle.std.proofs.Common.{◌≡◌, ◌&&◌, sym, ◌∙◌}
use Rattle.broker.specs.State.{view}
use Rattle.soundness.specs.Laws.Sound.{sound_by_parts, by_ranks, by_pairs}
use Rattle.soundness.proofs.Types.{typed}
use Rattle.soundness.proofs.is_sound.Goals as goal
use Rattle.soundness.proofs.is_sound.Goals.{then-ranks_sound, else-ranks_sound}

pub returns-then-pairs_sound : goal.returns-then-pairs_sound
returns-then-pairs_sound c =
    let s = view c.args.broker in
    let two : (by_ranks s && by_pairs s) ≡ c.if-ranks_sound.value =
    elim c.if-ranks_sound.branch [
      | then-ranks_sound w ↦ rw (w.value-is, sym c.ranks_sound.ensures ∙ w.if-ranks_sound.true) (sym w.pairs_sound.ensures)
      | else-ranks_sound w ↦ rw (w.value-is, sym c.ranks_sound.ensures ∙ w.if-ranks_sound.false) (sym w.if-ranks_sound.false)
    ] in
    rw (sound_by_parts s (typed c.args.broker _ c.well_formed.0), two, c.if-pairs_sound.true) c.messages_sound.ensures

pub returns-else-pairs_sound : goal.returns-else-pairs_sound
returns-else-pairs_sound c =
    let s = view c.args.broker in
    let two : (by_ranks s && by_pairs s) ≡ c.if-ranks_sound.value =
    elim c.if-ranks_sound.branch [
      | then-ranks_sound w ↦ rw (w.value-is, sym c.ranks_sound.ensures ∙ w.if-ranks_sound.true) (sym w.pairs_sound.ensures)
      | else-ranks_sound w ↦ rw (w.value-is, sym c.ranks_sound.ensures ∙ w.if-ranks_sound.false) (sym w.if-ranks_sound.false)
    ] in
    rw (sound_by_parts s (typed c.args.broker _ c.well_formed.0), two, c.if-pairs_sound.false)
