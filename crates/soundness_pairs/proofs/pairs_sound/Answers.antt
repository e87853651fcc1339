use Rattle.std.proofs.Common.{rules, ◌≡◌, refl, ℕ, ◌/◌, ◌%◌, true, false, ◌∙◌}
use Rattle.std.proofs.lemmas.Iterator.{cases_from_all, YieldsList-from_range}
use borrow.Author.Tests.{tests}
use Rattle.base.specs.Laws.Ranges.{all_below_told}
use Rattle.transit.specs.Message.{rank, ranks, cells}
use Rattle.soundness_pairs.specs.Laws.Walk.{cell_of, every_cell}
use Rattle.soundness_pairs.specs.Pairs.{pairs_sound, pair_sound_at}
use Rattle.soundness_pairs.proofs.pairs_sound.Goals as goal

pub returns : goal.returns
unfolding pairs_sound
returns c =
    let x = c.args in
    let sound = pair_sound_at x.drawn x.processes x.locations x.links in
    let at = λ (k : ℕ). sound (rank (k / ranks)) (rank (k % ranks)) in
    all_below_told cells at c.all.result
    (cases_from_all _ _ _ (λ k. at k ≡ true) (λ k. at k ≡ false) c.all.ensures.ran (YieldsList-from_range 0 cells cells (cc) refl)
    (λ k q t. rw (cell_of k) (search (rules, tests))) (λ k q t. rw (cell_of k) (search (rules, tests)))) ∙ every_cell sound
