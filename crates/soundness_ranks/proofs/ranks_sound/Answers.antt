use Rattle.std.proofs.Common.{rules, ◌≡◌, refl, ℕ, true, false}
use Rattle.std.proofs.lemmas.Iterator.{cases_from_all, YieldsList-from_range}
use borrow.Author.Tests.{tests}
use Rattle.base.specs.Laws.Ranges.{all_below_told}
use Rattle.broker.specs.Ranks.{every_rank}
use Rattle.transit.specs.Message.{rank, ranks}
use Rattle.soundness_ranks.specs.Ranks.{ranks_sound, rank_sound_at}
use Rattle.soundness_ranks.proofs.ranks_sound.Goals as goal

pub returns : goal.returns
unfolding ranks_sound every_rank
returns c =
    let sound = λ (k : ℕ). rank_sound_at c.args.drawn c.args.processes c.args.links (rank k) in
    all_below_told ranks sound c.all.result
    (cases_from_all _ _ _ (λ k. sound k ≡ true) (λ k. sound k ≡ false) c.all.ensures.ran (YieldsList-from_range 0 ranks ranks (cc) refl)
    (λ x q k. search (rules, tests)) (λ x q k. search (rules, tests)))
