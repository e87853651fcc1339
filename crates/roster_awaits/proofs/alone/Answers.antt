use Rattle.std.proofs.Common.{rules, ◌≡◌, refl, ℕ, true, false}
use Rattle.std.proofs.lemmas.Iterator.{cases_from_all, YieldsList-from_range}
use borrow.Author.Tests.{tests}
use Rattle.base.specs.Laws.Ranges.{all_below_told}
use Rattle.broker.specs.Names.{is_closed}
use Rattle.broker.specs.Ranks.{every_rank}
use Rattle.broker.specs.State.{link_at}
use Rattle.roster.specs.Roster.{ranks_of}
use Rattle.transit.specs.Message.{rank, ranks}
use Rattle.roster_awaits.proofs.alone.Goals as goal

pub returns : goal.returns
unfolding every_rank
returns c =
    let closed = λ (k : ℕ). is_closed (link_at (ranks_of c.args.roster.now).links c.args.r (rank k)).connection in
    all_below_told ranks closed c.all.result
    (cases_from_all _ _ _ (λ k. closed k ≡ true) (λ k. closed k ≡ false) c.all.ensures.ran (YieldsList-from_range 0 ranks ranks (cc) refl)
    (λ x q k. search (rules, tests)) (λ x q k. search (rules, tests)))
