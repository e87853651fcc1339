-- A change made for each rank: what the change for one rank makes and no other undoes; and the tables after an announcement.
-- Assumes nothing.
use Rattle.std.specs.Prelude.{◌≡◌, false, ◌<◌}
use Rattle.std.proofs.Math.Path.{refl}
use Rattle.std.proofs.Common.{◌∙◌, arith}
use mathlib.Core.List.{List}
use borrow.Author.Tests.{eqb-false}
use Rattle.std.proofs.Math.ListN.{length, get_or, set, length-set}
use Rattle.std.proofs.Math.Seq.{get_or-set_same, get_or-set_other}
use Rattle.base.specs.Laws.Below.{each_below_makes}
use Rattle.base.specs.Laws.Stores.{long_set, store_again}
use Rattle.transit.specs.Message.{is_same_rank, rank, ranks, cells}
use Rattle.transit.specs.declared.Rank.{Rank}
use Rattle.protocol.specs.Laws.Ranks.{each_rank_keeps}
use Rattle.protocol.specs.Laws.State.{cell_below}
use Rattle.protocol.specs.Life.{announced}
use Rattle.broker.specs.Names.{unknown}
use Rattle.broker.specs.Ranks.{each_rank}
use Rattle.broker.specs.State.{cell}
use Rattle.broker.specs.declared.process.Vmid.{Vmid}

pub each_rank_makes : {A : Type 0} (P : A → Type 0) (f : Rank → A → A) (x : A) (r : Rank) → r.0 < ranks
    → ((y : A) → P (f r y)) → ((p : Rank) (y : A) → P y → P (f p y)) → P (each_rank f x)
unfolding each_rank
each_rank_makes P f x r b make keep =
    each_below_makes P ranks (λ n. f (rank n)) x r.0 b make (λ j y. keep (rank j) y)

module _ (r : Rank) (v : Vmid) (ls : List Vmid) (long : length ls ≡ cells) where
  -- the tables are as long after an announcement
  pub announced_long : length (announced r v ls) ≡ cells
  unfolding announced
  announced_long =
      each_rank_keeps (λ (l : List Vmid). length l ≡ cells) (λ p l. set l (cell p r) v) ls long (λ p l. long_set cells l (cell p r) v)

  -- everybody's entry for r is what was announced
  pub announced_own : (a : Rank) → a.0 < ranks → r.0 < ranks → get_or (announced r v ls) (cell a r) unknown ≡ v
  unfolding announced
  announced_own a ha hr =
      each_rank_makes (λ (l : List Vmid). length l ≡ cells → get_or l (cell a r) unknown ≡ v) (λ p l. set l (cell p r) v) ls a ha
      (λ l e. get_or-set_same l (cell a r) v unknown (below a l e))
      (λ p l before e. store_again l (cell p r) (cell a r) v unknown (below p l e) (before (rw length-set at e)))
      announced_long
    where
      below : (p : Rank) (l : List Vmid) → length (set l (cell p r) v) ≡ cells → cell a r < length l
      below p l e = rw (rw length-set at e) (cell_below a r ha hr)

  -- and every other entry is what it was
  pub announced_other : (a b : Rank) → b.0 < ranks → r.0 < ranks → is_same_rank b r ≡ false
      → get_or (announced r v ls) (cell a b) unknown ≡ get_or ls (cell a b) unknown
  unfolding announced
  announced_other a b hb hr e =
      let d = eqb-false b.0 r.0 e in
      each_rank_keeps (λ (l : List Vmid). get_or l (cell a b) unknown ≡ get_or ls (cell a b) unknown) (λ p l. set l (cell p r) v) ls
      refl (λ p l h. get_or-set_other l (cell p r) (cell a b) v unknown (λ c. d (omega arith)) ∙ h)
