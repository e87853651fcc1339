-- The cases of a change: a value that a test chooses, a value that differs at one rank, and the states that a route and a drain
-- choose between. Assumes nothing.
use Rattle.std.specs.Prelude.{Option, Some, None, ◌≡◌, false, cond}
use Rattle.base.specs.Laws.Tests.{chosen}
use Rattle.transit.specs.Message.{is_same_rank}
use Rattle.transit.specs.Unread.{first_sent, relabel_first}
use Rattle.transit.specs.declared.Message.{Message}
use Rattle.transit.specs.declared.Place.TheVariants.{SourceList}
use Rattle.transit.specs.declared.Rank.{Rank}
use Rattle.protocol.specs.Connect.{route, route_to_ended, route_there, route_on}
use Rattle.protocol.specs.Laws.State.{same_rank_eq}
use Rattle.protocol.specs.Done.{Done}
use Rattle.broker.specs.State.{await, State, status, request, with_links, with_unread}
use Rattle.protocol.specs.Migrate.{drain, drain_found, on_source_channel}
use Rattle.broker.specs.Names.{same_vmid, is_ended, endpoint, posted_to}
use Rattle.broker.specs.declared.link.Backlog.TheVariants.{Clear}

-- of a value that differs at one rank: what holds there and what holds at every other
pub chosen_at : {A : Type 0} (P : Rank → A → Type 0) (r a : Rank) (x y : A) → P r x → (is_same_rank a r ≡ false → P a y)
    → P a (cond (is_same_rank a r) x y)
chosen_at P r a x y p q = chosen (P a) (is_same_rank a r) x y (λ e. rw (same_rank_eq a r e) p) q

-- of the state that a route leaves: to an ended rank, there, and on
pub route_cases : (P : State → Type 0) (a b : Rank) (s : State) → P (route_to_ended a b s).state
    → P (route_there a b (endpoint (status s b)) s).state → P (route_on a b (endpoint (status s b)) s).state → P (route a b s).state
unfolding route
route_cases P a b s ended there on =
    chosen (λ (d : Done). P d.state) (is_ended (status s b)) (route_to_ended a b s) _ (λ e. ended)
    (λ e. chosen (λ (d : Done). P d.state) (same_vmid (posted_to (request s a)) (endpoint (status s b)))
    (route_there a b (endpoint (status s b)) s) (route_on a b (endpoint (status s b)) s) (λ e. there) (λ e. on))

-- of the state that a drain leaves: with a message, and without
pub drain_cases : (P : State → Type 0) (r p : Rank) (s : State)
    → P (with_unread (relabel_first (on_source_channel p r) SourceList s.unread) s) → P (with_links (await r p Clear s.links) s)
    → P (drain r p s).state
unfolding drain
drain_cases P r p s some none = at (first_sent (on_source_channel p r) s.unread)
  where
    at : (x : Option Message) → P (drain_found r p s x).state
    at (Some m) = some
    at None = none
