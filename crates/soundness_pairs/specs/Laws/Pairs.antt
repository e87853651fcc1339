-- A rank that holds nothing towards another: what soundness says of their connection, backlog and request holds.
-- Assumes nothing.
use Rattle.std.specs.Prelude.{◌≡◌, refl, true, false, not, ◌&&◌, List, [], ◌∷◌, ℕ}
use Rattle.std.proofs.Math.Bool.{and-true}
use Rattle.std.proofs.lemmas.Bool.{not-true}
use Rattle.transit.specs.declared.Rank.{Rank}
use Rattle.base.specs.Laws.Tests.{not_both, parts}
use Rattle.broker.specs.Names.{asks_for, is_closed, is_closing, is_clear}
use Rattle.broker.specs.declared.link.Backlog.{Backlog}
use Rattle.broker.specs.declared.link.Backlog.TheVariants.{Clear, Unheeded, Marked}
use Rattle.broker.specs.declared.link.Connection.{Connection}
use Rattle.broker.specs.declared.link.Connection.TheVariants.{Closed, Open, Closing}
use Rattle.broker.specs.declared.link.Link.{Link}
use Rattle.broker.specs.declared.process.Process.{Process}
use Rattle.broker.specs.declared.process.Status.{Status}
use Rattle.broker.specs.declared.process.Vmid.{Vmid}
use Rattle.soundness_pairs.specs.Pairs.{location_fits, vmids_apart, connection_fits, backlog_fits, holds_nothing, pair_sound}

-- No line fits whatever faces it.
closed_fits : (t : Status) (there back : Connection) → is_closed there ≡ true → connection_fits t there back ≡ true
closed_fits t Closed back closed = refl
closed_fits t Open back closed = absurd (not_both closed refl)
closed_fits t Closing back closed = absurd (not_both closed refl)

-- No await fits where no notice is faced.
clear_fits : (t u : Status) (await : Backlog) (back : Connection) → is_clear await ≡ true → is_closing back ≡ false
    → backlog_fits t u await back ≡ true
clear_fits t u Clear back clear unnoticed = rw unnoticed
clear_fits t u Unheeded back clear unnoticed = absurd (not_both clear refl)
clear_fits t u Marked back clear unnoticed = absurd (not_both clear refl)

-- Two ranks of which the first holds nothing towards the second are sound by their names alone.
pub names_decide : (drawn : List ℕ) (a b : Rank) (p q : Process) (v : Vmid) (there back : Link)
    → holds_nothing b p.request there.connection there.backlog back.connection ≡ true
    → pair_sound drawn a b p q v there back ≡ (location_fits drawn v q.status && vmids_apart a b p.status q.status)
names_decide drawn a b p q v there back nothing =
    let calls = asks_for b p.request in
    let notice = is_closing back.connection in
    let clauses = parts (is_closed there.connection) (is_clear there.backlog ∷ not calls ∷ not notice ∷ []) nothing in
    let unnoticed = not-true notice clauses.1.1.1.0 in
    let uncalled = not-true calls clauses.1.1.0 in
    let connection = closed_fits p.status there.connection back.connection clauses.0 in
    let backlog = clear_fits p.status q.status there.backlog back.connection clauses.1.0 unnoticed in
    rw (connection, backlog, uncalled) (simp and-true)
