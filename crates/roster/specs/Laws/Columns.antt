-- The columns of a roster: what two rosters have in common that agree outside of one of them. Assumes nothing.
use Rattle.std.specs.Prelude.{◌≡◌, refl, List, ℕ, ◌+◌, ◌<◌, ◌≤◌, get_or, set}
use Rattle.std.proofs.Common.{ap, ◌∙◌, arith, get_or-set_other}
use Rattle.base.specs.Laws.Stores.{long_set}
use Rattle.base.specs.Laws.Tabulate.{tabulate_same}
use Rattle.base.specs.Lists.{tabulate}
use Rattle.transit.specs.Message.{ranks, cells}
use Rattle.transit.specs.Unread.{nothing}
use Rattle.broker.specs.Names.{hosts}
use Rattle.broker.specs.State.{with_locations, with_links}
use Rattle.broker.specs.declared.link.Link.{Link}
use Rattle.broker.specs.declared.process.Process.{Process}
use Rattle.broker.specs.declared.process.Vmid.{Vmid}
use Rattle.roster.specs.Loaded.{Outside, with_processes, with_all_drawn}
use Rattle.roster.specs.Numbers.{vmid_of, link_of, drawn_of}
use Rattle.roster.specs.Roster.{
  process_in,
  location_in,
  link_in,
  drawn_in,
  ranks_of,
  Holds,
  Whole,
  REQUESTS,
  LOCATIONS,
  LINKS,
  DRAWN,
  roster_length,
}

-- a roster agrees with itself
pub nothing_changed : {from to : ℕ} {l : List ℕ} → Whole l → Outside from to l l
nothing_changed whole = record { whole = whole; same = λ j out. refl }

-- and after a store inside, with what it agreed with before
pub changed_inside : {from to : ℕ} {l m : List ℕ} (i w : ℕ) → Outside from to l m → from ≤ i → i < to → Outside from to l (set m i w)
changed_inside {m = m} i w o low high =
    record {
      whole = long_set roster_length m i w o.whole;
      same = λ j out. get_or-set_other m i j w 0 (λ e. out (omega arith) (omega arith)) ∙ o.same j out;
    }

pub stored : {from to : ℕ} (l : List ℕ) (i w : ℕ) → Whole l → from ≤ i → i < to → Outside from to l (set l i w)
stored l i w whole low high = changed_inside i w (nothing_changed whole) low high

module _ {from to : ℕ} {l m : List ℕ} (o : Outside from to l m) where
  -- a column of n numbers from `start` on that lies outside
  column_kept : {A : Type 0} (decode : ℕ → A) (start n : ℕ) → ((k : ℕ) → k < n → from ≤ start + k → start + k < to → ⊥)
      → tabulate n (λ k. decode (get_or m (start + k) 0)) ≡ tabulate n (λ k. decode (get_or l (start + k) 0))
  column_kept decode start n out = tabulate_same n _ _ (λ k b. ap decode (o.same (start + k) (out k b)))

  -- and the two columns of the processes
  processes_kept : LOCATIONS ≤ from → tabulate ranks (process_in m) ≡ tabulate ranks (process_in l)
  processes_kept behind =
      tabulate_same ranks (process_in m) (process_in l)
      (λ k b. rw (o.same k (λ p q. omega arith), o.same (REQUESTS + k) (λ p q. omega arith)))

-- a roster that agrees outside of a part of the state holds the same state with its own part
module _ {l m : List ℕ} where
  pub processes_only : {ps : List Process} → Outside 0 LOCATIONS l m → tabulate ranks (process_in m) ≡ ps
      → Holds m (with_processes ps (ranks_of l))
  unfolding ranks_of
  processes_only o own =
      let locations = column_kept o vmid_of LOCATIONS cells (λ k b p q. omega arith) in
      let links = column_kept o link_of LINKS cells (λ k b p q. omega arith) in
      record { long = o.whole; same = rw (own, locations, links, column_kept o drawn_of DRAWN hosts (λ k b p q. omega arith)) }

  pub locations_only : {ls : List Vmid} → Outside LOCATIONS LINKS l m → tabulate cells (location_in m) ≡ ls
      → Holds m (with_locations ls (ranks_of l))
  unfolding ranks_of
  locations_only o own =
      let links = column_kept o link_of LINKS cells (λ k b p q. omega arith) in
      let drawn = column_kept o drawn_of DRAWN hosts (λ k b p q. omega arith) in
      record { long = o.whole; same = rw (processes_kept o (omega arith), own, links, drawn) }

  pub links_only : {ks : List Link} → Outside LINKS DRAWN l m → tabulate cells (link_in m) ≡ ks → Holds m (with_links ks (ranks_of l))
  unfolding ranks_of
  links_only o own =
      let locations = column_kept o vmid_of LOCATIONS cells (λ k b p q. omega arith) in
      let drawn = column_kept o drawn_of DRAWN hosts (λ k b p q. omega arith) in
      record { long = o.whole; same = rw (processes_kept o (omega arith), locations, own, drawn) }

  pub drawn_only : {ns : List ℕ} → Outside DRAWN roster_length l m → tabulate hosts (drawn_in m) ≡ ns
      → Holds m (with_all_drawn ns (ranks_of l))
  unfolding ranks_of
  drawn_only o own =
      let locations = column_kept o vmid_of LOCATIONS cells (λ k b p q. omega arith) in
      let links = column_kept o link_of LINKS cells (λ k b p q. omega arith) in
      record { long = o.whole; same = rw (processes_kept o (omega arith), locations, links, own) }

-- a roster has no messages
pub no_messages : (l : List ℕ) → (ranks_of l).unread ≡ nothing
unfolding ranks_of
no_messages l = refl
