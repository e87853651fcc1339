-- What the types of a `Broker`'s fields tell of them.
-- Assumes nothing.
use mathlib.Core.Path.{◌≡◌}
use mathlib.Core.List.{List}
use Prim.Native.Nat.{◌≤◌}
use native.Mathlib.Omega.{arith}
use lib.ListN.{length, length-take}
use borrow.Author.Rules.{elem_Fits}
use mir.Syntax.{w16}
use mir.Val.{Val}
use denote.Laws.{Is}
use denote.Struct
use Rattle.broker.specs.contracts.state.Broker.{the_type as the_broker}
use Rattle.broker.specs.State.{view}
use Rattle.broker.specs.declared.state.Broker.{Broker}
use Rattle.transit.proofs.Slots.{slots}
use Rattle.transit.specs.contracts.Transit.{the_type as the_transit}
use Rattle.transit.specs.Unread.{unread_of, limit}
use Rattle.transit.specs.declared.Transit.{Transit}
use Rattle.soundness.specs.Laws.Sound.{Typed}

-- Within the limit as many messages are held as the count says.
held_count : (t : Transit) (vs : List Val) → Is (Struct.Declared.row the_transit) t vs → t.count ≤ limit
    → length (unread_of t).messages ≡ t.count
held_count t vs good few = rw (length-take, slots t vs good) (omega arith)

-- The arrays have their lengths, and each number drawn fits sixteen bits.
pub typed : (broker : Broker) (vs : List Val) → Is (Struct.Declared.row the_broker) broker vs → Typed (view broker)
typed broker vs good =
    let fields = good.1.1 in
    let drawn = fields.1.1.1.0 in
    record {
      shape = record {
        processes_long = fields.0.1.0.1;
        locations_long = fields.1.0.1.0.1;
        links_long = fields.1.1.0.1.0.1;
        drawn_long = drawn.1.0.1;
        sent_long = fields.1.1.1.1.0.1.1.1.1.0.1.0.1;
      };
      numbered = λ h _. omega (arith, elem_Fits w16 w16 broker.drawn _ h drawn.1.1 tt);
      held = held_count broker.transit _ fields.1.1.1.1.0;
    }
