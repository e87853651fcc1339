-- The loop's invariant: the slots before `i` are passed. Assumes nothing.
use Rattle.std.proofs.Common.{◌≤◌}
use Rattle.transit.specs.Pick.{Passed}
use Rattle.transit_relabel.proofs.pass.Given as goal

abbrev pub invariant-loop-i : goal.invariant-loop-i
invariant-loop-i l = record { few : l.n ≤ l.i; passed : Passed l.w l.to l.initial.slots l.i l.n l.slots }
