-- The loop's invariant: the text is what the digits behind those that were read make of their number. Assumes nothing.
use Rattle.std.proofs.Common.{◌≡◌, true, ◌<◌, length, drop}
use Rattle.base.specs.Lists.{every}
use Rattle.made_up_argument.specs.Argument.{is_digit, worth}
use Rattle.made_up_argument.proofs.number_in.Given as goal

abbrev pub invariant-loop-byte : goal.invariant-loop-byte
invariant-loop-byte l =
    (worth 0 l.text ≡ worth l.n (drop l.byte-index l.text)) × (every is_digit l.text ≡ true) × (0 < length l.text)
