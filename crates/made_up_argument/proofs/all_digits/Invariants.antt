-- The loop's invariant: what was looked at is digits. Assumes nothing.
use Rattle.std.proofs.Common.{◌≡◌, drop}
use Rattle.base.specs.Lists.{every}
use Rattle.made_up_argument.specs.Argument.{is_digit}
use Rattle.made_up_argument.proofs.all_digits.Given as goal

abbrev pub invariant-loop-byte : goal.invariant-loop-byte
invariant-loop-byte l = every is_digit l.text ≡ every is_digit (drop l.byte-index l.text)
