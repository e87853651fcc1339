-- A number that 64 bits cannot hold, and one above the most that it may be, are too large; else the loop has read every digit of it.
use Rattle.std.proofs.Common.{◌≡◌, suc, ◌+◌, ◌*◌, ◌≤◌, ◌^◌, ◌∙◌, sym, ap, Ok, length, drop, arith}
use Rattle.std.proofs.Math.Seq.{drop-cons, drop-length}
use Rattle.std.proofs.lemmas.Bool.{eqb-true}
use Rattle.base.specs.Laws.Tests.{by_less}
use Rattle.made_up_argument.specs.Argument.{worth, number_in}
use Rattle.made_up_argument.specs.Laws.Argument.{grows, no_digits, too_large, is_number}
use Rattle.made_up_argument.proofs.number_in.Goals as goal

pub returns-then-is_empty : goal.returns-then-is_empty
unfolding number_in
returns-then-is_empty c =
    let none : length c.args.text.now ≡ 0 = eqb-true (length c.args.text.now) 0 (sym c.is_empty.ensures ∙ c.if-is_empty.true) in
    rw none

pub returns-then-not-all_digits : goal.returns-then-not-all_digits
returns-then-not-all_digits c =
    sym (no_digits c.args.most c.args.text.now (sym c.all_digits.ensures ∙ c.if-not-all_digits.true))

pub returns-in_default : goal.returns-in_default
returns-in_default c =
    let inv = c.loop-byte.invariant in
    let text = c.args.text.now in
    let digit = c.digit_of-digit in
    let more = 10 * c.loop-byte.n + digit.result in
    let rest = drop (suc c.loop-byte.byte-index) text in
    let on : worth 0 text ≡ worth more rest = inv.0 ∙ rw (drop-cons text c.loop-byte.byte-index 0 (omega arith), digit.ensures.0) in
    let grown : more ≤ worth 0 text = rw on (grows more rest) in
    by_less (worth 0 text) (2 ^ 64) (λ small. absurd (c.in_default.ensures (omega (arith, grown, small))))
    (λ large. sym (too_large c.args.most text inv.2 inv.1 (omega (arith, large, c.ranges.most.fits))))

pub returns-in_default-checked_add : goal.returns-in_default-checked_add
returns-in_default-checked_add c =
    let inv = c.loop-byte.invariant in
    let text = c.args.text.now in
    let digit = c.digit_of-digit in
    let more = 10 * c.loop-byte.n + digit.result in
    let rest = drop (suc c.loop-byte.byte-index) text in
    let on : worth 0 text ≡ worth more rest = inv.0 ∙ rw (drop-cons text c.loop-byte.byte-index 0 (omega arith), digit.ensures.0) in
    let grown : more ≤ worth 0 text = rw on (grows more rest) in
    let tens = c.in-Some.ensures in
    by_less (worth 0 text) (2 ^ 64) (λ small. absurd (c.in_default-checked_add.ensures (omega (arith, grown, small, tens.1))))
    (λ large. sym (too_large c.args.most text inv.2 inv.1 (omega (arith, large, c.ranges.most.fits))))

pub returns-then-most-n : goal.returns-then-most-n
returns-then-most-n c =
    let inv = c.loop-byte.invariant in
    let text = c.args.text.now in
    let all : c.loop-byte.byte-index ≡ length text = omega arith in
    let on : worth 0 text ≡ c.loop-byte.n = inv.0 ∙ rw (all, drop-length text) in
    sym (too_large c.args.most text inv.2 inv.1 (rw on c.if-most-n.true))

pub returns : goal.returns
returns c =
    let inv = c.loop-byte.invariant in
    let text = c.args.text.now in
    let all : c.loop-byte.byte-index ≡ length text = omega arith in
    let on : worth 0 text ≡ c.loop-byte.n = inv.0 ∙ rw (all, drop-length text) in
    sym (is_number c.args.most text inv.2 inv.1 (rw on c.if-most-n.false) ∙ ap Ok on)
