-- `record::decode::decode` meets its contract: each answer is the definition's, by what was found of the log. Assumes nothing.
use Rattle.std.proofs.Common.{◌≡◌, refl, true, Option, Some, None, Err, Result, ℕ, ◌+◌, ◌<◌, ◌≤◌, ◌⊎◌, inl, inr, arith, get_or, length}
use Rattle.std.proofs.Math.Nat.{sub-zero}
use Rattle.std.proofs.lemmas.List.{take_rest, length-drop}
use Rattle.std.proofs.lemmas.Result.{err_from_is_err_and}
use Rattle.std.specs.Option.{ok_or}
use Rattle.record.specs.declared.Fault.{Fault}
use Rattle.record.specs.declared.Fault.TheVariants.{Cut}
use Rattle.record.specs.Laws.Record.{at_end_lem, no_kind, cut_short, whole}
use Rattle.record.specs.Kinds.{number_of}
use Rattle.record.specs.Record.{is_kind, body_length}
use Rattle.record.specs.declared.kind.Kind.{Kind}
use Rattle.record.specs.declared.kind.Kind.TheVariants.{Start}
use Rattle.record.proofs.decode.decode.Goals as goal

-- An option is answered with `Cut` only where it has no value.
wanting : {X : Type 0} (o : Option X) (f : Fault) → ◌≡◌ {A = Result X Fault} (Err f) (ok_or o Cut) → (o ≡ None) × (f ≡ Cut)
wanting None f e = (refl, cc)
wanting (Some x) f e = cc

-- The number of a kind is one of the table's.
kind_numbered : (k : Kind) → is_kind (number_of k) ≡ true
kind_numbered Start = refl
kind_numbered _ = refl

-- No length is below zero.
not_below : {P : Type 0} (n : ℕ) → (n < 0) ⊎ P → P
not_below n (inl h) = absurd (omega (arith, h))
not_below n (inr p) = p

pub returns-in_err-byte : goal.returns-in_err-byte
returns-in_err-byte c =
    let left = err_from_is_err_and c.from_residual.result c.from_residual.ensures.1 in
    let none = wanting c.get.result _ c.in_err-byte.ensures.value in
    let past = rw none.0 at c.get.ensures.lookup in
    rw (left.1, left.2, none.1, at_end_lem c.args.log.now c.args.at past.3)

pub returns-in_err-kind : goal.returns-in_err-kind
returns-in_err-kind c =
    let left = err_from_is_err_and c.from_residual-in_err-kind.result c.from_residual-in_err-kind.ensures.1 in
    let found = rw c.in_ok-byte.ensures.ok_part at c.get.ensures.lookup in
    let byte = found.4 (omega arith) 0 in
    let unread = c.in_err-kind.ensures in
    rw (left.1, left.2, unread.0, no_kind c.args.log.now c.args.at found.3.0 (rw byte at unread.1))

pub returns-in_err-body : goal.returns-in_err-body
returns-in_err-body c =
    let log = c.args.log.now in
    let left = err_from_is_err_and c.from_residual-in_err-body.result c.from_residual-in_err-body.ensures.1 in
    let found = rw c.in_ok-byte.ensures.ok_part at c.get.ensures.lookup in
    let byte = found.4 (omega arith) 0 in
    let known = rw (c.in_ok-kind.ensures, byte) at (kind_numbered c.in_ok-kind.kind) in
    let long = rw (c.in_ok-kind.ensures, byte) at c.body_length.ensures in
    let none = wanting c.get-2.result _ c.in_err-body.ensures.value in
    let short = not_below _ (rw (none.0, take_rest log (c.args.at + 1)) at c.get-2.ensures.lookup).0 in
    let cut : length log < c.args.at + 1 + body_length (get_or log c.args.at 0) =
    omega (arith, found.3.0, short, long, length-drop (c.args.at + 1) log) in
    rw (left.1, left.2, none.1, cut_short log c.args.at found.3.0 known cut)

pub returns : goal.returns
returns c =
    let log = c.args.log.now in
    let found = rw c.in_ok-byte.ensures.ok_part at c.get.ensures.lookup in
    let byte = found.4 (omega arith) 0 in
    let known = rw (c.in_ok-kind.ensures, byte) at (kind_numbered c.in_ok-kind.kind) in
    let long = rw (c.in_ok-kind.ensures, byte) at c.body_length.ensures in
    let body = (rw (c.in_ok-body.ensures.ok_part, take_rest log (c.args.at + 1)) at c.get-2.ensures.lookup).0 in
    let inside : c.args.at + 1 + body_length (get_or log c.args.at 0) ≤ length log =
    omega (arith, found.3.0, body.1, long, length-drop (c.args.at + 1) log) in
    let size : length c.in_ok-body.body.now ≡ body_length (get_or log c.args.at 0) = omega (arith, body.3, long) in
    let same = rw (sub-zero c.body_length.result, long) at body.2 in
    rw (whole log c.args.at found.3.0 known inside, c.record_of.ensures, c.in_ok-kind.ensures, byte, size, same)
