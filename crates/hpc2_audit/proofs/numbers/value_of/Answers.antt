use Rattle.std.proofs.Common.{◌+◌, get_or, arith}
use Rattle.std.proofs.lemmas.Str.Parse.{digit_at, digits_value-take-le}
use Rattle.std.proofs.lemmas.Int.Digits.{digits_value_more}
use Rattle.agm_net.proofs.ShareIndex.{digit_is, number_more}
use Rattle.hpc2_audit.proofs.numbers.value_of.Goals as goal
use Rattle.hpc2_audit.proofs.numbers.value_of.Goals.{then-digit-lt48-via-then-digit-lt48, then-digit-lt48-via-else-digit-lt48+then-digit-gt57}

pub returns-then-digit-lt48 : goal.returns-then-digit-lt48
returns-then-digit-lt48 c = λ all.
    let at = digit_at c.args.digits.now c.loop-digit.digit-index all c.loop-digit-test.true in
    elim c.then-digit-lt48.branch [ then-digit-lt48-via-then-digit-lt48 w ↦ absurd (omega arith) | then-digit-lt48-via-else-digit-lt48+then-digit-gt57 w ↦ absurd (omega arith) ]

pub returns-in_err-checked_mul : goal.returns-in_err-checked_mul
returns-in_err-checked_mul c =
    let more = digits_value_more 10 c.args.digits.now c.loop-digit.digit-index c.loop-digit-test.true in
    let front = digits_value-take-le 10 c.args.digits.now (c.loop-digit.digit-index + 1) (omega arith) in
    rw c.from_residual.ensures (λ all. omega (arith, more, front, c.in_err-checked_mul.ensures))

pub returns-in_err-number : goal.returns-in_err-number
returns-in_err-number c =
    let more = digits_value_more 10 c.args.digits.now c.loop-digit.digit-index c.loop-digit-test.true in
    let front = digits_value-take-le 10 c.args.digits.now (c.loop-digit.digit-index + 1) (omega arith) in
    let digit = digit_is (get_or c.args.digits.now c.loop-digit.digit-index 0) (omega arith) (omega arith) in
    rw c.from_residual-in_err-number.ensures (λ all. omega (arith, more, front, digit, c.in_err-number.ensures, c.in_ok-checked_mul.ensures, c.from.ensures))

pub loop-digit-preserved : goal.loop-digit-preserved
loop-digit-preserved c =
    let more = number_more c.args.digits.now c.loop-digit.digit-index c.loop-digit.number c.in_ok-number.number c.loop-digit-test.true (c.loop-digit.invariant.alone, c.loop-digit.invariant.value) (omega arith) (omega arith)
    (omega (arith, c.in_ok-number.ensures, c.in_ok-checked_mul.ensures, c.from.ensures)) in
    record { alone = more.0; value = more.1; small = omega (arith, c.in_ok-number.ensures) }
