use Rattle.std.proofs.Common.{◌+◌, arith}
use Rattle.small_text.proofs.Numbers.{number_more, number_front}
use Rattle.verilog_tokens.proofs.constant.number.Goals as goal

pub returns-in_err-number : goal.returns-in_err-number
returns-in_err-number c =
    let more = number_more c.args.digits.now c.loop-digit.digit-index c.loop-digit-test.true in
    let front = number_front c.args.digits.now (c.loop-digit.digit-index + 1) in
    rw c.from_residual.ensures (omega (arith, more, front, c.in_err-number.ensures, c.loop-digit.invariant))
