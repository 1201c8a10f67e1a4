use Rattle.std.proofs.Common.{◌≡◌, ◌≤◌, ◌<◌, ◌/◌, ◌%◌, ◌^◌, ◌==◌, ℕ, false, refl, arith}
use Rattle.std.proofs.Math.Pow.{pow_mono}
use Rattle.std.proofs.lemmas.Nat.{div_below, pow_pos}
use Rattle.verilog_tokens.proofs.bits.bit.Goals as goal

-- a bit past the last is 0
past_last : (n k : ℕ) → n < 2 ^ 128 → 128 ≤ k → false ≡ ((n / 2 ^ k) % 2 == 1)
past_last n k fits past =
    let below : 2 ^ 128 ≤ 2 ^ k = pow_mono {i = 128} {j = k} past in
    let less : n / 2 ^ k < 1 = div_below n (2 ^ k) 1 (pow_pos k) (omega (arith, below)) in
    let none : n / 2 ^ k ≡ 0 = omega (arith, less) in
    rw none refl

pub returns-else-k-lt128 : goal.returns-else-k-lt128
returns-else-k-lt128 c = past_last c.args.number c.args.k c.ranges.number.fits c.if-k-lt128.false
