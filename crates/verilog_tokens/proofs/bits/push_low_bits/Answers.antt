use Rattle.std.proofs.Common.{◌≡◌, ◌<◌, ◌-◌, ◌/◌, ◌%◌, ◌^◌, ◌==◌, ◌++◌, ℕ, zero, suc, Bool, List, [], ◌∷◌, ap, ◌∙◌, arith, append_assoc}
use Rattle.verilog_tokens.specs.Constants.{low_bits}
use Rattle.verilog_tokens.proofs.bits.push_low_bits.Goals as goal

-- one more bit
pushed : (bits new whole : List Bool) (n k m : ℕ) (b : Bool) → bits ++ low_bits k n ≡ whole → 0 < k → m ≡ k - 1 → b ≡ ((n / 2 ^ m) % 2 == 1) → new ≡ bits ++ b ∷ [] → new ++ low_bits m n ≡ whole
pushed bits new whole n zero m b i some e v f = absurd (omega arith)
pushed bits new whole n (suc j) m b i some e v f =
    let same : m ≡ j = omega (arith, e) in
    let bit : b ≡ ((n / 2 ^ j) % 2 == 1) = v ∙ ap (λ i. (n / 2 ^ i) % 2 == 1) same in
    ap (λ w. w ++ low_bits m n) f
    ∙ (ap (λ i. (bits ++ b ∷ []) ++ low_bits i n) same
    ∙ (ap (λ q. (bits ++ q ∷ []) ++ low_bits j n) bit ∙ (append_assoc bits (((n / 2 ^ j) % 2 == 1) ∷ []) (low_bits j n) ∙ i)))

pub loop-k-preserved : goal.loop-k-preserved
loop-k-preserved c =
    let some : 0 < c.loop-k.k = omega (arith, c.loop-k-test.true) in
    pushed c.loop-k.bits c.push.new.self _ c.args.number c.loop-k.k (c.loop-k.k - 1) c.bit.result c.loop-k.invariant some (omega arith) c.bit.ensures c.in_ok-push.ensures.ok
