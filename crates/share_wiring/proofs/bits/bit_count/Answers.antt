use Rattle.std.proofs.Common.{◌+◌, sym, ap, ◌∙◌}
use Rattle.agm_net.proofs.Named.{length-names}
use Rattle.share_wiring.proofs.bits.bit_count.Goals as goal

pub returns-in-Some : goal.returns-in-Some
returns-in-Some c name = rw c.in-Some.is (ap (λ k. k + 1) c.abs_diff.ensures ∙ sym (length-names name c.in-Some.range))
