use Rattle.std.proofs.Common.{◌≡◌, ◌++◌, [], get_or}
use Rattle.agm_net.specs.Plain.{bit_names}
use Rattle.share_wiring.specs.Own.{upto}
use Rattle.share_wiring.specs.declared.gate.Gate.TheVariants.{Same}
use Rattle.share_wiring.specs.declared.gate.Source.TheVariants.{Equation}
use Rattle.share_wiring.proofs.bits.push_copies.Given as goal

abbrev pub invariant-loop-i : goal.invariant-loop-i
invariant-loop-i l = l.wires.items ≡ l.initial.wires.items ++ upto l.i (λ i. record { name = get_or (bit_names l.name l.range) i []; source = Equation (Same (get_or l.bits i 0)) })
