use Rattle.std.proofs.Common.{◌≡◌, ◌++◌, drop}
use Rattle.std.specs.List.{flat_map}
use Rattle.agm_net.specs.Formula.{formula_of}
use Rattle.secrecy_spread.specs.Wires.{edges_to}
use Rattle.secrecy_spread.proofs.wires.add_registers.Given as goal

abbrev pub invariant-loop-register : goal.invariant-loop-register
invariant-loop-register l =
    l.edges ++ flat_map (λ e. edges_to e.q (formula_of e.next)) (drop l.register-index l.registers)
    ≡ l.fn.edges ++ flat_map (λ e. edges_to e.q (formula_of e.next)) l.registers
