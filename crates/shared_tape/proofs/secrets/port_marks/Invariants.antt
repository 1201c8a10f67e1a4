use Rattle.std.proofs.Common.{◌≡◌, map, cond, take}
use Rattle.agm_net.specs.declared.mark.Mark.TheVariants.{Secure, Unmarked}
use Rattle.share_wiring.specs.Recombine.{is_shared}
use Rattle.shared_tape.proofs.secrets.port_marks.Given as goal

abbrev pub invariant-loop-port : goal.invariant-loop-port
invariant-loop-port l = l.kinds ≡ map (λ p. cond (is_shared l.report p.name) Secure Unmarked) (take l.port-index l.ports)
