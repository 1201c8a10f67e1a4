use Rattle.std.proofs.Common.{map}
use Rattle.std.proofs.lemmas.List.{length-map}
use Rattle.agm_net.proofs.Repeats.{first-at_end}
use Rattle.agm_net.proofs.checks.do_ports_differ.Goals as goal

pub returns : goal.returns
returns c = rw (← length-map c.args.ports.now (λ p. p.name)) (first-at_end (map (λ p. p.name) c.args.ports.now) c.in_ok-first_repeated_port.field-0 c.in_ok-first_repeated_port.ensures)
