use Rattle.bound_names.proofs.Ports.{bound_named}
use Rattle.bound_names.proofs.laws.bound_ports_are_named.Goals as goal

pub returns : goal.returns
returns c = bound_named
