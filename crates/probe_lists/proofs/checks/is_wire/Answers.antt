use Rattle.std.proofs.Common.{ap, ◌∙◌}
use Rattle.std.specs.Str.{bytes_eq}
use Rattle.std.specs.Prelude.{is_some}
use Rattle.agm_net.proofs.Finds.{found_is_any}
use Rattle.probe_lists.proofs.checks.is_wire.Goals as goal

pub returns : goal.returns
returns c = c.is_some.ensures ∙ (ap is_some c.find.ensures ∙ found_is_any (λ n. bytes_eq n c.args.name.now) c.args.wires.now)
