use Rattle.std.proofs.Common.{◌<◌, sym, subst, ◌∙◌, length}
use Rattle.std.specs.List.{All}
use Rattle.agm_net.specs.View.{plain_of}
use Rattle.probe_cones.proofs.Outputs.{outputs_inside}
use Rattle.probe_cones.proofs.observation.watch_index.Goals as goal

pub cones-requires-clause-in_range : goal.cones-requires-clause-in_range
cones-requires-clause-in_range c =
    subst (All (λ w. w < length c.args.net.now.wires)) (sym (c.as_slice.ensures ∙ c.in_ok-wires.ensures))
    (outputs_inside (plain_of c.args.net.now) c.args.net.now.well_formed c.args.index)
