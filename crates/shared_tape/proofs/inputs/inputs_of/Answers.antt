use Rattle.std.proofs.Common.{◌<◌, length, sym, subst}
use Rattle.stimulus.proofs.Named.{clock_within}
use Rattle.shared_tape.proofs.inputs.inputs_of.Goals as goal

pub inputs_among-requires : goal.inputs_among-requires
inputs_among-requires c = λ number is. subst (λ ports. number < length ports) (sym c.as_slice.ensures) (clock_within c.args.net.now.ports number (c.args.net.now.well_formed.ports_right.clock_fits number is))
