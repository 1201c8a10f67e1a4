use Rattle.std.proofs.Common.{◌<◌, length, map, filter, sym, subst, ap, ◌∙◌}
use Rattle.agm_net.specs.Plain.{is_input, ports_but}
use Rattle.agm_net.specs.WellFormed.{Differ}
use Rattle.stimulus.proofs.Named.{clock_within, inputs_differ}
use Rattle.stimulus.specs.Asked.{input_of, names_of}
use Rattle.stimulus.proofs.inputs.wanted_of.Goals as goal

pub inputs_of-requires : goal.inputs_of-requires
inputs_of-requires c = λ number is. subst (λ ports. number < length ports) (sym c.as_slice.ensures) (clock_within c.args.net.now.ports number (c.args.net.now.well_formed.ports_right.clock_fits number (sym c.requires ∙ is)))

pub names_of-requires : goal.names_of-requires
names_of-requires c =
    let are = c.as_slice-2.ensures ∙ (c.in_ok-inputs.ensures ∙ ap (λ ports. map input_of (filter is_input (ports_but c.args.clock ports))) c.as_slice.ensures) in
    subst (λ inputs. Differ (names_of inputs)) (sym are) (inputs_differ c.args.net.now.ports c.args.clock c.args.net.now.well_formed.ports_right.ports_differ)
