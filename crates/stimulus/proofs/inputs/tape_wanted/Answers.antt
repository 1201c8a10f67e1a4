use Rattle.std.proofs.Common.{◌<◌, length, map, filter, not, sym, subst, ap, ◌∙◌}
use Rattle.std.specs.Prelude.{codes}
use Rattle.std.specs.Str.{bytes_eq}
use Rattle.agm_net.specs.Plain.{is_input, ports_but}
use Rattle.agm_net.specs.WellFormed.{Differ}
use Rattle.stimulus.proofs.Named.{clock_within, kept_inputs, some_differ}
use Rattle.stimulus.specs.Asked.{input_of, names_of}
use Rattle.stimulus.specs.declared.inputs.Input.{Input}
use Rattle.stimulus.proofs.inputs.tape_wanted.Goals as goal

pub inputs_of-requires : goal.inputs_of-requires
inputs_of-requires c = λ number is. subst (λ ports. number < length ports) (sym c.as_slice.ensures) (clock_within c.args.net.now.ports number (c.args.net.now.well_formed.ports_right.clock_fits number is))

pub names_of-requires : goal.names_of-requires
names_of-requires c =
    let test = λ (i : Input). not (bytes_eq i.name (codes "agm_r")) in let net = c.args.net.now in
    let all = c.in_ok-inputs.ensures ∙ ap (λ ports. map input_of (filter is_input (ports_but net.clock ports))) c.as_slice.ensures in
    let are = c.as_slice-2.ensures ∙ (c.in_ok-inputs-2.ensures ∙ (ap (filter test) all ∙ kept_inputs test (filter is_input (ports_but net.clock net.ports)))) in
    subst (λ inputs. Differ (names_of inputs)) (sym are) (some_differ (λ p. test (input_of p)) net.ports net.clock net.well_formed.ports_right.ports_differ)

pub returns : goal.returns
returns c =
    let test = λ (i : Input). not (bytes_eq i.name (codes "agm_r")) in let net = c.args.net.now in
    let all = c.in_ok-inputs.ensures ∙ ap (λ ports. map input_of (filter is_input (ports_but net.clock ports))) c.as_slice.ensures in
    c.in_ok-inputs-2.ensures ∙ (ap (filter test) all ∙ kept_inputs test (filter is_input (ports_but net.clock net.ports)))
