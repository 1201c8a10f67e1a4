use Rattle.std.proofs.Common.{◌≡◌, ◌+◌, ◌++◌, Some, [], length, map, take, drop, slice_get, sym, ap, subst, ◌∙◌, arith}
use Rattle.std.proofs.Math.Seq.{take-length}
use Rattle.std.proofs.lemmas.List.{length-take-le}
use Rattle.std.proofs.lemmas.Option.{slice_get-get_or}
use Rattle.agm_net.specs.View.{plain_of}
use Rattle.share_wiring.specs.Recombine.{is_shared}
use Rattle.share_wiring.specs.Shape.{header_of}
use Rattle.pipeline_balance.specs.Entering.{FitInOrder, Enters, if_data, headers_for, kinds_for, values_for}
use Rattle.pipeline_balance.proofs.Sizes.{value_fits}
use Rattle.pipeline_balance.proofs.EnteringSteps.{enters_none}
use Rattle.pipeline_balance.proofs.EnteringInputs.{data_inputs, ports_front, ports_all, next_fits, next_enters, port_facts, flag_is, none_first}
use Rattle.pipeline_balance.proofs.input_ports.inputs_in.Goals as goal

pub inputs_for-requires : goal.inputs_for-requires
inputs_for-requires g c =
    let n = g.row.S in
    let report = c.args.report.now in
    let net = c.args.net.now in
    let ports = c.as_slice-ports.result.now in
    let same = c.as_slice-ports.ensures in
    let k = c.loop-k.k in
    let p = c.index-ports-k.result in
    let lt = c.loop-k-test.true in
    let at = c.index-ports-k.is in
    let xs = take k ports in
    let found : slice_get net.ports k ≡ Some p = ap (λ ps. slice_get ps k) (sym same) ∙ (slice_get-get_or ports k p lt ∙ ap (λ q. Some q) (sym at)) in
    let facts = port_facts (plain_of net) c.requires.names k p found in
    let long = length-take-le k ports (omega (arith, lt)) in
    let fit =
    next_fits report net.clock xs p n c.args.builder.now c.loop-k.builder (kinds_for report (data_inputs net.clock xs)) (values_for report (data_inputs net.clock xs)) c.loop-k.inputs (drop (k + 1) ports)
    (subst (λ ps. FitInOrder (map header_of c.args.builder.now.ports) (headers_for report (data_inputs net.clock ps))) (sym same ∙ ports_all ports k p lt at) c.requires.fit)
    c.loop-k.invariant in (
      value_fits n c.requires.size.1,
      (
        c.requires.size,
        (
          c.requires.order,
          (
            flag_is (λ q. is_shared report q.name) net.ports c.args.shared.now k p c.requires.shared found,
            (facts.bits, (facts.free, (facts.some, subst (λ j. FitInOrder (map header_of c.loop-k.builder.ports) (headers_for report (if_data net.clock j p))) long fit))),
          ),
        ),
      ),
    )

pub loop-k-init : goal.loop-k-init
loop-k-init g c =
    let n = g.row.S in
    let report = c.args.report.now in
    let old = c.args.builder.now in
    subst (λ ps. Enters n old old (headers_for report ps) (kinds_for report ps) (values_for report ps) c.new-inputs.result) (sym (none_first c.args.net.now.clock))
    (subst (Enters n old old [] [] (values_for report [])) (sym c.new-inputs.ensures) (enters_none n old))

pub loop-k-preserved : goal.loop-k-preserved
loop-k-preserved g c =
    let n = g.row.S in
    let report = c.args.report.now in
    let net = c.args.net.now in
    let ports = c.as_slice-ports.result.now in
    let k = c.loop-k.k in
    let p = c.index-ports-k.result in
    let lt = c.loop-k-test.true in
    let xs = take k ports in
    let old = c.args.builder.now in
    let now = c.loop-k.builder in
    let new = c.inputs_for.new.builder in
    let values = c.in_ok-values.values in
    let long = length-take-le k ports (omega (arith, lt)) in
    let step =
    subst (λ j. Enters n now new (headers_for report (if_data net.clock j p)) (kinds_for report (if_data net.clock j p)) (values_for report (if_data net.clock j p)) values) (sym long) c.in_ok-values.ensures in
    let more = next_enters report net.clock xs p n old now new c.loop-k.inputs values c.loop-k.invariant step in
    let moved =
    subst (λ ps. Enters n old new (headers_for report (data_inputs net.clock ps)) (kinds_for report (data_inputs net.clock ps)) (values_for report (data_inputs net.clock ps)) (c.loop-k.inputs ++ values))
    (sym (ports_front ports k p lt c.index-ports-k.is)) more in
    subst
    (Enters n old new (headers_for report (data_inputs net.clock (take (k + 1) ports))) (kinds_for report (data_inputs net.clock (take (k + 1) ports))) (values_for report (data_inputs net.clock (take (k + 1) ports))))
    (sym (c.in_ok-extend.ensures.ok ∙ ap (λ vs. c.loop-k.inputs ++ vs) c.as_slice.ensures)) moved

pub returns : goal.returns
returns g c =
    let n = g.row.S in
    let report = c.args.report.now in
    let net = c.args.net.now in
    let ports = c.as_slice-ports.result.now in
    let no = c.loop-k-test.false in
    let le = c.loop-k.auto.k-end in
    let whole : c.loop-k.k ≡ length ports = omega (arith, no, le) in
    subst (λ ps. Enters n c.args.builder.now c.loop-k.builder (headers_for report (data_inputs net.clock ps)) (kinds_for report (data_inputs net.clock ps)) (values_for report (data_inputs net.clock ps)) c.loop-k.inputs)
    (ap (λ k. take k ports) whole ∙ (take-length ports ∙ c.as_slice-ports.ensures)) c.loop-k.invariant
