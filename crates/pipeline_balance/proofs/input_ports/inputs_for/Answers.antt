use Rattle.std.proofs.Common.{◌≡◌, true, false, not, cond, [], ◌∷◌, map, sym, ap, subst, ◌∙◌}
use Rattle.std.proofs.lemmas.Bool.{and_parts}
use Rattle.agm_net.specs.Plain.{is_input}
use Rattle.share_wiring.specs.Shape.{header_of}
use Rattle.pipeline_balance.specs.Entering.{FitInOrder, Enters, is_clock_number, is_data_port, if_data, headers_for, kinds_for, values_for}
use Rattle.pipeline_balance.proofs.Sizes.{value_fits}
use Rattle.pipeline_balance.proofs.EnteringSteps.{enters_none}
use Rattle.pipeline_balance.proofs.input_ports.inputs_for.Goals as goal

pub input_in-requires : goal.input_in-requires
input_in-requires g c =
    let clock = c.args.clock in
    let k = c.args.number in
    let p = c.args.port.now in
    let r = c.requires in
    let is : is_data_port clock k p ≡ true = sym c.is_data_in.ensures ∙ c.if-is_data_in.true in
    let here : if_data clock k p ≡ p ∷ [] = ap (λ b. cond b (p ∷ []) []) is in (
      value_fits g.row.S r.size.1,
      (
        r.size,
        (
          r.order,
          (
            r.shared,
            (
              (and_parts (is_input p) (not (is_clock_number clock k)) is).0,
              (r.bits, (r.free, (r.some, subst (λ ps. FitInOrder (map header_of c.args.builder.now.ports) (headers_for c.args.report.now ps)) here r.fit))),
            ),
          ),
        ),
      ),
    )

pub returns-then-is_data_in : goal.returns-then-is_data_in
returns-then-is_data_in g c =
    let clock = c.args.clock in
    let k = c.args.number in
    let p = c.args.port.now in
    let report = c.args.report.now in
    let is : is_data_port clock k p ≡ true = sym c.is_data_in.ensures ∙ c.if-is_data_in.true in
    let here : p ∷ [] ≡ if_data clock k p = sym (ap (λ b. cond b (p ∷ []) []) is) in
    subst (λ ps. Enters g.row.S c.args.builder.now c.input_in.new.builder (headers_for report ps) (kinds_for report ps) (values_for report ps) c.in_ok-values.values) here c.in_ok-values.ensures

pub returns : goal.returns
returns g c =
    let clock = c.args.clock in
    let k = c.args.number in
    let p = c.args.port.now in
    let report = c.args.report.now in
    let is : is_data_port clock k p ≡ false = sym c.is_data_in.ensures ∙ c.if-is_data_in.false in
    let here : [] ≡ if_data clock k p = sym (ap (λ b. cond b (p ∷ []) []) is) in
    subst (λ ps. Enters g.row.S c.args.builder.now c.args.builder.now (headers_for report ps) (kinds_for report ps) (values_for report ps) c.new.result) here (subst (Enters g.row.S c.args.builder.now c.args.builder.now _ _ _) (sym c.new.ensures) (enters_none g.row.S c.args.builder.now))
