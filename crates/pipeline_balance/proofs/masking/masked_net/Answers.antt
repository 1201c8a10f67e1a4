use Rattle.std.proofs.Common.{◌≡◌, ◌-◌, ◌++◌, count_by, not, sym, ap, subst, subst₂, ◌∙◌, lit<, arith}
use Rattle.std.proofs.lemmas.List.{length-map}
use Rattle.agm_net.specs.Network.{Hpc2, HasGadgets}
use Rattle.agm_net.specs.Plain.{stored_of}
use Rattle.agm_net.specs.View.{plain_of}
use Rattle.pipeline_balance.specs.Entered.{IsEntered}
use Rattle.pipeline_balance.specs.LedOut.{IsLedOut}
use Rattle.pipeline_balance.proofs.Sizes.{value_fits}
use Rattle.pipeline_balance.proofs.Joined as joined
use Rattle.pipeline_balance.proofs.masking.masked_net.Goals as goal

pub enter-requires : goal.enter-requires
enter-requires g c =
    let n = g.row.S in
    let net = plain_of c.args.net.now in
    let marks = c.args.marks.now.kinds in
    let can = c.requires.piped in
    let fits = c.requires.fits in
    let laid = c.requires.laid in
    let same = c.requires.report in
    let size = c.requires.size in
    let s = c.args.secrets.now in
    let registers = c.as_slice-registers.ensures in (
      lit< tt,
      (
        c.in_ok-builder.ensures,
        (
          can.names,
          (
            joined.limits n net marks c.args.graph.now s c.args.xan.now c.args.plan.now c.args.layout.now c.args.report.now.mode c.args.report.now.order c.args.report.now can fits laid same size,
            (
              joined.shares_size n net marks c.args.graph.now s c.args.xan.now c.args.plan.now c.args.layout.now c.args.report.now.mode c.args.report.now.order c.args.report.now can fits laid same size,
              (
                c.as_slice-shared.ensures ∙ joined.flags_are n net marks c.args.graph.now s c.args.xan.now c.args.plan.now c.args.layout.now c.args.report.now.mode c.args.report.now.order c.args.report.now can fits laid same size,
                (
                  joined.public_count n net marks c.args.graph.now s c.args.xan.now c.args.plan.now c.args.layout.now c.args.report.now.mode c.args.report.now.order c.args.report.now can fits laid same size ∙ sym (ap (λ rs. count_by not rs) registers),
                  joined.secret_count n net marks c.args.graph.now s c.args.xan.now c.args.plan.now c.args.layout.now c.args.report.now.mode c.args.report.now.order c.args.report.now can fits laid same size ∙ sym (ap (λ rs. count_by (λ b. b) rs) registers),
                ),
              ),
            ),
          ),
        ),
      ),
    )

pub split_at-requires : goal.split_at-requires
split_at-requires g c = omega arith

pub make_pipeline-requires : goal.make_pipeline-requires
make_pipeline-requires g c =
    let n = g.row.S in
    let net = plain_of c.args.net.now in
    let marks = c.args.marks.now.kinds in
    let graph = c.args.graph.now in
    let s = c.args.secrets.now in
    let xan = c.args.xan.now in
    let plan = c.args.plan.now in
    let layout = c.args.layout.now in
    let mode = c.args.report.now.mode in
    let order = c.args.report.now.order in
    let report = c.args.report.now in
    let can = c.requires.piped in
    let fits = c.requires.fits in
    let laid = c.requires.laid in
    let same = c.requires.report in
    let size = c.requires.size in
    let b1 = c.enter.new.builder in
    let e = c.in_ok-entrance.entrance in
    let entered = subst (λ rs. IsEntered n net rs report b1 e.load e.inputs e.firsts) c.as_slice-registers.ensures c.in_ok-entrance.ensures in
    let outputs = c.split_at.result.0.now in
    let nexts = c.split_at.result.1.now in
    let parts : xan.sinks ≡ outputs ++ nexts = sym c.as_slice-sinks.ensures ∙ c.split_at.ensures.by_index.0 in
    let back = joined.back_of n net marks graph s xan plan layout mode order report can fits laid same size c.as_slice-sinks.result.now nexts c.len.result c.as_slice-sinks.ensures c.split_at.ensures.back_len (c.len.ensures ∙ sym (length-map c.args.net.now.registers stored_of)) in
    let low = fits.within.0 in
    let high = fits.within.1 in
    rw (c.as_slice.ensures, c.as_slice-2.ensures, c.as_slice-3.ensures) (
      value_fits n (omega (arith, size, high)),
      (
        (omega (arith, size, low), omega (arith, size, high)),
        (
          entered.load_is,
          (
            entered.inputs_are,
            (
              entered.firsts_are,
              (
                joined.one_each n net marks graph s xan plan layout mode order report can fits laid same size outputs nexts parts back b1 e.load e.inputs e.firsts entered,
                (
                  xan.in_order,
                  (
                    joined.layout_is n net marks graph s xan plan layout mode order report can fits laid same size outputs nexts parts back b1 e.load e.inputs e.firsts entered,
                    (
                      joined.outputs_reach n net marks graph s xan plan layout mode order report can fits laid same size outputs nexts parts back,
                      (
                        joined.nexts_reach n net marks graph s xan plan layout mode order report can fits laid same size outputs nexts parts back,
                        (
                          joined.public_nexts n net marks graph s xan plan layout mode order report can fits laid same size outputs nexts parts back b1 e.load e.inputs e.firsts entered,
                          (
                            joined.random_room n net marks graph s xan plan layout mode order report can fits laid same size outputs nexts parts back b1 e.load e.inputs e.firsts entered,
                            joined.gadget_room n net marks graph s xan plan layout mode order report can fits laid same size outputs nexts parts back b1 e.load e.inputs e.firsts entered,
                          ),
                        ),
                      ),
                    ),
                  ),
                ),
              ),
            ),
          ),
        ),
      ),
    )

pub lead_out-requires : goal.lead_out-requires
lead_out-requires g c =
    let n = g.row.S in
    let net = plain_of c.args.net.now in
    let marks = c.args.marks.now.kinds in
    let graph = c.args.graph.now in
    let s = c.args.secrets.now in
    let xan = c.args.xan.now in
    let plan = c.args.plan.now in
    let layout = c.args.layout.now in
    let mode = c.args.report.now.mode in
    let order = c.args.report.now.order in
    let report = c.args.report.now in
    let can = c.requires.piped in
    let fits = c.requires.fits in
    let laid = c.requires.laid in
    let same = c.requires.report in
    let size = c.requires.size in
    let b1 = c.enter.new.builder in
    let b2 = c.make_pipeline.new.builder in
    let e = c.in_ok-entrance.entrance in
    let values = c.in_ok-values.values in
    let entered = subst (λ rs. IsEntered n net rs report b1 e.load e.inputs e.firsts) c.as_slice-registers.ensures c.in_ok-entrance.ensures in
    let outputs = c.split_at.result.0.now in
    let nexts = c.split_at.result.1.now in
    let parts : xan.sinks ≡ outputs ++ nexts = sym c.as_slice-sinks.ensures ∙ c.split_at.ensures.by_index.0 in
    let back = joined.back_of n net marks graph s xan plan layout mode order report can fits laid same size c.as_slice-sinks.result.now nexts c.len.result c.as_slice-sinks.ensures c.split_at.ensures.back_len (c.len.ensures ∙ sym (length-map c.args.net.now.registers stored_of)) in
    let made = joined.made_of n b1 b2 outputs nexts layout plan.depth e.load values c.as_slice-3.result.now xan.nodes c.as_slice.result.now e.inputs c.as_slice-2.result.now e.firsts c.as_slice-3.ensures c.as_slice.ensures c.as_slice-2.ensures c.in_ok-values.ensures.pipeline in
    let high = fits.within.1 in
    rw c.as_slice-4.ensures (
      value_fits n (omega (arith, size, high)),
      (
        can.names,
        (
          joined.limits n net marks graph s xan plan layout mode order report can fits laid same size,
          (
            joined.shares_size n net marks graph s xan plan layout mode order report can fits laid same size,
            (
              c.as_slice-shared.ensures ∙ joined.flags_are n net marks graph s xan plan layout mode order report can fits laid same size,
              (
                joined.ports_entered n net marks graph s xan plan layout mode order report can fits laid same size outputs nexts parts back b1 e.load e.inputs e.firsts entered b2 values _ made c.in_ok-values.ensures.kinds,
                (
                  joined.are_outputs n net marks graph s xan plan layout mode order report can fits laid same size outputs nexts parts back b1 e.load e.inputs e.firsts entered b2 values _ made c.in_ok-values.ensures.kinds,
                  made.values,
                ),
              ),
            ),
          ),
        ),
      ),
    )

pub returns-clause-same : goal.returns-clause-same
returns-clause-same g c =
    let n = g.row.S in
    let net = plain_of c.args.net.now in
    let marks = c.args.marks.now.kinds in
    let graph = c.args.graph.now in
    let s = c.args.secrets.now in
    let xan = c.args.xan.now in
    let plan = c.args.plan.now in
    let layout = c.args.layout.now in
    let mode = c.args.report.now.mode in
    let order = c.args.report.now.order in
    let report = c.args.report.now in
    let can = c.requires.piped in
    let fits = c.requires.fits in
    let laid = c.requires.laid in
    let same = c.requires.report in
    let size = c.requires.size in
    let b1 = c.enter.new.builder in
    let b2 = c.make_pipeline.new.builder in
    let b3 = c.lead_out.new.builder in
    let e = c.in_ok-entrance.entrance in
    let values = c.in_ok-values.values in
    let masked = c.in_ok-masked.masked in
    let entered = subst (λ rs. IsEntered n net rs report b1 e.load e.inputs e.firsts) c.as_slice-registers.ensures c.in_ok-entrance.ensures in
    let outputs = c.split_at.result.0.now in
    let nexts = c.split_at.result.1.now in
    let parts : xan.sinks ≡ outputs ++ nexts = sym c.as_slice-sinks.ensures ∙ c.split_at.ensures.by_index.0 in
    let back = joined.back_of n net marks graph s xan plan layout mode order report can fits laid same size c.as_slice-sinks.result.now nexts c.len.result c.as_slice-sinks.ensures c.split_at.ensures.back_len (c.len.ensures ∙ sym (length-map c.args.net.now.registers stored_of)) in
    let made = joined.made_of n b1 b2 outputs nexts layout plan.depth e.load values c.as_slice-3.result.now xan.nodes c.as_slice.result.now e.inputs c.as_slice-2.result.now e.firsts c.as_slice-3.ensures c.as_slice.ensures c.as_slice-2.ensures c.in_ok-values.ensures.pipeline in
    let led = subst (λ vs. IsLedOut n net report vs b2 b3) c.as_slice-4.ensures c.in_ok-lead_out.ensures in
    joined.same n net marks graph s xan plan layout mode order report can fits laid same size outputs nexts parts back b1 e.load e.inputs e.firsts entered b2 values _ made c.in_ok-values.ensures.kinds b3 led
    (plain_of masked) c.in_ok-masked.ensures.net masked.well_formed c.in_ok-masked.ensures.no_loop c.in_ok-masked.ensures.runs

pub returns-clause-small : goal.returns-clause-small
returns-clause-small g c =
    let n = g.row.S in
    let net = plain_of c.args.net.now in
    let marks = c.args.marks.now.kinds in
    let graph = c.args.graph.now in
    let s = c.args.secrets.now in
    let xan = c.args.xan.now in
    let plan = c.args.plan.now in
    let layout = c.args.layout.now in
    let mode = c.args.report.now.mode in
    let order = c.args.report.now.order in
    let report = c.args.report.now in
    let can = c.requires.piped in
    let fits = c.requires.fits in
    let laid = c.requires.laid in
    let same = c.requires.report in
    let size = c.requires.size in
    let b1 = c.enter.new.builder in
    let b2 = c.make_pipeline.new.builder in
    let b3 = c.lead_out.new.builder in
    let e = c.in_ok-entrance.entrance in
    let values = c.in_ok-values.values in
    let masked = c.in_ok-masked.masked in
    let entered = subst (λ rs. IsEntered n net rs report b1 e.load e.inputs e.firsts) c.as_slice-registers.ensures c.in_ok-entrance.ensures in
    let outputs = c.split_at.result.0.now in
    let nexts = c.split_at.result.1.now in
    let parts : xan.sinks ≡ outputs ++ nexts = sym c.as_slice-sinks.ensures ∙ c.split_at.ensures.by_index.0 in
    let back = joined.back_of n net marks graph s xan plan layout mode order report can fits laid same size c.as_slice-sinks.result.now nexts c.len.result c.as_slice-sinks.ensures c.split_at.ensures.back_len (c.len.ensures ∙ sym (length-map c.args.net.now.registers stored_of)) in
    let made = joined.made_of n b1 b2 outputs nexts layout plan.depth e.load values c.as_slice-3.result.now xan.nodes c.as_slice.result.now e.inputs c.as_slice-2.result.now e.firsts c.as_slice-3.ensures c.as_slice.ensures c.as_slice-2.ensures c.in_ok-values.ensures.pipeline in
    let led = subst (λ vs. IsLedOut n net report vs b2 b3) c.as_slice-4.ensures c.in_ok-lead_out.ensures in
    let whole = led.complete report.gadgets (joined.is_complete n net marks graph s xan plan layout mode order report can fits laid same size outputs nexts parts back b1 e.load e.inputs e.firsts entered b2 values made) in
    c.in_ok-masked.ensures.small whole.sound.cells

pub returns-clause-network : goal.returns-clause-network
returns-clause-network g c =
    let n = g.row.S in
    let net = plain_of c.args.net.now in
    let marks = c.args.marks.now.kinds in
    let graph = c.args.graph.now in
    let s = c.args.secrets.now in
    let xan = c.args.xan.now in
    let plan = c.args.plan.now in
    let layout = c.args.layout.now in
    let mode = c.args.report.now.mode in
    let order = c.args.report.now.order in
    let report = c.args.report.now in
    let can = c.requires.piped in
    let fits = c.requires.fits in
    let laid = c.requires.laid in
    let same = c.requires.report in
    let size = c.requires.size in
    let b1 = c.enter.new.builder in
    let b2 = c.make_pipeline.new.builder in
    let b3 = c.lead_out.new.builder in
    let e = c.in_ok-entrance.entrance in
    let values = c.in_ok-values.values in
    let masked = c.in_ok-masked.masked in
    let entered = subst (λ rs. IsEntered n net rs report b1 e.load e.inputs e.firsts) c.as_slice-registers.ensures c.in_ok-entrance.ensures in
    let outputs = c.split_at.result.0.now in
    let nexts = c.split_at.result.1.now in
    let parts : xan.sinks ≡ outputs ++ nexts = sym c.as_slice-sinks.ensures ∙ c.split_at.ensures.by_index.0 in
    let back = joined.back_of n net marks graph s xan plan layout mode order report can fits laid same size c.as_slice-sinks.result.now nexts c.len.result c.as_slice-sinks.ensures c.split_at.ensures.back_len (c.len.ensures ∙ sym (length-map c.args.net.now.registers stored_of)) in
    let made = joined.made_of n b1 b2 outputs nexts layout plan.depth e.load values c.as_slice-3.result.now xan.nodes c.as_slice.result.now e.inputs c.as_slice-2.result.now e.firsts c.as_slice-3.ensures c.as_slice.ensures c.as_slice-2.ensures c.in_ok-values.ensures.pipeline in
    let led = subst (λ vs. IsLedOut n net report vs b2 b3) c.as_slice-4.ensures c.in_ok-lead_out.ensures in
    let whole = led.complete report.gadgets (joined.is_complete n net marks graph s xan plan layout mode order report can fits laid same size outputs nexts parts back b1 e.load e.inputs e.firsts entered b2 values made) in
    let one : n - 1 ≡ order = omega (arith, size) in
    subst (Hpc2 (plain_of masked)) one (c.in_ok-masked.ensures.network (n - 1) whole.sound.network whole.given)

pub returns-clause-gadgets : goal.returns-clause-gadgets
returns-clause-gadgets g c =
    let n = g.row.S in
    let net = plain_of c.args.net.now in
    let marks = c.args.marks.now.kinds in
    let graph = c.args.graph.now in
    let s = c.args.secrets.now in
    let xan = c.args.xan.now in
    let plan = c.args.plan.now in
    let layout = c.args.layout.now in
    let mode = c.args.report.now.mode in
    let order = c.args.report.now.order in
    let report = c.args.report.now in
    let can = c.requires.piped in
    let fits = c.requires.fits in
    let laid = c.requires.laid in
    let same = c.requires.report in
    let size = c.requires.size in
    let b1 = c.enter.new.builder in
    let b2 = c.make_pipeline.new.builder in
    let b3 = c.lead_out.new.builder in
    let e = c.in_ok-entrance.entrance in
    let values = c.in_ok-values.values in
    let masked = c.in_ok-masked.masked in
    let entered = subst (λ rs. IsEntered n net rs report b1 e.load e.inputs e.firsts) c.as_slice-registers.ensures c.in_ok-entrance.ensures in
    let outputs = c.split_at.result.0.now in
    let nexts = c.split_at.result.1.now in
    let parts : xan.sinks ≡ outputs ++ nexts = sym c.as_slice-sinks.ensures ∙ c.split_at.ensures.by_index.0 in
    let back = joined.back_of n net marks graph s xan plan layout mode order report can fits laid same size c.as_slice-sinks.result.now nexts c.len.result c.as_slice-sinks.ensures c.split_at.ensures.back_len (c.len.ensures ∙ sym (length-map c.args.net.now.registers stored_of)) in
    let made = joined.made_of n b1 b2 outputs nexts layout plan.depth e.load values c.as_slice-3.result.now xan.nodes c.as_slice.result.now e.inputs c.as_slice-2.result.now e.firsts c.as_slice-3.ensures c.as_slice.ensures c.as_slice-2.ensures c.in_ok-values.ensures.pipeline in
    let led = subst (λ vs. IsLedOut n net report vs b2 b3) c.as_slice-4.ensures c.in_ok-lead_out.ensures in
    let whole = led.complete report.gadgets (joined.is_complete n net marks graph s xan plan layout mode order report can fits laid same size outputs nexts parts back b1 e.load e.inputs e.firsts entered b2 values made) in
    let one : n - 1 ≡ order = omega (arith, size) in
    subst₂ (λ d m. HasGadgets (plain_of masked) d m) one whole.begun (c.in_ok-masked.ensures.gadgets (n - 1) whole.sound.network whole.given)
