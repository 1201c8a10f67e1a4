use Rattle.std.proofs.Common.{sym, subst}
use Rattle.agm_net.specs.View.{plain_of}
use Rattle.pipeline_balance.specs.Ports.{FitsBeside}
use Rattle.pipeline_balance.specs.Entering.{FitInOrder, register_headers}
use Rattle.pipeline_balance.proofs.Sizes.{value_fits}
use Rattle.pipeline_balance.proofs.EnteringAll.{load, random, own, all_fit, begin_headers, load_headers, random_headers, state_headers_are, is_entered, sizes}
use Rattle.pipeline_balance.proofs.entering.enter.Goals as goal

pub load_in-requires : goal.load_in-requires
load_in-requires g c =
    let original = plain_of c.args.net.now in
    let report = c.args.report.now in
    let fits = all_fit original report c.requires.names c.requires.limits in
    record { fit = subst (λ hs. FitsBeside hs (load original report)) (sym (begin_headers g.row.S original c.args.secrets.now report c.args.builder.now c.requires.new)) fits.load_fits }

pub random_in-requires : goal.random_in-requires
random_in-requires g c =
    let original = plain_of c.args.net.now in
    let report = c.args.report.now in
    let n = g.row.S in
    let fits = all_fit original report c.requires.names c.requires.limits in
    let headers = load_headers n original c.args.secrets.now report c.args.builder.now c.requires.new c.load_in.new.builder c.in_ok-load.load (c.in_ok-load.ensures n) in
    record { few = c.requires.limits.random; fit = subst (λ hs. FitInOrder hs (random original report)) (sym headers) fits.random_fit }

pub registers_in-requires : goal.registers_in-requires
registers_in-requires g c =
    let original = plain_of c.args.net.now in
    let report = c.args.report.now in
    let n = g.row.S in
    let limits = c.requires.limits in
    let size = sizes n report.order c.requires.order limits.order in
    let fits = all_fit original report c.requires.names limits in
    let headers = random_headers n original c.args.secrets.now report c.args.builder.now c.requires.new c.load_in.new.builder c.in_ok-load.load (c.in_ok-load.ensures n) c.random_in.new.builder (c.in_ok-random_in.ensures n) in (
      value_fits n size.1,
      (
        size,
        (
          c.requires.order,
          ((limits.publics, c.requires.publics), ((limits.secrets, c.requires.secrets), subst (λ hs. FitInOrder hs (register_headers report)) (sym headers) fits.registers_fit)),
        ),
      ),
    )

pub inputs_in-requires : goal.inputs_in-requires
inputs_in-requires g c =
    let original = plain_of c.args.net.now in
    let report = c.args.report.now in
    let n = g.row.S in
    let size = sizes n report.order c.requires.order c.requires.limits.order in
    let fits = all_fit original report c.requires.names c.requires.limits in
    let headers =
    state_headers_are n original c.args.secrets.now report c.args.builder.now c.requires.new c.load_in.new.builder c.in_ok-load.load (c.in_ok-load.ensures n)
    c.random_in.new.builder (c.in_ok-random_in.ensures n) c.registers_in.new.builder c.in_ok-firsts.firsts c.in_ok-firsts.ensures in
    (value_fits n size.1, (size, (c.requires.names, (c.requires.order, (c.requires.shared, subst (λ hs. FitInOrder hs (own original report)) (sym headers) fits.own_fit)))))

pub returns : goal.returns
returns g c =
    let original = plain_of c.args.net.now in
    let report = c.args.report.now in
    let n = g.row.S in
    is_entered n original c.args.secrets.now report c.args.builder.now c.requires.new c.load_in.new.builder c.in_ok-load.load (c.in_ok-load.ensures n)
    c.random_in.new.builder (c.in_ok-random_in.ensures n) c.registers_in.new.builder c.in_ok-firsts.firsts c.in_ok-firsts.ensures
    c.inputs_in.new.builder c.in_ok-inputs.inputs c.in_ok-inputs.ensures c.requires.names c.requires.limits c.clock-clock.ensures.built
