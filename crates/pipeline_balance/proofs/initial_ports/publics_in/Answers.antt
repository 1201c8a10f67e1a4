use Rattle.std.proofs.Common.{◌∷◌, [], false, Some, codes, length, replicate, subst, arith}
use Rattle.agm_net.specs.Plain.{bit_names}
use Rattle.share_wiring.specs.Recombine.{port_value}
use Rattle.pipeline_balance.specs.Ports.{input_header}
use Rattle.pipeline_balance.specs.Entering.{Enters}
use Rattle.pipeline_balance.proofs.EnteringRegisters.{no_publics, some_publics}
use Rattle.pipeline_balance.proofs.initial_ports.publics_in.Goals as goal

pub returns-then-count-eq0 : goal.returns-then-count-eq0
returns-then-count-eq0 g c = no_publics g.row.S c.args.builder.now c.args.count c.new.result c.if-count-eq0.true c.new.ensures

pub returns : goal.returns
returns g c =
    let n = g.row.S in
    let old = c.args.builder.now in
    let now = c.public_in.new.builder in
    let no = c.if-count-eq0.false in
    let name = codes "agm_q_p" in
    some_publics n old now c.args.count c.in_ok-values.values (omega (arith, no))
    (subst (λ r. Enters n old now (input_header (Some r) name ∷ []) (replicate (length (bit_names name (Some r))) false) (λ net bit. port_value net name bit) c.in_ok-values.values) c.falling.ensures c.in_ok-values.ensures)
