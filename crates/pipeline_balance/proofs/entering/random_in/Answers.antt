use Rattle.std.proofs.Common.{◌∷◌, [], Some, codes, map, sym, ap, subst, ◌∙◌, arith}
use Rattle.share_wiring.specs.Built.{IsNewPort}
use Rattle.share_wiring.specs.Shape.{header_of, input_of_width}
use Rattle.pipeline_balance.specs.Ports.{input_header}
use Rattle.pipeline_balance.specs.Entering.{FitInOrder, Enters}
use Rattle.pipeline_balance.proofs.Porting.{fits_new, none_entered, entered_more}
use Rattle.pipeline_balance.proofs.EnteringSteps.{enters_none}
use Rattle.pipeline_balance.proofs.EnteringRegisters.{fallen, width_header}
use Rattle.pipeline_balance.proofs.EnteringPorts.{random_fits}
use Rattle.pipeline_balance.proofs.EnteringAll.{port_enters}
use Rattle.pipeline_balance.proofs.entering.random_in.Goals as goal

pub port_in-requires : goal.port_in-requires
port_in-requires c =
    let no = c.if-count-eq0.false in
    let olds = map header_of c.args.builder.now.ports in
    let fit = subst (FitInOrder olds) (width_header (codes "agm_r") c.args.count (omega (arith, no))) c.requires.fit in
    subst (λ r. IsNewPort c.args.builder.now (codes "agm_r") (Some r)) (sym c.falling.ensures) (fits_new c.args.builder.now (input_header (Some (fallen c.args.count)) (codes "agm_r")) c.clock-clock.ensures.built fit.0)

pub returns-then-count-eq0 : goal.returns-then-count-eq0
returns-then-count-eq0 c n =
    subst (λ k. Enters n c.args.builder.now c.args.builder.now (input_of_width (codes "agm_r") k) [] (λ net bit. []) []) (sym c.if-count-eq0.true) (enters_none n c.args.builder.now)

pub returns : goal.returns
returns c n =
    let old = c.args.builder.now in
    let now = c.port_in.new.self in
    let name = codes "agm_r" in
    let no = c.if-count-eq0.false in
    let range = Some c.falling.result in
    let e = c.in_ok-port_in.ensures in
    let bits = c.in_ok-port_in.field-0 in
    let entered = entered_more range (name ∷ []) old old 0 [] (none_entered range (name ∷ []) old) now bits e.bits e.made e.extends e.adds e.cells e.network in
    subst (λ hs. Enters n old now hs [] (λ net bit. []) []) (ap (λ r. input_header (Some r) name ∷ []) c.falling.ensures ∙ sym (width_header name c.args.count (omega (arith, no))))
    (port_enters n old now name range bits random_fits entered)
