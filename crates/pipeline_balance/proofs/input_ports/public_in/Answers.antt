use Rattle.std.proofs.Common.{◌≡◌, ◌∷◌, [], map, sym, ap, subst, ◌∙◌}
use Rattle.pipeline_balance.specs.Ports.{input_header, public_value, value_row}
use Rattle.pipeline_balance.specs.Entering.{Enters}
use Rattle.pipeline_balance.proofs.Porting.{fits_new, none_entered, entered_more}
use Rattle.pipeline_balance.proofs.EnteringPorts.{public_enters}
use Rattle.pipeline_balance.proofs.input_ports.public_in.Goals as goal

pub port_in-requires : goal.port_in-requires
port_in-requires g c = fits_new c.args.builder.now (input_header c.args.range c.args.name.now) c.clock-clock.ensures.built c.requires.fit

pub returns : goal.returns
returns g c =
    let n = g.row.S in
    let old = c.args.builder.now in
    let now = c.port_in.new.self in
    let name = c.args.name.now in
    let range = c.args.range in
    let e = c.in_ok-bits.ensures in
    let bits = c.in_ok-bits.bits in
    let same = c.as_slice.ensures in
    let entered = entered_more range (name ∷ []) old old 0 [] (none_entered range (name ∷ []) old) now bits e.bits e.made e.extends e.adds e.cells e.network in
    let are = c.public_values.ensures in
    let values : c.in_ok-values.values ≡ map public_value bits = c.in_ok-values.ensures.values ∙ ap (map public_value) same in
    subst (Enters n old now _ _ _) (sym values)
    (public_enters n old now name range c.requires.fit.small bits entered c.requires.public
    (λ bit t. ap (map (bit t)) (sym same) ∙ (c.in_ok-values.ensures.told bit t ∙ ap (value_row n bit t) values)))
