use Rattle.std.proofs.Common.{◌≡◌, ◌∷◌, [], false, None, codes, map, get_or, sym, ap, subst, ◌∙◌}
use Rattle.share_wiring.specs.Recombine.{port_value}
use Rattle.share_wiring.specs.Shape.{one_input}
use Rattle.pipeline_balance.specs.Ports.{public_value}
use Rattle.pipeline_balance.specs.Entering.{Enters}
use Rattle.pipeline_balance.proofs.Porting.{fits_new, none_entered, entered_more}
use Rattle.pipeline_balance.proofs.Recombining.{publics_told}
use Rattle.pipeline_balance.proofs.EnteringPorts.{public_enters}
use Rattle.pipeline_balance.proofs.EnteringAll.{load_public}
use Rattle.pipeline_balance.proofs.entering.load_in.Goals as goal

pub port_in-requires : goal.port_in-requires
port_in-requires c = fits_new c.args.builder.now (one_input (codes "agm_load")) c.clock-clock.ensures.built c.requires.fit

pub returns : goal.returns
returns c n =
    let old = c.args.builder.now in
    let now = c.port_in.new.self in
    let name = codes "agm_load" in
    let e = c.in_ok-bits.ensures in
    let bits = c.in_ok-bits.bits in
    let entered = entered_more None (name ∷ []) old old 0 [] (none_entered None (name ∷ []) old) now bits e.bits e.made e.extends e.adds e.cells e.network in
    let one : map (public_value {n = n}) bits ≡ public_value (get_or c.as_slice.result.now 0 0) ∷ [] =
    ap (map public_value) e.bits ∙ ap (λ xs. public_value (get_or xs 0 0) ∷ []) (sym (c.as_slice.ensures ∙ e.bits)) in
    subst (Enters n old now (one_input name ∷ []) (false ∷ []) (λ net bit. port_value net name bit)) one (public_enters n old now name None tt bits entered load_public (publics_told n bits))
