use Rattle.std.proofs.Common.{◌<◌, map, length, get_or, sym, subst, IsTrue, arith}
use Rattle.std.proofs.lemmas.Option.{slice_get-get_or}
use Rattle.agm_net.specs.Formula.{reads_below}
use Rattle.agm_net.specs.Plain.{Line, line_of}
use Rattle.agm_net.specs.View.{plain_of}
use Rattle.agm_net.proofs.Lists.{all_of_one, get_image}
use Rattle.agm_net.proofs.Wires.{lines_fit}
use Rattle.probe_cones.specs.Origins.{HasMarkedEquations}
use Rattle.probe_cones.proofs.OriginsTold.{origins_are}
use Rattle.probe_cones.proofs.origins.mark.Goals as goal

pub mark_equations-requires : goal.mark_equations-requires
mark_equations-requires c = λ k d lt. (
    let net = plain_of c.args.net.now in
    let eqs = c.args.net.now.equations in
    let is = c.as_slice.ensures in
    let lt' : k < length eqs = subst (λ es. k < length es) is lt in
    let fits = (all_of_one (λ (l : Line). (l.0 < length net.wires) × IsTrue (reads_below (length net.wires) l.1)) net.lines k (line_of (get_or eqs k d)) (lines_fit net c.args.net.now.well_formed) (get_image line_of eqs k (get_or eqs k d) (slice_get-get_or eqs k d lt'))).0 in
    let long = c.mark_clock_of.ensures.as_many in
    let as_many = c.requires.as_many in
    subst (λ es. (get_or es k d).wire < length c.mark_clock_of.new.origins) (sym is) (omega arith))

pub returns : goal.returns
returns c =
    let net = plain_of c.args.net.now in
    origins_are net c.args.net.now.well_formed c.args.origins.now c.mark_clock_of.new.origins c.mark_equations.new.origins c.requires.as_many c.requires.sources c.mark_clock_of.ensures
    (subst (λ es. HasMarkedEquations (map line_of es) c.mark_clock_of.new.origins c.mark_equations.new.origins) c.as_slice.ensures c.mark_equations.ensures)
