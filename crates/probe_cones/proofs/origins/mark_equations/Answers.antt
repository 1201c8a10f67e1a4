use Rattle.std.proofs.Common.{◌≡◌, ◌<◌, map, slice_get, Some, get_or, length, arith, ◌∙◌, ap, sym, subst}
use Rattle.std.proofs.lemmas.Option.{slice_get-get_or}
use Rattle.agm_net.specs.Formula.{formula_of}
use Rattle.agm_net.specs.Plain.{line_of}
use Rattle.agm_net.proofs.Lists.{get_image}
use Rattle.probe_cones.proofs.OriginsTold.{AreMarked, marked_more, line_within}
use Rattle.probe_cones.proofs.origins.mark_equations.Goals as goal

pub loop-i-preserved : goal.loop-i-preserved
loop-i-preserved c =
    let eqs = c.args.equations.now in
    let i = c.loop-i.i in
    let inv = c.loop-i.invariant in
    let e = c.index-equations-i.result in
    let lt = c.loop-i-test.true in
    let small = c.requires i e lt in
    let long = inv.as_many in
    let fits : (get_or eqs i e).wire < length c.loop-i.origins = omega arith in
    let fits' : e.wire < length c.loop-i.origins = subst (λ x. x.wire < length c.loop-i.origins) (sym c.index-equations-i.is) fits in
    let at : slice_get (map line_of eqs) i ≡ Some (e.wire, formula_of e.expr) = get_image line_of eqs i e (slice_get-get_or eqs i e lt ∙ ap (λ x. Some x) (sym c.index-equations-i.is)) in
    let was : AreMarked (map line_of eqs) i c.args.origins.now c.loop-i.origins = record { as_many = inv.as_many; marked = inv.marked; others = inv.others } in
    let more = marked_more (map line_of eqs) c.args.origins.now c.loop-i.origins i e.wire (formula_of e.expr) fits' at was in
    record { as_many = more.as_many; marked = more.marked; others = more.others }

pub returns : goal.returns
returns c =
    let eqs = c.args.equations.now in
    let inv = c.loop-i.invariant in
    let end = c.loop-i-test.false in
    record {
      as_many = inv.as_many;
      marked = λ k w f at. inv.marked k w f (let lt = line_within eqs k w f at in omega arith) at;
      others = λ w never. inv.others w (λ k f less at. never k f at);
    }
