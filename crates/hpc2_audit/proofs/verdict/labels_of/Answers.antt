use Rattle.std.proofs.Common.{◌∙◌, ◌∷◌, ◌<◌, [], length, get_or, ap, sym, subst, arith, length-append}
use Rattle.agm_net.specs.Label.{HasLabel}
use Rattle.agm_net.specs.View.{plain_of}
use Rattle.agm_net.specs.declared.label.Label.TheVariants.{Clock}
use Rattle.hpc2_audit.proofs.Verdicts.{label_more}
use Rattle.hpc2_audit.proofs.verdict.labels_of.Goals as goal

pub given_label-requires-clause-labelled : goal.given_label-requires-clause-labelled
given_label-requires-clause-labelled c =
    let e = c.len-wire-end.ensures in
    let lt : c.loop-wire.wire < length c.args.net.now.wires = omega arith in
    (c.requires.keep c.loop-wire.wire lt).labelled

pub loop-wire-preserved : goal.loop-wire-preserved
loop-wire-preserved c =
    let net = plain_of c.args.net.now in
    let d = c.args.sheet.now.order in
    let n = c.loop-wire.wire in
    let inv = c.loop-wire.invariant in
    let old = c.loop-wire.labels in
    let l = c.given_label.result in
    let grown = c.in_ok-push.ensures.ok in
    let long = inv.as_many in
    record {
      as_many = ap (λ xs. length xs) grown ∙ omega (arith, length-append old (l ∷ []));
      told = λ w lt. subst (λ xs. HasLabel net d w (get_or xs w Clock)) (sym grown) (label_more net d n old l inv.as_many inv.told c.given_label.ensures w lt);
    }
