use Rattle.std.proofs.Common.{◌≡◌, ◌-◌, filter, length, sym, ap, ◌∙◌, arith}
use Rattle.agm_net.specs.View.{plain_of}
use Rattle.probe_cones.specs.Inputs.{random_width, roles}
use Rattle.probe_cones.proofs.Counted.{all_are, random_are}
use Rattle.probe_cones.proofs.widths.widths_of.Goals as goal

pub returns-clause-random : goal.returns-clause-random
returns-clause-random c =
    c.count_set-random.ensures ∙ (ap (λ fs. length (filter (λ f. f) fs)) (c.as_slice.ensures ∙ c.in_ok-flags.ensures) ∙ random_are (plain_of c.args.net.now))

pub returns-clause-others : goal.returns-clause-others
returns-clause-others c =
    let net = plain_of c.args.net.now in
    let random : c.count_set-random.result ≡ random_width net = returns-clause-random c in
    let all = ap (λ fs. length fs) c.in_ok-flags.ensures ∙ all_are net in
    let long = c.len.ensures in
    let less = c.saturating_sub-others.ensures in
    omega (arith, random, all, long, less)
