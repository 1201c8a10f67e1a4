use Rattle.std.proofs.Common.{◌≡◌, ◌++◌, ℕ, length, sym, ap, subst, ◌∙◌}
use Rattle.agm_net.specs.View.{plain_of}
use Rattle.probe_cones.specs.Inputs.{random_width, roles}
use Rattle.twin_tape.specs.Allowed.{label_at}
use Rattle.twin_tape.specs.Tapes.{IsTape}
use Rattle.twin_tape.specs.Twinned.{IsTwinOf}
use Rattle.twin_tape.proofs.Running.{are_wide, is_tape}
use Rattle.twin_tape.proofs.WholeTwins.{lead_back, only_one, see_alike}
use Rattle.twin_tape.proofs.making.twin.Goals as goal

pub tape_of-requires : goal.tape_of-requires
tape_of-requires c = λ k e lt. (
    are_wide (random_width (plain_of c.args.net.now)) (length c.args.random.now.rows) c.in_ok-rows.rows c.in_ok-rows.ensures.0 k e lt ∙ sym c.requires.random_wide)

pub returns-clause-twin : goal.returns-clause-twin
returns-clause-twin c =
    subst (λ rows. IsTwinOf (plain_of c.args.net.now) c.args.order (label_at c.args.labels.now) c.args.probes.now (length c.args.random.now.rows) c.args.power_up.now c.args.first.now.rows c.args.second.now.rows c.args.random.now.rows rows)
    (sym c.tape_of.ensures.rows) c.in_ok-rows.ensures

pub returns-clause-alike : goal.returns-clause-alike
returns-clause-alike c = λ agree. (
    let net = plain_of c.args.net.now in
    let T = length c.args.random.now.rows in
    let random : IsTape (random_width net) T c.args.random.now.rows =
    subst (λ R. IsTape R T c.args.random.now.rows) c.requires.random_wide (is_tape c.args.random.now.width c.args.random.now.rows c.args.random.now.rectangular) in
    let first : IsTape (length (roles net)) T c.args.first.now.rows =
    subst (λ n. IsTape (length (roles net)) n c.args.first.now.rows) c.requires.first_long
    (subst (λ R. IsTape R (length c.args.first.now.rows) c.args.first.now.rows) c.requires.first_wide (is_tape c.args.first.now.width c.args.first.now.rows c.args.first.now.rectangular)) in
    let made = returns-clause-twin c in
    see_alike net c.args.order c.args.net.now.well_formed c.requires.network (label_at c.args.labels.now) c.requires.labels T c.args.probes.now.probes c.args.probes.now.indices c.requires.probes
    c.args.power_up.now c.args.first.now.rows c.args.second.now.rows first agree c.args.random.now.rows c.tape_of.result.rows random made.0 made.1)

pub returns-clause-back : goal.returns-clause-back
returns-clause-back c = λ agree back is. (
    let net = plain_of c.args.net.now in
    let T = length c.args.random.now.rows in
    let random : IsTape (random_width net) T c.args.random.now.rows =
    subst (λ R. IsTape R T c.args.random.now.rows) c.requires.random_wide (is_tape c.args.random.now.width c.args.random.now.rows c.args.random.now.rectangular) in
    let first : IsTape (length (roles net)) T c.args.first.now.rows =
    subst (λ n. IsTape (length (roles net)) n c.args.first.now.rows) c.requires.first_long
    (subst (λ R. IsTape R (length c.args.first.now.rows) c.args.first.now.rows) c.requires.first_wide (is_tape c.args.first.now.width c.args.first.now.rows c.args.first.now.rectangular)) in
    let made = returns-clause-twin c in
    let leads = lead_back net c.args.order c.args.net.now.well_formed c.requires.network (label_at c.args.labels.now) c.requires.labels T c.args.probes.now.probes c.args.probes.now.indices c.requires.probes
    c.args.power_up.now c.args.first.now.rows c.args.second.now.rows first agree c.args.random.now.rows c.tape_of.result.rows made.1 in
    only_one net c.args.order c.args.net.now.well_formed c.requires.network (label_at c.args.labels.now) c.requires.labels T c.args.probes.now.probes c.args.probes.now.indices c.requires.probes
    c.args.power_up.now c.args.second.now.rows c.args.first.now.rows c.tape_of.result.rows back c.args.random.now.rows made.0 is.0 random is.1 leads)
