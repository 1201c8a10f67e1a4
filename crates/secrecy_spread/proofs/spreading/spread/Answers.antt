use Rattle.std.proofs.Common.{◌≡◌, ◌<◌, length, sym, ap, ◌∙◌, subst}
use Rattle.std.specs.List.{AllByRecursion}
use Rattle.agm_net.specs.View.{plain_of}
use Rattle.agm_net.specs.declared.port.Port.{Port}
use Rattle.agm_net.proofs.Wires.{ports_bits}
use Rattle.secrecy_spread.proofs.Agreed.{leak_from, none_from, secrets_from}
use Rattle.secrecy_spread.proofs.spreading.spread.Goals as goal

pub first_leak-requires-clause-within : goal.first_leak-requires-clause-within
first_leak-requires-clause-within c =
    let net = plain_of c.args.net.now in
    let long : length c.as_slice-2.result.now ≡ length c.args.net.now.wires = ap length c.as_slice-2.ensures ∙ c.in_ok-secret.ensures.one_each in
    subst (λ ps. AllByRecursion (λ (p : Port). AllByRecursion (λ w. w < length c.as_slice-2.result.now) p.bits) ps) (sym c.as_slice.ensures)
    (subst (λ n. AllByRecursion (λ (p : Port). AllByRecursion (λ w. w < n) p.bits) c.args.net.now.ports) (sym long) (ports_bits net c.args.net.now.well_formed))

pub returns-in-Some-clause-leak : goal.returns-in-Some-clause-leak
returns-in-Some-clause-leak c =
    leak_from (plain_of c.args.net.now) c.args.marks.now.kinds c.as_slice-kinds.result.now c.in_ok-secret.secret c.as_slice-2.result.now c.as_slice.result.now c.in-Some.port c.as_slice-kinds.ensures c.as_slice-2.ensures c.as_slice.ensures c.in_ok-secret.ensures c.in-Some.ensures

pub returns-clause-ok : goal.returns-clause-ok
returns-clause-ok c =
    secrets_from (plain_of c.args.net.now) c.args.graph.now c.args.marks.now.kinds c.as_slice-kinds.result.now c.in_ok-secret.secret c.as_slice-in-None.result.now c.in_ok-secrets_of-in-None.field-0 c.args.net.now.well_formed c.requires.no_loop c.requires.clock c.requires.marked c.requires.graph_of
    c.as_slice-kinds.ensures c.as_slice-in-None.ensures c.in_ok-secret.ensures c.in_ok-secrets_of-in-None.ensures

pub returns-clause-no_leak : goal.returns-clause-no_leak
returns-clause-no_leak c =
    none_from (plain_of c.args.net.now) c.args.marks.now.kinds c.as_slice-kinds.result.now c.in_ok-secret.secret c.as_slice-2.result.now c.as_slice.result.now c.as_slice-kinds.ensures c.as_slice-2.ensures c.as_slice.ensures c.in_ok-secret.ensures c.in-None.ensures
