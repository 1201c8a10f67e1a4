use Rattle.std.proofs.Common.{◌≡◌, ℕ, ◌<◌, length, map, sym, subst, ◌∙◌}
use Rattle.std.proofs.lemmas.List.{length-map}
use Rattle.agm_net.proofs.Repeats.{test-from_new, added-port, new-port}
use Rattle.agm_net.specs.declared.port.Port.{Port}
use Rattle.annotations.proofs.judge.names_of.Goals as goal

pub loop-port-preserved : goal.loop-port-preserved
loop-port-preserved c =
    let ports = c.args.ports.now in let i = c.loop-port.port-index in let p = c.port-item.result in
    let within = c.loop-port-test.true in
    let names = map (λ (q : Port). q.name) ports in
    let long : length names ≡ length ports = length-map ports (λ (q : Port). q.name) in
    let in_names : i < length names = subst (λ (n : ℕ). i < n) (sym long) within in
    let new = test-from_new names i in_names (λ v before. c.requires v i before in_names) in
    let told = new-port ports i p within c.port-item.is c.as_slice.result.now c.as_slice.ensures c.loop-port.names c.loop-port.invariant c.in_ok-add.field-0.is_new c.in_ok-add.ensures.fresh in
    added-port ports i p within c.port-item.is c.as_slice.result.now c.as_slice.ensures c.loop-port.names c.loop-port.invariant c.in_ok-add.field-0.is_new c.add.new.self (sym told ∙ new) c.in_ok-add.ensures.added
