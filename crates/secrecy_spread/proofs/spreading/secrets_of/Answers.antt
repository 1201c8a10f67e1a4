use Rattle.std.proofs.Common.{◌≡◌, ◌<◌, Bool, List, length, map, get_or, sym, ap, ◌∙◌, subst, All, arith, slice_get}
use Rattle.std.specs.List.{AllByRecursion, zip}
use Rattle.std.proofs.lemmas.Option.{slice_get-get_or}
use Rattle.std.proofs.lemmas.List.{length-map}
use Rattle.agm_net.specs.Plain.{stored_of, input_bits}
use Rattle.agm_net.specs.View.{plain_of}
use Rattle.agm_net.specs.declared.expr.Register.{Register}
use Rattle.agm_net.specs.declared.port.Port.{Port}
use Rattle.agm_net.specs.declared.mark.Mark.{Mark}
use Rattle.agm_net.proofs.Wires.{ports_bits, registers_fit}
use Rattle.agm_net.proofs.Lists.{all_of_one, get_image}
use Rattle.logic_graph.specs.Settled.{bit_of}
use Rattle.logic_graph.specs.declared.nodes.Node.{Node}
use Rattle.secrecy_spread.specs.NodeSecrets.{AreNodeSecrets}
use Rattle.secrecy_spread.specs.Wires.{is_shared, flags_of}
use Rattle.secrecy_spread.proofs.Agreed.{outputs_found, sourced}
use Rattle.secrecy_spread.proofs.spreading.secrets_of.Goals as goal

pub output_flags-requires : goal.output_flags-requires
output_flags-requires c =
    let net = plain_of c.args.net.now in
    let all : All (λ (r : Register). r.q < length c.args.secret.now) c.args.net.now.registers = λ k d lt. (
    let at = get_image stored_of c.args.net.now.registers k (get_or c.args.net.now.registers k d) (slice_get-get_or c.args.net.now.registers k d lt) in
    let fit = all_of_one _ net.registers k (stored_of (get_or c.args.net.now.registers k d)) (registers_fit net c.args.net.now.well_formed) at in
    let q = fit.0 in let long = c.requires.long in omega arith) in
    subst (All (λ (r : Register). r.q < length c.args.secret.now)) (sym c.as_slice-2.ensures) all

pub node_secrets-requires-clause-sources : goal.node_secrets-requires-clause-sources
node_secrets-requires-clause-sources c =
    let net = plain_of c.args.net.now in
    let ins_are : c.as_slice-4.result.now ≡ flags_of c.args.secret.now (input_bits net) = c.as_slice-4.ensures ∙ (c.in_ok-inputs.ensures ∙ ap (flags_of c.args.secret.now) (c.as_slice.ensures ∙ c.in_ok-wires.ensures)) in
    let ins : length c.as_slice-4.result.now ≡ length (input_bits net) = ap length ins_are ∙ length-map (input_bits net) (λ w. bit_of c.args.secret.now w) in
    let regs_are = c.as_slice-5.ensures ∙ (c.in_ok-registers.ensures ∙ ap (map (λ (r : Register). bit_of c.args.secret.now r.q)) c.as_slice-2.ensures) in
    let regs : length c.as_slice-5.result.now ≡ length net.registers = ap length regs_are ∙ (length-map c.args.net.now.registers (λ (r : Register). bit_of c.args.secret.now r.q) ∙ sym (length-map c.args.net.now.registers stored_of)) in
    λ k n at. sourced net c.args.graph.now c.requires.graph_of (length c.as_slice-4.result.now) (length c.as_slice-5.result.now) ins regs k n (sym (ap (λ ns. slice_get ns k) c.as_slice-3.ensures) ∙ at)

pub shared_ports-requires-clause-within : goal.shared_ports-requires-clause-within
shared_ports-requires-clause-within c =
    let net = plain_of c.args.net.now in
    subst (λ ps. AllByRecursion (λ (p : Port). AllByRecursion (λ w. w < length c.args.secret.now) p.bits) ps) (sym c.as_slice-6.ensures)
    (subst (λ n. AllByRecursion (λ (p : Port). AllByRecursion (λ w. w < n) p.bits) c.args.net.now.ports) (sym c.requires.long) (ports_bits net c.args.net.now.well_formed))

three : (nodes as_nodes : List Node) (inputs as_inputs registers as_registers flags : List Bool) → as_nodes ≡ nodes → as_inputs ≡ inputs → as_registers ≡ registers → AreNodeSecrets as_nodes as_inputs as_registers flags → AreNodeSecrets nodes inputs registers flags
three nodes as_nodes inputs as_inputs registers as_registers flags n i r h =
    subst (λ xs. AreNodeSecrets xs inputs registers flags) n (subst (λ xs. AreNodeSecrets as_nodes xs registers flags) i (subst (λ xs. AreNodeSecrets as_nodes as_inputs xs flags) r h))

pub returns : goal.returns
returns c = record {
  inputs = c.in_ok-inputs.ensures ∙ ap (flags_of c.args.secret.now) (c.as_slice.ensures ∙ c.in_ok-wires.ensures);
  registers = c.in_ok-registers.ensures ∙ (ap (map (λ (r : Register). bit_of c.args.secret.now r.q)) c.as_slice-2.ensures ∙ outputs_found c.args.secret.now c.args.net.now.registers);
  fits = three c.args.graph.now.nodes c.as_slice-3.result.now c.in_ok-inputs.inputs c.as_slice-4.result.now c.in_ok-registers.registers c.as_slice-5.result.now c.in_ok-nodes.nodes c.as_slice-3.ensures c.as_slice-4.ensures c.as_slice-5.ensures c.in_ok-nodes.ensures;
  ports = c.in_ok-ports.ensures ∙ ap (λ ps. map (λ (e : Port × Mark). is_shared c.args.secret.now e.0 e.1) (zip ps c.args.marks.now)) c.as_slice-6.ensures;
}
