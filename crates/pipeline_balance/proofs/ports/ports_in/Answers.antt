use Rattle.std.proofs.Common.{◌≡◌, ◌+◌, List, ℕ, Option, [], ◌∷◌, ◌++◌, length, get_or, sym, ap, subst, ◌∙◌}
use Rattle.std.specs.List.{range_with_len}
use Rattle.std.proofs.lemmas.Option.{slice_get-get_or, get_or_from_slice_get}
use Rattle.agm_net.specs.Plain.{bit_names}
use Rattle.agm_net.specs.declared.port.Range.{Range}
use Rattle.share_wiring.specs.Built.{IsNewPort}
use Rattle.share_wiring.specs.Networks.{FitsOrder}
use Rattle.share_wiring.specs.Own.{input_wires}
use Rattle.share_wiring.specs.Wiring.{Wiring}
use Rattle.pipeline_balance.specs.Ports.{AreEntered, input_port, row_of}
use Rattle.pipeline_balance.proofs.Porting.{entered_new, entered_more}
use Rattle.pipeline_balance.proofs.ports.ports_in.Goals as goal

-- a net with an input port more
abbrev with_port : Wiring → Option Range → (bits name : List ℕ) → Wiring
with_port net range bits name = record net { ports = net.ports ++ input_port range name bits ∷ []; wires = net.wires ++ input_wires (bit_names name range) }

pub port_in-requires : goal.port_in-requires
port_in-requires c =
    let ns = c.args.names.now in
    let k = c.loop-k.k in
    let d = c.index-names-k.result in
    let name : c.as_slice.result.now ≡ row_of ns k = c.as_slice.ensures ∙ (c.index-names-k.is ∙ sym (get_or_from_slice_get ns k (get_or ns k d) [] (slice_get-get_or ns k d c.loop-k-test.true))) in
    subst (λ n. IsNewPort c.loop-k.builder n c.args.range) (sym name)
    (entered_new c.args.range ns c.args.builder.now c.loop-k.builder k c.loop-k.rows c.loop-k.invariant c.clock-clock.ensures.built c.requires.fit c.loop-k-test.true)

pub loop-k-preserved : goal.loop-k-preserved
loop-k-preserved c =
    let ns = c.args.names.now in
    let k = c.loop-k.k in
    let d = c.index-names-k.result in
    let name : c.as_slice.result.now ≡ row_of ns k = c.as_slice.ensures ∙ (c.index-names-k.is ∙ sym (get_or_from_slice_get ns k (get_or ns k d) [] (slice_get-get_or ns k d c.loop-k-test.true))) in
    let e = c.in_ok-bits.ensures in
    let bits = c.in_ok-bits.bits in
    let now = c.loop-k.builder in
    let more =
    entered_more c.args.range ns c.args.builder.now now k c.loop-k.rows c.loop-k.invariant c.port_in.new.self bits
    (e.bits ∙ ap (λ n. range_with_len (length now.wires) (length (bit_names n c.args.range))) name)
    (e.made ∙ ap (λ n. with_port now c.args.range bits n) name)
    e.extends e.adds e.cells (λ d fits. e.network d (subst (FitsOrder d) (sym name) fits)) in
    subst (AreEntered c.args.range ns c.args.builder.now c.port_in.new.self (k + 1)) (sym c.in_ok-push.ensures.ok) more
