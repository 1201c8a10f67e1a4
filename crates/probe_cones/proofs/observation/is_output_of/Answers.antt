use Rattle.std.proofs.Common.{◌≡◌, ◌&&◌, not, false, ap, ap₂, sym, ◌∙◌, get_or}
use Rattle.std.proofs.lemmas.Option.{get_or_from_slice_get}
use Rattle.agm_net.specs.Plain.{is_input}
use Rattle.probe_cones.proofs.ShareNames.{not_clock, not_random, role_none, role_share}
use Rattle.probe_cones.proofs.observation.is_output_of.Goals as goal

pub returns-in-Share : goal.returns-in-Share
returns-in-Share c = λ p at. (
    let r = c.index-as_slice-port.result in
    let k = c.args.port in
    let same : r ≡ p = c.index-as_slice-port.is ∙ (ap (λ ps. get_or ps k r) c.as_slice.ensures ∙ get_or_from_slice_get c.args.net.now.ports k p r at) in
    let input : is_input p ≡ false = ap is_input (sym same) ∙ sym c.if-is_input.ensures in
    sym (ap₂ (λ a b. not a && b) input (role_share p.name c.in-Share.share c.args.index (c.in-Share.ensures p at))))

pub returns-in-Clock : goal.returns-in-Clock
returns-in-Clock c = λ p at. (
    let r = c.index-as_slice-port.result in
    let k = c.args.port in
    let same : r ≡ p = c.index-as_slice-port.is ∙ (ap (λ ps. get_or ps k r) c.as_slice.ensures ∙ get_or_from_slice_get c.args.net.now.ports k p r at) in
    let input : is_input p ≡ false = ap is_input (sym same) ∙ sym c.if-is_input.ensures in
    sym (ap₂ (λ a b. not a && b) input (not_clock p.name c.args.index (c.in-Clock.ensures p at))))

pub returns-in-Public : goal.returns-in-Public
returns-in-Public c = λ p at. (
    let r = c.index-as_slice-port.result in
    let k = c.args.port in
    let same : r ≡ p = c.index-as_slice-port.is ∙ (ap (λ ps. get_or ps k r) c.as_slice.ensures ∙ get_or_from_slice_get c.args.net.now.ports k p r at) in
    let input : is_input p ≡ false = ap is_input (sym same) ∙ sym c.if-is_input.ensures in
    let role = c.in-Public.ensures p at in
    sym (ap₂ (λ a b. not a && b) input (role_none p.name c.args.index role.0)))

pub returns-in-Random : goal.returns-in-Random
returns-in-Random c = λ p at. (
    let r = c.index-as_slice-port.result in
    let k = c.args.port in
    let same : r ≡ p = c.index-as_slice-port.is ∙ (ap (λ ps. get_or ps k r) c.as_slice.ensures ∙ get_or_from_slice_get c.args.net.now.ports k p r at) in
    let input : is_input p ≡ false = ap is_input (sym same) ∙ sym c.if-is_input.ensures in
    sym (ap₂ (λ a b. not a && b) input (not_random p.name c.args.index (c.in-Random.ensures p at))))
