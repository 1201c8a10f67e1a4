use Rattle.std.proofs.Common.{◌≡◌, ◌<◌, ◌++◌, [], ap, ap₂, sym, subst, ◌∙◌, cond, length, take, get_or, slice_get, Some}
use Rattle.std.proofs.lemmas.List.{append-nil}
use Rattle.std.proofs.lemmas.Option.{slice_get-get_or}
use Rattle.probe_cones.specs.Cone.{output_bits_in}
use Rattle.probe_cones.proofs.Outputs.{gives, output_more}
use Rattle.probe_cones.proofs.observation.output_bits_of.Goals as goal
use Rattle.probe_cones.proofs.observation.output_bits_of.Goals.{then-is_output_of+in_ok-extend, else-is_output_of}

pub loop-k-preserved : goal.loop-k-preserved
loop-k-preserved c =
    let ports = c.args.net.now.ports in
    let i = c.args.index in
    let k = c.loop-k.k in
    let p = c.port-item.result in
    let lt : k < length ports = subst (λ ps. k < length ps) c.as_slice-port-items.ensures c.loop-k-test.true in
    let is : p ≡ get_or ports k p = c.port-item.is ∙ ap (λ ps. get_or ps k p) c.as_slice-port-items.ensures in
    let at : slice_get ports k ≡ Some p = slice_get-get_or ports k p lt ∙ ap (λ q. Some q) (sym is) in
    let test : c.is_output_of.result ≡ gives i p = c.is_output_of.ensures p at in
    let more = output_more i ports k p lt is in
    let old = output_bits_in i (take k ports) in
    elim c.if-is_output_of.branch [
      | then-is_output_of+in_ok-extend w ↦ (
          w.bits-is ∙ (w.in_ok-extend.ensures.ok ∙ (ap₂ (λ xs ys. xs ++ ys) c.loop-k.invariant w.as_slice.ensures
          ∙ (ap (λ b. old ++ cond b p.bits []) (sym w.if-is_output_of.true ∙ test) ∙ sym more))))
      | else-is_output_of w ↦ (
          w.bits-is ∙ (c.loop-k.invariant ∙ (sym (append-nil old) ∙ (ap (λ b. old ++ cond b p.bits []) (sym w.if-is_output_of.false ∙ test) ∙ sym more))))
    ]
