use Rattle.std.proofs.Common.{◌≡◌, ◌<◌, not, length, get_or, sym, ap, subst, ◌∙◌}
use Rattle.agm_net.specs.Plain.{is_input}
use Rattle.agm_net.specs.View.{plain_of}
use Rattle.side_by_side.specs.Pairs.{watched_of}
use Rattle.side_by_side.proofs.More.{watched_more, watched_same}
use Rattle.side_by_side.proofs.watched.watched_of.Goals as goal
use Rattle.side_by_side.proofs.watched.watched_of.Goals.{then-is_output+in_ok-watch+in_ok-push, else-is_output}

pub loop-number-preserved : goal.loop-number-preserved
loop-number-preserved c =
    let ports = c.args.net.now.ports in
    let k = c.loop-number.number in
    let p = c.port-item.result in
    let f = watched_of c.args.masked.now.report (plain_of c.args.masked.now.net) in
    let lt : k < length ports = subst (λ ps. k < length ps) c.as_slice-port-items.ensures c.loop-number-test.true in
    let is : p ≡ get_or ports k p = c.port-item.is ∙ ap (λ ps. get_or ps k p) c.as_slice-port-items.ensures in
    let test : c.is_output.result ≡ not (is_input p) = c.is_output.ensures in
    elim c.if-is_output.branch [
      | then-is_output+in_ok-watch+in_ok-push w ↦ (
          w.all-is
          ∙ watched_more f ports k p c.loop-number.all w.push.new.self w.in_ok-watch.field-0 lt is (sym w.if-is_output.true ∙ test) c.loop-number.invariant w.in_ok-watch.ensures w.in_ok-push.ensures.ok)
      | else-is_output w ↦ (w.all-is ∙ watched_same f ports k p c.loop-number.all lt is (sym w.if-is_output.false ∙ test) c.loop-number.invariant)
    ]
