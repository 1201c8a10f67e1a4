use Rattle.std.proofs.Common.{◌≡◌, ◌≤◌, ◌<◌, ◌+◌, cond, Some, drop, get_or, slice_get, length, length-append, ap, ap₂, sym, subst, ◌∙◌, arith}
use Rattle.std.proofs.lemmas.Option.{get_or_from_slice_get, slice_get-get_or}
use Rattle.twin_tape.specs.Differences.{columns_from, first_difference, port_columns}
use Rattle.twin_tape.proofs.Agreeing.{columns_step, drop_on, port_step}
use Rattle.twin_tape.proofs.agreement.first_port.Goals as goal

pub port_differs-requires-clause-room : goal.port_differs-requires-clause-room
port_differs-requires-clause-room c = λ q found. (
    let clock = c.args.net.now.clock in
    let ports = c.args.net.now.ports in
    let k = c.loop-number.number in
    let from = c.loop-number.from in
    let p = c.port-item.result in
    let lt : k < length ports = subst (λ ps. k < length ps) c.as_slice-port-items.ensures c.loop-number-test.true in
    let is : p ≡ get_or ports k p = c.port-item.is ∙ ap (λ ps. get_or ps k p) c.as_slice-port-items.ensures in
    let same : p ≡ q = is ∙ get_or_from_slice_get ports k q p found in
    let rest = columns_from clock (k + 1) (drop (k + 1) ports) in
    let long : length (columns_from clock k (drop k ports)) ≡ length (port_columns clock k p) + length rest =
    ap length (columns_step clock ports k p lt is) ∙ length-append (port_columns clock k p) rest in
    let all = c.loop-number.invariant.counted in
    subst (λ r. from + length (port_columns clock k r) ≤ length c.args.first.now) same (omega (arith, long, all)))

pub returns-then-port_differs : goal.returns-then-port_differs
returns-then-port_differs c =
    let clock = c.args.net.now.clock in
    let ports = c.args.net.now.ports in
    let indices = c.args.indices.now in
    let k = c.loop-number.number in
    let from = c.loop-number.from in
    let p = c.port-item.result in
    let a = drop from c.args.first.now in
    let b = drop from c.args.second.now in
    let lt : k < length ports = subst (λ ps. k < length ps) c.as_slice-port-items.ensures c.loop-number-test.true in
    let is : p ≡ get_or ports k p = c.port-item.is ∙ ap (λ ps. get_or ps k p) c.as_slice-port-items.ensures in
    let at : slice_get ports k ≡ Some p = slice_get-get_or ports k p lt ∙ ap (λ q. Some q) (sym is) in
    let rest = columns_from clock (k + 1) (drop (k + 1) ports) in
    let wide = length (port_columns clock k p) in
    let later = first_difference indices rest (drop wide a) (drop wide b) in
    ap (λ d. cond d (Some k) later) (c.if-port_differs.ensures p at)
    ∙ (sym (port_step indices clock k p rest a b) ∙ (sym (ap (λ cs. first_difference indices cs a b) (columns_step clock ports k p lt is)) ∙ c.loop-number.invariant.same))

pub loop-number-preserved : goal.loop-number-preserved
loop-number-preserved c =
    let clock = c.args.net.now.clock in
    let ports = c.args.net.now.ports in
    let indices = c.args.indices.now in
    let k = c.loop-number.number in
    let from = c.loop-number.from in
    let p = c.port-item.result in
    let a = drop from c.args.first.now in
    let b = drop from c.args.second.now in
    let lt : k < length ports = subst (λ ps. k < length ps) c.as_slice-port-items.ensures c.loop-number-test.true in
    let is : p ≡ get_or ports k p = c.port-item.is ∙ ap (λ ps. get_or ps k p) c.as_slice-port-items.ensures in
    let at : slice_get ports k ≡ Some p = slice_get-get_or ports k p lt ∙ ap (λ q. Some q) (sym is) in
    let rest = columns_from clock (k + 1) (drop (k + 1) ports) in
    let wide = length (port_columns clock k p) in
    let later = first_difference indices rest (drop wide a) (drop wide b) in
    let long : length (columns_from clock k (drop k ports)) ≡ wide + length rest = ap length (columns_step clock ports k p lt is) ∙ length-append (port_columns clock k p) rest in
    let all = c.loop-number.invariant.counted in
    let e1 = c.min-from.ensures in
    let e2 = c.saturating_add.ensures in
    let e3 = c.len.ensures in
    let e4 = c.len.type_inv in
    let e5 = c.width_of-width.ensures in
    let next : c.min-from.result ≡ from + wide = omega (arith, long, all, e1, e2, e3, e4, e5) in
    record {
      counted = omega (arith, next, long, all);
      same =
          ap₂ (first_difference indices rest) (ap (λ n. drop n c.args.first.now) next ∙ sym (drop_on c.args.first.now from wide)) (ap (λ n. drop n c.args.second.now) next ∙ sym (drop_on c.args.second.now from wide))
          ∙ (ap (λ d. cond d (Some k) later) (c.if-port_differs.ensures p at)
          ∙ (sym (port_step indices clock k p rest a b) ∙ (sym (ap (λ cs. first_difference indices cs a b) (columns_step clock ports k p lt is)) ∙ c.loop-number.invariant.same)));
    }
