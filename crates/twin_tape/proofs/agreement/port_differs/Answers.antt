use Rattle.std.proofs.Common.{◌≡◌, ◌-◌, ◌&&◌, [], cond, true, false, drop, get_or, length, ap, ap₂, sym, ◌∙◌, arith}
use Rattle.std.proofs.lemmas.Option.{get_or_from_slice_get}
use Rattle.agm_net.specs.declared.port.Port.{Port}
use Rattle.probe_cones.specs.Inputs.{bit_role}
use Rattle.twin_tape.specs.Differences.{Column, differ_in, lacks_columns, port_columns}
use Rattle.twin_tape.specs.Security.{sees}
use Rattle.twin_tape.proofs.Agreeing.{of_port, of_port_long}
use Rattle.twin_tape.proofs.agreement.port_differs.Goals as goal

pub returns : goal.returns
returns c = λ p at. (
    let clock = c.args.net.now.clock in
    let n = c.args.number in
    let indices = c.args.indices.now in
    let from = c.args.from in
    let a = drop from c.args.first.now in
    let b = drop from c.args.second.now in
    let r = c.index-as_slice-number.result in
    let same : r ≡ p = c.index-as_slice-number.is ∙ (ap (λ ps. get_or ps n r) c.as_slice.ensures ∙ get_or_from_slice_get c.args.net.now.ports n p r at) in
    let no : lacks_columns clock n p ≡ false = ap (lacks_columns clock n) (sym same) ∙ sym c.if-lacks_columns.ensures in
    let seen : sees indices (bit_role p.name 0) ≡ true = sym (c.if-not-is_seen.ensures p at) in
    let wide : length (port_columns clock n p) ≡ length p.bits = ap (λ l. length {A = Column} (cond l [] (of_port n p))) no ∙ of_port_long n p in
    let room = c.requires.room p at in
    let bits : length r.bits ≡ length p.bits = ap (λ (q : Port). length q.bits) same in
    let e1 = c.min-to.ensures in
    let e2 = c.saturating_add.ensures in
    let e3 = c.len.ensures in
    let e4 = c.len.type_inv in
    let e5 = c.len-2.ensures in
    let long : c.min-to.result - from ≡ length p.bits = omega (arith, wide, room, bits, e1, e2, e3, e4, e5) in
    c.differ.ensures ∙ (ap (λ m. differ_in m a b) long ∙ sym (ap₂ (λ l v. cond l false (v && differ_in (length p.bits) a b)) no seen)))
