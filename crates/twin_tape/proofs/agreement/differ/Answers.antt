use Rattle.std.proofs.Common.{◌≡◌, ◌-◌, ◌+◌, ◌||◌, true, false, drop, get_or, ap, ap₂, sym, ◌∙◌}
use Rattle.std.proofs.lemmas.Option.{get_or_from_slice_get}
use Rattle.agm_net.specs.Formula.{xor}
use Rattle.twin_tape.specs.Differences.{differ_in}
use Rattle.twin_tape.proofs.Agreeing.{differ_step, unlike}
use Rattle.twin_tape.proofs.agreement.differ.Goals as goal

pub returns-then-get : goal.returns-then-get
returns-then-get c =
    let a = c.args.first.now in
    let b = c.args.second.now in
    let k = c.loop-k.k in
    let x = c.get.result in
    let y = c.get-in-loop-k.result in
    let here : xor (get_or a k false) (get_or b k false) ≡ true =
    ap₂ xor (get_or_from_slice_get a k x false c.get.ensures) (get_or_from_slice_get b k y false c.get-in-loop-k.ensures) ∙ (sym (unlike x y) ∙ c.if-get.true) in
    let rest = differ_in (c.args.to - (k + 1)) (drop (k + 1) a) (drop (k + 1) b) in
    sym (sym c.loop-k.invariant ∙ (differ_step a b k c.args.to c.loop-k-test.true ∙ ap (λ v. v || rest) here))

pub loop-k-preserved : goal.loop-k-preserved
loop-k-preserved c =
    let a = c.args.first.now in
    let b = c.args.second.now in
    let k = c.loop-k.k in
    let x = c.get.result in
    let y = c.get-in-loop-k.result in
    let here : xor (get_or a k false) (get_or b k false) ≡ false =
    ap₂ xor (get_or_from_slice_get a k x false c.get.ensures) (get_or_from_slice_get b k y false c.get-in-loop-k.ensures) ∙ (sym (unlike x y) ∙ c.if-get.false) in
    let rest = differ_in (c.args.to - (k + 1)) (drop (k + 1) a) (drop (k + 1) b) in
    sym (ap (λ v. v || rest) here) ∙ (sym (differ_step a b k c.args.to c.loop-k-test.true) ∙ c.loop-k.invariant)
