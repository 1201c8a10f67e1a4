use Rattle.std.proofs.Common.{◌≡◌, ◌<◌, ◌≤◌, ◌+◌, ◌-◌, ◌*◌, refl, sym, subst, arith}
use Rattle.agm_net.specs.Network.{recipe}
use Rattle.agm_net.specs.declared.label.PartKind.TheVariants.{S, C}
use Rattle.share_wiring.specs.Networks.{IsBy, IsPartWire}
use Rattle.share_wiring.specs.declared.gate.Source.TheVariants.{Equation}
use Rattle.hpc2_gadget.specs.Order.{place_of}
use Rattle.hpc2_gadget.specs.Sound.{At}
use Rattle.hpc2_gadget.proofs.Numbers.{one_index}
use Rattle.hpc2_gadget.proofs.Placing.{added_at, added_sound, sum_index}
use Rattle.hpc2_gadget.proofs.Terms.{even_recipe, last_recipe, sum_between, sum_last, place_below}
use Rattle.hpc2_gadget.proofs.parts.second_sum.Goals as goal

pub returns-in_ok-next-clause-shared : goal.returns-in_ok-next-clause-shared
returns-in_ok-next-clause-shared c = c.in_ok-next.ensures.shared refl

pub returns-in_ok-last-clause-rules : goal.returns-in_ok-last-clause-rules
returns-in_ok-last-clause-rules c sound by =
    let n = c.args.place.shares in
    let g = c.args.place.gadget in
    let d = n - 1 in
    let i = c.args.i in
    let j = c.args.j in
    let p = place_of i j in
    let size = c.args.place.size.0 in
    let some : 1 ≤ n = omega (arith, size) in
    let small = c.args.place.few in
    let lt = c.requires.index.0 in
    let lt' = c.requires.index.1 in
    let hi : i ≤ d = omega (arith, lt) in
    let hj : j ≤ d = omega (arith, lt') in
    let is = c.place_of-before.ensures in
    let test = c.if-before-place.true in
    let last : p + 1 ≡ d = omega (arith, is, test, size) in
    let end : 2 * p + 2 ≡ 2 * d = omega (arith, last) in
    let index = one_index n i c.args.place.size.1 lt in
    let part = c.in_ok-last.ensures.part in
    let source = Equation c.args.sum in
    let made = subst (λ r. IsBy d c.args.builder.now.wires r source) (sym (last_recipe d g i j hi hj c.requires.index.2 last)) by in
    let new = c.gate.new.builder in
    let at = added_at n g C i 0 source _ _ _ some small index part in (
      added_sound n g C i 0 source _ _ _ some small index part c.args.place.clock c.in_ok-last.ensures.grown.extends (λ no. absurd (cc)) made sound,
      subst (λ q. IsPartWire d new.wires q c.in_ok-last.last) (sym (sum_last d g i (2 * p + 2) (omega arith) end)) at,
    )

pub returns-in_ok-next-clause-rules : goal.returns-in_ok-next-clause-rules
returns-in_ok-next-clause-rules c sound by =
    let n = c.args.place.shares in
    let g = c.args.place.gadget in
    let d = n - 1 in
    let i = c.args.i in
    let j = c.args.j in
    let p = place_of i j in
    let size = c.args.place.size.0 in
    let few = c.args.place.size.1 in
    let some : 1 ≤ n = omega (arith, size) in
    let small = c.args.place.few in
    let lt = c.requires.index.0 in
    let lt' = c.requires.index.1 in
    let hi : i ≤ d = omega (arith, lt) in
    let hj : j ≤ d = omega (arith, lt') in
    let is = c.place_of-before.ensures in
    let test = c.if-before-place.false in
    let below = place_below d i j hi hj c.requires.index.2 in
    let more : 2 * p + 2 < 2 * d = omega (arith, is, test, size, below) in
    let at_is : 2 * c.place_of-before.result + 2 ≡ 2 * p + 2 = omega (arith, is) in
    let index = sum_index n i (2 * c.place_of-before.result + 2) few lt (omega arith) (omega (arith, at_is, more)) in
    let part = c.in_ok-next.ensures.part in
    let source = Equation c.args.sum in
    let made = subst (λ m. IsBy d c.args.builder.now.wires (recipe d g S i m) source) (sym at_is)
    (subst (λ r. IsBy d c.args.builder.now.wires r source) (sym (even_recipe d g i j hi hj c.requires.index.2)) by) in
    let new = c.gate-else-before-place.new.builder in
    let at : At n g new S i (2 * p + 2) c.in_ok-next.next = subst (λ m. At n g new S i m c.in_ok-next.next) at_is (added_at n g S i (2 * c.place_of-before.result + 2) source _ _ _ some small index part) in (
      added_sound n g S i (2 * c.place_of-before.result + 2) source _ _ _ some small index part c.args.place.clock c.in_ok-next.ensures.grown.extends (λ no. absurd (cc)) made sound,
      subst (λ q. IsPartWire d new.wires q c.in_ok-next.next) (sym (sum_between d g i (2 * p + 2) (omega arith) more)) at,
    )
