use Rattle.agm_net.specs.Formula.{xor}
use Rattle.std.proofs.Common.{◌∙◌, ap, ◌≡◌, ◌≤◌, ◌+◌, ◌-◌, ◌*◌, refl, sym, subst, arith}
use Rattle.agm_net.specs.Label.{part}
use Rattle.agm_net.specs.Network.{recipe, partial_sum}
use Rattle.agm_net.specs.declared.label.PartKind.TheVariants.{S, W}
use Rattle.share_wiring.specs.Networks.{IsBy, IsPartWire}
use Rattle.share_wiring.specs.declared.gate.Gate.TheVariants.{Xor}
use Rattle.share_wiring.specs.declared.gate.Source.TheVariants.{Equation}
use Rattle.hpc2_gadget.specs.Order.{place_of}
use Rattle.hpc2_gadget.specs.Sound.{At}
use Rattle.hpc2_gadget.proofs.Made.{grown_trans}
use Rattle.hpc2_gadget.proofs.Placing.{added_at, added_sound, later, sum_index}
use Rattle.hpc2_gadget.proofs.Terms.{odd_recipe, odd_sum, place_below}
use Rattle.hpc2_gadget.proofs.Rows.{xor_assoc}
use Rattle.hpc2_gadget.proofs.parts.two_more.Goals as goal

pub returns-clause-grown : goal.returns-clause-grown
returns-clause-grown c = grown_trans _ _ _ _ _ _ _ _ _ c.in_ok-first.ensures.grown c.in_ok-second.ensures.grown

pub returns-clause-rules : goal.returns-clause-rules
returns-clause-rules c sound at_sum at_u at_w =
    let n = c.args.place.shares in
    let g = c.args.place.gadget in
    let d = n - 1 in
    let i = c.args.i in
    let j = c.args.j in
    let p = place_of i j in
    let size = c.args.place.size.0 in
    let few = c.args.place.size.1 in
    let some : 1 ≤ n = omega (arith, size) in
    let small = c.args.place.few in
    let lt = c.requires.index.0 in
    let lt' = c.requires.index.1 in
    let hi : i ≤ d = omega (arith, lt) in
    let hj : j ≤ d = omega (arith, lt') in
    let other = c.requires.index.2 in
    let is = c.place_of-before.ensures in
    let below = place_below d i j hi hj other in
    let at_is : 2 * c.place_of-before.result + 1 ≡ 2 * p + 1 = omega (arith, is) in
    let index = sum_index n i (2 * c.place_of-before.result + 1) few lt (omega arith) (omega (arith, at_is, below)) in
    let adds = c.in_ok-first.ensures.part in
    let old = c.args.builder.now in
    let mid = c.gate.new.builder in
    let u = c.args.terms.0 in
    let w = c.args.terms.1 in
    let first = c.in_ok-first.first in
    let source = Equation (Xor c.args.sum u) in
    let made = subst (λ m. IsBy d old.wires (recipe d g S i m) source) (sym at_is)
    (subst (λ r. IsBy d old.wires r source) (sym (odd_recipe d g i j hi hj other)) (c.args.sum, u, refl, at_sum, at_u)) in
    let e = c.in_ok-first.ensures.grown.extends in
    let one = added_sound n g S i (2 * c.place_of-before.result + 1) source old mid first some small index adds c.args.place.clock e (λ no. absurd (cc)) made sound in
    let at : At n g mid S i (2 * p + 1) first = subst (λ m. At n g mid S i m first) at_is (added_at n g S i (2 * c.place_of-before.result + 1) source old mid first some small index adds) in
    let summed : IsPartWire d mid.wires (partial_sum d g i (2 * p + 1)) first = subst (λ q. IsPartWire d mid.wires q first) (sym (odd_sum d g i j hi hj other)) at in
    let two = c.in_ok-second.ensures.rules one (first, w, refl, summed, later n g old mid e (part g W i j) w at_w) in
    (two.0, (first, later n g mid _ c.in_ok-second.ensures.grown.extends (part g S i (2 * p + 1)) first at), two.1)

pub returns-clause-value : goal.returns-clause-value
returns-clause-value c cycles bits run =
    let second = c.in_ok-second.ensures.value cycles bits run in
    let first = c.in_ok-first.ensures.value cycles bits second.0 in (
      first.0,
      λ t lt. second.1 t lt ∙ (ap (λ b. xor b (bits t c.args.terms.1)) (first.1 t lt) ∙ xor_assoc (bits t c.args.sum) (bits t c.args.terms.0) (bits t c.args.terms.1)),
    )
