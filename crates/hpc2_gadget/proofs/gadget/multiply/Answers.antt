use Rattle.std.proofs.Common.{◌≡◌, ◌<◌, ◌≤◌, ◌+◌, length, ap, ap₂, refl, sym, subst, ◌∙◌, arith, List, ℕ}
use Rattle.agm_net.specs.declared.port.Port.{Port}
use Rattle.share_wiring.specs.Wiring.{Wiring}
use Rattle.share_wiring.specs.Adds.{random_bits}
use Rattle.hpc2_gadget.specs.Grown.{triangle}
use Rattle.hpc2_gadget.proofs.PartNames.{below_none}
use Rattle.share_wiring.proofs.Runs.{extends_trans}
use Rattle.hpc2_gadget.proofs.Made.{begun_later, triangle_half}
use Rattle.hpc2_gadget.specs.Product.{SharesAt, pair_bit}
use Rattle.hpc2_gadget.proofs.Rows.{copied}
use Rattle.hpc2_gadget.proofs.Shares.{copied_shares}
use Rattle.hpc2_gadget.proofs.Sizes.{array_fits}
use Rattle.share_wiring.specs.Cells.{AreCells}
use Rattle.std.proofs.Common.{◌-◌, ◌^◌}
use Rattle.agm_net.specs.declared.label.PartKind.TheVariants.{Clk}
use Rattle.share_wiring.specs.Networks.{IsNetwork, Rules}
use Rattle.share_wiring.specs.declared.gate.Gate.TheVariants.{Same}
use Rattle.share_wiring.specs.declared.gate.Source.TheVariants.{Equation}
use Rattle.hpc2_gadget.specs.Order.{IsIndex}
use Rattle.hpc2_gadget.specs.Sound.{Sound}
use Rattle.hpc2_gadget.proofs.Filling.{whole_more}
use Rattle.hpc2_gadget.proofs.Placing.{added_at, added_rules}
use Rattle.hpc2_gadget.proofs.gadget.multiply.Goals as goal

pub gate-requires-clause-below : goal.gate-requires-clause-below
gate-requires-clause-below g c = below_none g.row.S c.begin_gadget-gadget.result _ c.begin_gadget-gadget.ensures.unnamed

pub product-requires : goal.product-requires
product-requires g c =
    let n = g.row.S in
    let le = c.requires.size.1 in
    let begun = c.begin_gadget-gadget.ensures.begun in
    let number = c.begin_gadget-gadget.ensures.number in
    let one = c.in_ok-clock.ensures.grown in
    let gadgets = ap (λ (w : Wiring). w.gadgets) begun in
    let given = ap (λ (w : Wiring). w.given) begun in
    let same = one.given in
    let half = triangle_half n in
    let left = c.requires.random in
    let bits : List Port → ℕ = λ ps. length (random_bits ps) in
    let ports = ap bits one.ports ∙ ap (λ (w : Wiring). bits w.ports) begun in
    let there : c.begin_gadget-gadget.result < c.begin_gadget-gadget.new.self.gadgets = omega (arith, gadgets, number) in
    let random : c.gate.new.builder.given + triangle n ≤ length (random_bits c.gate.new.builder.ports) = omega (arith, given, same, left, half, ports) in (
      array_fits n le,
      (
        begun_later _ _ _ _ _ _ one there,
        (
          c.in_ok-clock.ensures.within,
          (
            refl,
            (
              one.below,
              (
                random,
                (
                  (λ i lt. one.extends.shares _ _ _ (c.begin_gadget-gadget.ensures.extends.shares _ _ _ (c.requires.first i lt))),
                  (λ i lt. one.extends.shares _ _ _ (c.begin_gadget-gadget.ensures.extends.shares _ _ _ (c.requires.second i lt))),
                ),
              ),
            ),
          ),
        ),
      ),
    )

pub returns-clause-extends : goal.returns-clause-extends
returns-clause-extends g c =
    extends_trans _ _ _ c.begin_gadget-gadget.ensures.extends (extends_trans _ _ _ c.in_ok-clock.ensures.grown.extends (extends_trans _ _ _ c.in_ok-shares.ensures.grown.extends c.in_ok-answer.ensures.extends))

pub returns-clause-given : goal.returns-clause-given
returns-clause-given g c =
    let begun = ap (λ (w : Wiring). w.given) c.begin_gadget-gadget.ensures.begun in
    let clock = c.in_ok-clock.ensures.grown.given in
    let product = c.in_ok-shares.ensures.grown.given in
    let copy = c.in_ok-answer.ensures.stays.given in
    let half = triangle_half g.row.S in
    omega (arith, begun, clock, product, copy, half)

pub returns-clause-product : goal.returns-clause-product
returns-clause-product g c cycles bits run =
    let answer = c.in_ok-answer.ensures.value cycles bits run in
    let shares = c.in_ok-shares.ensures.product cycles bits answer.0 in
    let clock = c.in_ok-clock.ensures.value cycles bits shares.0 in
    let begun = c.begin_gadget-gadget.ensures.adds cycles bits clock.0 in
    (begun.0, copied g.row.S cycles bits c.args.a.now.shares c.args.b.now.shares c.in_ok-shares.shares.shares c.in_ok-answer.answer.shares shares.1 answer.1)

pub returns-clause-cells : goal.returns-clause-cells
returns-clause-cells g c h =
    c.in_ok-answer.ensures.cells (c.in_ok-shares.ensures.grown.cells (c.in_ok-clock.ensures.grown.cells (subst (λ (w : Wiring). AreCells w.wires) (sym c.begin_gadget-gadget.ensures.begun) h)))

pub returns-clause-each : goal.returns-clause-each
returns-clause-each g c cycles bits run =
    let begun = c.begin_gadget-gadget.ensures.begun in
    let one = c.in_ok-clock.ensures.grown in
    let ports = one.ports ∙ ap (λ (w : Wiring). w.ports) begun in
    let before : c.begin_gadget-gadget.new.self.given ≡ c.args.builder.now.given = ap (λ (w : Wiring). w.given) begun in
    let given : c.gate.new.builder.given ≡ c.args.builder.now.given = (let more = one.given in omega (arith, before)) in
    let answer = c.in_ok-answer.ensures.value cycles bits run in
    let shares = c.in_ok-shares.ensures.each cycles bits answer.0 in
    let clock = c.in_ok-clock.ensures.value cycles bits shares.0 in
    let start = c.begin_gadget-gadget.ensures.adds cycles bits clock.0 in (
      start.0,
      subst (λ r. SharesAt g.row.S cycles bits r c.args.a.now.shares c.args.b.now.shares c.in_ok-answer.answer.shares) (ap₂ pair_bit ports given)
          (copied_shares g.row.S cycles bits (pair_bit c.gate.new.builder.ports c.gate.new.builder.given) c.args.a.now.shares c.args.b.now.shares c.in_ok-shares.shares.shares c.in_ok-answer.answer.shares shares.1 answer.1),
    )

pub returns-clause-network : goal.returns-clause-network
returns-clause-network g c before =
    let n = g.row.S in
    let d = n - 1 in
    let size = c.requires.size.0 in
    let few = c.requires.gadgets in
    let some : 1 ≤ n = omega (arith, size) in
    let le : n ≤ d + 1 = omega (arith, size) in
    let gadget = c.begin_gadget-gadget.result in
    let number = c.begin_gadget-gadget.ensures.number in
    let begun = c.begin_gadget-gadget.ensures.begun in
    let small : gadget < 2 ^ 32 = omega (arith, number, few) in
    let net1 = c.begin_gadget-gadget.new.self in
    let net2 = c.gate.new.builder in
    let net3 = c.product.new.builder in
    let clock = c.in_ok-clock.clock in
    let zeroth = c.clock.ensures.zero in
    let source = Equation (Same c.clock.result) in
    let adds = c.in_ok-clock.ensures.part in
    let index : IsIndex n Clk 0 0 = (omega arith, omega arith, (refl, refl)) in
    let start : Rules d gadget net1.wires net1.given (random_bits net1.ports) =
    subst (λ (net : Wiring). Rules d gadget net.wires net.given (random_bits net.ports)) (sym begun)
    (subst (λ k. Rules d k c.args.builder.now.wires c.args.builder.now.given (random_bits c.args.builder.now.ports)) (sym number) before) in
    let one = added_rules n gadget Clk 0 0 source net1 net2 clock some small index adds (λ no. absurd (cc)) (ap (λ k. Equation (Same k)) zeroth) start in
    let at = added_at n gadget Clk 0 0 source net1 net2 clock some small index adds in
    let sound : Sound n gadget clock net2 = record { rules = one; clocked = at } in
    let made = c.in_ok-shares.ensures.rules sound in
    let more = whole_more d gadget net3.wires net3.given (random_bits net3.ports) made.0.rules made.1 in
    let gadgets : gadget + 1 ≡ net3.gadgets =
    (let after = c.in_ok-shares.ensures.grown.gadgets in let with_clock = c.in_ok-clock.ensures.grown.gadgets in let first = ap (λ (w : Wiring). w.gadgets) begun in omega (arith, after, with_clock, first, number)) in
    let network : IsNetwork d net3 = subst (λ k. Rules d k net3.wires net3.given (random_bits net3.ports)) gadgets more in
    c.in_ok-answer.ensures.network d le network
