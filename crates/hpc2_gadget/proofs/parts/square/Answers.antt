use Rattle.std.proofs.Common.{◌≤◌, arith, refl}
use Rattle.agm_net.specs.Label.{part}
use Rattle.agm_net.specs.declared.label.PartKind.TheVariants.{A, Bb}
use Rattle.share_wiring.specs.declared.gate.Source.TheVariants.{Register}
use Rattle.hpc2_gadget.proofs.Numbers.{one_index}
use Rattle.hpc2_gadget.proofs.Placing.{added_at, added_sound, later}
use Rattle.hpc2_gadget.proofs.Made.{grown_trans, grown_more}
use Rattle.hpc2_gadget.proofs.parts.square.Goals as goal

pub returns-clause-grown : goal.returns-clause-grown
returns-clause-grown c = grown_more _ _ _ _ _ _ _ (omega arith) (grown_trans _ _ _ _ _ _ _ _ _ c.in_ok-before.ensures.grown c.in_ok-product.ensures.grown)

pub returns-clause-shared : goal.returns-clause-shared
returns-clause-shared c = c.in_ok-product.ensures.shared refl

pub returns-clause-rules : goal.returns-clause-rules
returns-clause-rules c sound at_a at_b =
    let n = c.args.place.shares in
    let g = c.args.place.gadget in
    let clock = c.args.place.clock in
    let i = c.args.i in
    let few = c.args.place.size.0 in
    let some : 1 ≤ n = omega arith in
    let small = c.args.place.few in
    let index = one_index n i c.args.place.size.1 c.requires.index in
    let before = c.in_ok-before.ensures.part in
    let e = c.in_ok-before.ensures.grown.extends in
    let one = added_sound n g Bb i 0 (Register c.args.b clock) _ _ _ some small index before clock e (λ no. absurd (cc)) (c.args.b, clock, refl, at_b, sound.clocked) sound in
    let bb = added_at n g Bb i 0 (Register c.args.b clock) _ _ _ some small index before in
    let two = c.in_ok-product.ensures.rules one (record { made = (c.args.a, c.in_ok-before.before, refl, later n g _ _ e (part g A i 0) c.args.a at_a, bb); stores = refl; no_pair = λ no. absurd (cc); none_later = λ no. absurd (cc) }) in
    (two.0, (c.in_ok-before.before, later n g _ _ c.in_ok-product.ensures.grown.extends (part g Bb i 0) c.in_ok-before.before bb), two.1, two.2)
