use Rattle.hpc2_gadget.proofs.Made.{grown_trans}
use Rattle.std.proofs.Common.{◌≤◌, ◌-◌, refl, sym, subst, arith}
use Rattle.agm_net.specs.Label.{part}
use Rattle.share_wiring.specs.Networks.{IsBy}
use Rattle.share_wiring.specs.declared.gate.Source.TheVariants.{Equation, Register}
use Rattle.hpc2_gadget.proofs.Placing.{added_at, added_sound, later}
use Rattle.hpc2_gadget.proofs.parts.stored.Goals as goal

pub returns-clause-grown : goal.returns-clause-grown
returns-clause-grown c = grown_trans _ _ _ _ _ _ _ _ _ c.in_ok-now.ensures.grown c.in_ok-later.ensures.grown

pub returns-clause-rules : goal.returns-clause-rules
returns-clause-rules c sound made =
    let n = c.args.place.shares in
    let g = c.args.place.gadget in
    let size = c.args.place.size.0 in
    let some : 1 ≤ n = omega arith in
    let small = c.args.place.few in
    let first = c.in_ok-now.ensures.part in
    let second = c.in_ok-later.ensures.part in
    let mid = c.gate.new.builder in
    let new = c.register.new.builder in
    let one = added_sound n g c.args.kinds.0 c.args.i c.args.j (Equation c.args.gate_of) c.args.builder.now mid _ some small c.requires.first first c.args.place.clock c.in_ok-now.ensures.grown.extends made.no_pair made.made sound in
    let at = added_at n g c.args.kinds.0 c.args.i c.args.j (Equation c.args.gate_of) c.args.builder.now mid _ some small c.requires.first first in
    let by = subst (λ r. IsBy (n - 1) mid.wires r (Register c.in_ok-now.now c.args.place.clock)) (sym made.stores) (c.in_ok-now.now, c.args.place.clock, refl, at, one.clocked) in
    let two = added_sound n g c.args.kinds.1 c.args.i c.args.j (Register c.in_ok-now.now c.args.place.clock) mid new _ some small c.requires.second second c.args.place.clock c.in_ok-later.ensures.grown.extends made.none_later by one in (
      two,
      (c.in_ok-now.now, later n g mid new c.in_ok-later.ensures.grown.extends (part g c.args.kinds.0 c.args.i c.args.j) c.in_ok-now.now at),
      added_at n g c.args.kinds.1 c.args.i c.args.j (Register c.in_ok-now.now c.args.place.clock) mid new _ some small c.requires.second second,
    )
