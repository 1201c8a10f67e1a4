use Rattle.std.proofs.Common.{◌≤◌, ◌+◌, refl, subst, arith}
use Rattle.share_wiring.specs.Wiring.{MayBeShare, share}
use Rattle.hpc2_gadget.specs.Grown.{Grown}
use Rattle.hpc2_gadget.specs.Product.{InverseAt}
use Rattle.hpc2_gadget.proofs.Made.{grown_trans, grown_more, fills_more}
use Rattle.std.proofs.Common.{◌≡◌}
use Rattle.agm_net.specs.Label.{part}
use Rattle.agm_net.specs.declared.label.PartKind.TheVariants.{A, Na}
use Rattle.share_wiring.specs.declared.gate.Gate.TheVariants.{Not}
use Rattle.share_wiring.specs.declared.gate.Source.TheVariants.{Equation}
use Rattle.hpc2_gadget.specs.Sound.{AddsPart, AreParts}
use Rattle.hpc2_gadget.proofs.Filling.{parts_more}
use Rattle.hpc2_gadget.proofs.Numbers.{one_index}
use Rattle.hpc2_gadget.proofs.Placing.{added_at, added_sound, later as part_later}
use Rattle.hpc2_gadget.proofs.gadget.inverses.Goals as goal

pub loop-i-preserved : goal.loop-i-preserved
loop-i-preserved g c =
    let i = c.loop-i.i in
    let here = subst (λ n. Grown n c.args.place.gadget (33 + i + 1) 0 c.loop-i.builder c.gate.new.builder) c.requires.shares c.in_ok-wire.ensures.grown in
    let may = subst (λ n. MayBeShare c.gate.new.builder.wires n i c.in_ok-wire.wire) c.requires.shares (c.in_ok-wire.ensures.shared refl) in
    let later : 33 + i + 1 ≤ 33 + (i + 1) = omega arith in (
      grown_more _ _ _ _ _ _ _ later (grown_trans _ _ _ _ _ _ _ _ _ c.loop-i.invariant.0 here),
      fills_more g.row.S i c.in_ok-wire.wire c.loop-i.shares c.args.builder.now c.loop-i.builder c.gate.new.builder (λ cycles bits k w. InverseAt cycles bits (share c.args.x.now.shares k) w)
          c.loop-i-test.true c.loop-i.invariant.1 here.extends may c.in_ok-wire.ensures.value,
      λ sound factors.
          let n = g.row.S in
          let gadget = c.args.place.gadget in
          let same = c.requires.shares in
          let few = c.args.place.size.0 in
          let most = c.args.place.size.1 in
          let some : 1 ≤ n = omega (arith, same, few) in
          let small : n ≤ 16 = omega (arith, same, most) in
          let before = c.loop-i.invariant.2 sound factors in
          let lt = c.loop-i-test.true in
          let x = share c.args.x.now.shares i in
          let source = Equation (Not x) in
          let adds = subst (λ m. AddsPart m gadget Na i 0 source c.loop-i.builder c.gate.new.builder c.in_ok-wire.wire) same c.in_ok-wire.ensures.part in
          let index = one_index n i small lt in
          let at_x = part_later n gadget _ _ c.loop-i.invariant.0.extends (part gadget A i 0) x (factors i lt) in
          let at = added_at n gadget Na i 0 source _ _ _ some c.args.place.few index adds in
          let fits = c.loop-i.invariant.1.full in (
            added_sound n gadget Na i 0 source _ _ _ some c.args.place.few index adds c.args.place.clock here.extends (λ no. absurd (cc)) (x, refl, at_x) before.0,
            parts_more n gadget Na i c.in_ok-wire.wire c.loop-i.shares _ _ (omega (arith, fits, lt)) here.extends before.1 at,
          ),
    )

pub returns-clause-rules : goal.returns-clause-rules
returns-clause-rules g c sound factors =
    let end : c.loop-i.i ≡ g.row.S = omega (arith, c.loop-i-test.false, c.loop-i.auto.i-end) in
    let all = c.loop-i.invariant.2 sound factors in
    (all.0, subst (λ m. AreParts g.row.S c.args.place.gadget c.loop-i.builder Na m c.loop-i.shares) end all.1)
