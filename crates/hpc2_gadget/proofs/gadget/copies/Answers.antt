use Rattle.std.proofs.Common.{◌≤◌, ◌+◌, subst, arith}
use Rattle.share_wiring.specs.Wiring.{MayBeShare, share}
use Rattle.hpc2_gadget.specs.Order.{rank}
use Rattle.hpc2_gadget.specs.Grown.{Grown}
use Rattle.hpc2_gadget.specs.Product.{SameAt}
use Rattle.hpc2_gadget.proofs.Made.{grown_trans, grown_more, fills_more}
use Rattle.std.proofs.Common.{◌≡◌, ◌≢◌, ◌-◌, refl, sym}
use Rattle.agm_net.specs.Network.{recipe, a_share, a_random_bit}
use Rattle.agm_net.specs.declared.label.PartKind.{PartKind}
use Rattle.agm_net.specs.declared.label.PartKind.TheVariants.{R}
use Rattle.share_wiring.specs.Networks.{IsBy}
use Rattle.share_wiring.specs.declared.gate.Gate.TheVariants.{Same}
use Rattle.share_wiring.specs.declared.gate.Source.TheVariants.{Equation}
use Rattle.share_wiring.proofs.StepRules.{serves_from}
use Rattle.hpc2_gadget.specs.Sound.{AddsPart, AreParts}
use Rattle.hpc2_gadget.proofs.Filling.{parts_more}
use Rattle.hpc2_gadget.proofs.Placing.{added_at, added_sound}
use Rattle.hpc2_gadget.proofs.gadget.copies.Goals as goal

pub loop-i-preserved : goal.loop-i-preserved
loop-i-preserved g c =
    let kind = c.args.kind in
    let i = c.loop-i.i in
    let order = c.requires.order i in
    let here = subst (λ n. Grown n c.args.place.gadget (rank n kind i 0 + 1) 0 c.loop-i.builder c.gate.new.builder) c.requires.shares c.in_ok-wire.ensures.grown in
    let may = subst (λ n. MayBeShare c.gate.new.builder.wires n i c.in_ok-wire.wire) c.requires.shares (c.in_ok-wire.ensures.shared c.requires.shared) in
    let later : rank g.row.S kind i 0 + 1 ≤ rank g.row.S kind 0 0 + (i + 1) = omega (arith, order) in (
      grown_more _ _ _ _ _ _ _ later (grown_trans _ _ _ _ _ _ _ _ _ c.loop-i.invariant.0 here),
      fills_more g.row.S i c.in_ok-wire.wire c.loop-i.shares c.args.builder.now c.loop-i.builder c.gate.new.builder (λ cycles bits k w. SameAt cycles bits (share c.args.x.now.shares k) w)
          c.loop-i-test.true c.loop-i.invariant.1 here.extends may c.in_ok-wire.ensures.value,
      λ sound recipes.
          let n = g.row.S in
          let gadget = c.args.place.gadget in
          let same = c.requires.shares in
          let few = c.args.place.size.0 in
          let some : 1 ≤ n = omega (arith, same, few) in
          let before = c.loop-i.invariant.2 sound recipes in
          let x = share c.args.x.now.shares i in
          let source = Equation (Same x) in
          let adds = subst (λ m. AddsPart m gadget kind i 0 source c.loop-i.builder c.gate.new.builder c.in_ok-wire.wire) same c.in_ok-wire.ensures.part in
          let index = c.requires.index i c.loop-i-test.true in
          let le : n ≤ n - 1 + 1 = omega arith in
          let served = serves_from c.loop-i.builder.wires (n - 1) n i x le (c.loop-i.invariant.0.extends.shares n i x (c.requires.inside i c.loop-i-test.true)) in
          let other : kind ≢ R = λ is. (let both : a_random_bit ≡ a_share 0 = subst (λ (k : PartKind). recipe (n - 1) gadget k 0 0 ≡ a_share 0) is (recipes 0) in absurd (cc)) in
          let by = subst (λ r. IsBy (n - 1) c.loop-i.builder.wires r source) (sym (recipes i)) (x, refl, served) in
          let at = added_at n gadget kind i 0 source _ _ _ some c.args.place.few index adds in
          let fits = c.loop-i.invariant.1.full in
          let lt = c.loop-i-test.true in (
            added_sound n gadget kind i 0 source _ _ _ some c.args.place.few index adds c.args.place.clock here.extends other by before.0,
            parts_more n gadget kind i c.in_ok-wire.wire c.loop-i.shares _ _ (omega (arith, fits, lt)) here.extends before.1 at,
          ),
    )

pub returns-clause-rules : goal.returns-clause-rules
returns-clause-rules g c sound recipes =
    let end : c.loop-i.i ≡ g.row.S = omega (arith, c.loop-i-test.false, c.loop-i.auto.i-end) in
    let all = c.loop-i.invariant.2 sound recipes in
    (all.0, subst (λ m. AreParts g.row.S c.args.place.gadget c.loop-i.builder c.args.kind m c.loop-i.shares) end all.1)
