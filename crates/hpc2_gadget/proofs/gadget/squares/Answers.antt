use Rattle.std.proofs.Common.{◌≤◌, ◌+◌, ◌*◌, subst, arith}
use Rattle.share_wiring.specs.Wiring.{MayBeShare, share}
use Rattle.hpc2_gadget.specs.Grown.{Grown}
use Rattle.hpc2_gadget.specs.Product.{SquareAt}
use Rattle.hpc2_gadget.proofs.Made.{grown_trans, grown_more, fills_more}
use Rattle.std.proofs.Common.{◌≡◌}
use Rattle.agm_net.specs.Label.{part}
use Rattle.agm_net.specs.declared.label.PartKind.TheVariants.{A, B, M}
use Rattle.hpc2_gadget.specs.Sound.{AreParts, HasSquares, MakesSquare}
use Rattle.hpc2_gadget.proofs.Filling.{parts_more, squares_more}
use Rattle.hpc2_gadget.proofs.Placing.{later as part_later}
use Rattle.hpc2_gadget.proofs.gadget.squares.Goals as goal

pub loop-i-preserved : goal.loop-i-preserved
loop-i-preserved g c =
    let i = c.loop-i.i in
    let here = subst (λ n. Grown n c.args.place.gadget (52 + i * 3) 0 c.loop-i.builder c.square.new.builder) c.requires.shares c.in_ok-wire.ensures.grown in
    let may = subst (λ n. MayBeShare c.square.new.builder.wires n i c.in_ok-wire.wire) c.requires.shares c.in_ok-wire.ensures.shared in
    let later : 52 + i * 3 ≤ 49 + (i + 1) * 3 = omega arith in (
      grown_more _ _ _ _ _ _ _ later (grown_trans _ _ _ _ _ _ _ _ _ c.loop-i.invariant.0 here),
      fills_more g.row.S i c.in_ok-wire.wire c.loop-i.shares c.args.builder.now c.loop-i.builder c.square.new.builder (λ cycles bits k w. SquareAt cycles bits (share c.args.a.now.shares k) (share c.args.b.now.shares k) w)
          c.loop-i-test.true c.loop-i.invariant.1 here.extends may c.in_ok-wire.ensures.value,
      λ sound firsts seconds.
          let n = g.row.S in
          let gadget = c.args.place.gadget in
          let before = c.loop-i.invariant.2 sound firsts seconds in
          let lt = c.loop-i-test.true in
          let x = share c.args.a.now.shares i in
          let y = share c.args.b.now.shares i in
          let e = c.loop-i.invariant.0.extends in
          let rules = subst (λ m. MakesSquare m gadget c.args.place.clock c.loop-i.builder c.square.new.builder i x y c.in_ok-wire.wire) c.requires.shares c.in_ok-wire.ensures.rules in
          let made = rules before.0 (part_later n gadget _ _ e (part gadget A i 0) x (firsts i lt)) (part_later n gadget _ _ e (part gadget B i 0) y (seconds i lt)) in
          let fits = c.loop-i.invariant.1.full in (
            made.0,
            parts_more n gadget M i c.in_ok-wire.wire c.loop-i.shares _ _ (omega (arith, fits, lt)) here.extends before.1 made.3,
            squares_more n gadget i _ _ here.extends before.2 made.1 made.2,
          ),
    )

pub returns-clause-rules : goal.returns-clause-rules
returns-clause-rules g c sound firsts seconds =
    let end : c.loop-i.i ≡ g.row.S = omega (arith, c.loop-i-test.false, c.loop-i.auto.i-end) in
    let all = c.loop-i.invariant.2 sound firsts seconds in (
      all.0,
      subst (λ m. AreParts g.row.S c.args.place.gadget c.loop-i.builder M m c.loop-i.shares) end all.1,
      subst (λ m. HasSquares g.row.S c.args.place.gadget c.loop-i.builder m) end all.2,
    )
