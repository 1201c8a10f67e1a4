use Rattle.std.proofs.Common.{◌≡◌, ◌≤◌, ◌+◌, ◌*◌, ℕ, slice_set, ap₂, subst, arith}
use Rattle.share_wiring.specs.Wiring.{MayBeShare, share}
use Rattle.hpc2_gadget.specs.Grown.{Grown, Makes}
use Rattle.hpc2_gadget.specs.Product.{CrossAt, RowFact, random_bit}
use Rattle.hpc2_gadget.proofs.Made.{grown_trans, grown_more, makes_pair}
use Rattle.hpc2_gadget.proofs.Rows.{row_more}
use Rattle.hpc2_gadget.proofs.Shares.{pair_of_crosses, row_shares_more}
use Rattle.hpc2_gadget.specs.Sound.{IsUnderWay, HasRow, MakesPair}
use Rattle.hpc2_gadget.proofs.Filling.{factors_later, low_side, high_side, under_more, pairs_more, under_all}
use Rattle.hpc2_gadget.proofs.gadget.row.Goals as goal

pub loop-i-preserved : goal.loop-i-preserved
loop-i-preserved g c =
    let n = g.row.S in
    let i = c.loop-i.i in
    let j = c.args.j in
    let a = c.args.a.now.shares in
    let inverse = c.args.inverse.now.shares in
    let b = c.args.b.now.shares in
    let sums = c.args.sums.now.shares in
    let shares = c.loop-i.shares in
    let low = c.in_ok-low.low in
    let high = c.in_ok-low.high in
    let here = subst (λ m. Grown m c.args.place.gadget (117 + (j * 320 + i * 20)) 1 c.loop-i.builder c.pair.new.builder) c.requires.shares c.in_ok-low.ensures.grown in
    let may_low = subst (λ m. MayBeShare c.pair.new.builder.wires m i low) c.requires.shares c.in_ok-low.ensures.low in
    let may_high = subst (λ m. MayBeShare c.pair.new.builder.wires m j high) c.requires.shares c.in_ok-low.ensures.high in
    let first = c.args.builder.now in
    let random : ℕ → ℕ = λ k. random_bit first.ports (first.given + k) in
    let bit = random_bit c.loop-i.builder.ports c.loop-i.builder.given in
    let is : bit ≡ random i = ap₂ random_bit c.loop-i.invariant.0.ports c.loop-i.invariant.0.given in
    let later : 117 + (j * 320 + i * 20) ≤ 97 + (j * 320 + (i + 1) * 20) = omega arith in (
      grown_more _ _ _ _ _ _ _ later (grown_trans _ _ _ _ _ _ _ _ _ c.loop-i.invariant.0 here),
      makes_pair n i j low high shares c.args.builder.now c.loop-i.builder c.pair.new.builder (λ cycles bits. RowFact n j i cycles bits random a inverse b sums shares)
          (λ cycles bits. CrossAt cycles bits (share a i) (share inverse i) (share b j) bit (share shares i) low × CrossAt cycles bits (share a j) (share inverse j) (share b i) bit (share shares j) high)
          (λ cycles bits. RowFact n j (i + 1) cycles bits random a inverse b sums (slice_set (slice_set shares i low) j high)) c.loop-i-test.true c.requires.index c.loop-i.invariant.1 here.extends may_low may_high
          c.in_ok-low.ensures.value
          (λ cycles bits before now. (
            row_more n j i cycles bits a inverse b sums shares low high c.loop-i-test.true c.requires.index c.loop-i.invariant.1.full before.0
                (pair_of_crosses cycles bits (share a i) (share inverse i) (share b i) (share shares i) (share a j) (share inverse j) (share b j) (share shares j) bit low high now.0 now.1),
            row_shares_more n j i cycles bits random a inverse b sums shares bit low high c.loop-i-test.true c.requires.index c.loop-i.invariant.1.full is before.1 now.0 now.1,
          )),
      λ sound factors started.
          let gadget = c.args.place.gadget in
          let clock = c.args.place.clock in
          let past = c.loop-i.invariant.2 sound factors started in
          let now = factors_later n gadget first c.loop-i.builder a inverse b c.loop-i.invariant.0.extends factors in
          let lt = c.loop-i-test.true in
          let below = c.requires.index in
          let rules =
          subst
          (λ m. MakesPair m gadget clock c.loop-i.builder c.pair.new.builder i j (share a i) (share inverse i) (share b i) (share shares i) (share a j) (share inverse j) (share b j) (share shares j) low high)
          c.requires.shares c.in_ok-low.ensures.rules in
          let made = rules past.0 (low_side n gadget i j c.loop-i.builder a inverse b shares lt below now past.1) (high_side n gadget i j c.loop-i.builder a inverse b shares lt below now past.1) in (
            made.0,
            under_more n gadget i j low high c.loop-i.builder c.pair.new.builder shares lt below c.loop-i.invariant.1.full here.extends past.1 made.2 made.3,
            pairs_more n gadget i j c.loop-i.builder c.pair.new.builder here.extends past.2 made.1,
          ),
    )

pub returns-clause-made : goal.returns-clause-made
returns-clause-made g c =
    let first = c.args.builder.now in
    let end : c.loop-i.i ≡ c.args.j = omega (arith, c.loop-i-test.false, c.loop-i.auto.i-end) in
    subst
    (λ m. Makes first c.loop-i.builder g.row.S c.loop-i.shares (λ cycles bits. RowFact g.row.S c.args.j m cycles bits (λ i. random_bit first.ports (first.given + i)) c.args.a.now.shares c.args.inverse.now.shares c.args.b.now.shares c.args.sums.now.shares c.loop-i.shares))
    end c.loop-i.invariant.1

pub returns-clause-rules : goal.returns-clause-rules
returns-clause-rules g c sound factors started =
    let n = g.row.S in
    let gadget = c.args.place.gadget in
    let end : c.loop-i.i ≡ c.args.j = omega (arith, c.loop-i-test.false, c.loop-i.auto.i-end) in
    let all = c.loop-i.invariant.2 sound factors started in (
      all.0,
      under_all n gadget c.args.j c.loop-i.builder c.loop-i.shares (subst (λ m. IsUnderWay n gadget c.loop-i.builder c.args.j m c.loop-i.shares) end all.1),
      subst (λ m. HasRow n gadget c.loop-i.builder c.args.j m) end all.2,
    )
