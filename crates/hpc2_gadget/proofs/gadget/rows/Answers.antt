use Rattle.std.proofs.Common.{◌≡◌, ◌<◌, ◌≤◌, ◌+◌, ◌*◌, ◌∙◌, ℕ, length, ap, ap₂, subst, sym, add-one, arith, List}
use Rattle.agm_net.specs.declared.port.Port.{Port}
use Rattle.share_wiring.specs.Adds.{random_bits}
use Rattle.hpc2_gadget.specs.Grown.{Grown, Makes, triangle}
use Rattle.hpc2_gadget.specs.Product.{RowFact, RowsFact, random_bit, pair_bit}
use Rattle.hpc2_gadget.proofs.Made.{grown_trans, grown_more, makes_row, triangle_more}
use Rattle.hpc2_gadget.proofs.Rows.{rows_more}
use Rattle.hpc2_gadget.proofs.Shares.{rows_shares_more, pair_in_order, pair_turned}
use Rattle.hpc2_gadget.proofs.Sizes.{array_fits}
use Rattle.hpc2_gadget.specs.Sound.{HasRows}
use Rattle.hpc2_gadget.proofs.Filling.{factors_later, rows_one}
use Rattle.hpc2_gadget.proofs.gadget.rows.Goals as goal

pub row-requires : goal.row-requires
row-requires g c =
    let n = g.row.S in
    let size = c.args.place.size.1 in
    let same = c.requires.shares in
    let le : n ≤ 16 = omega arith in
    let grown = c.loop-j.invariant.0 in
    let begun = c.requires.begun in
    let gadgets = grown.gadgets in
    let begun' : c.args.place.gadget < c.loop-j.builder.gadgets = omega arith in
    let clock = c.requires.clock in
    let count = grown.extends.count in
    let clock' : c.args.place.clock < length c.loop-j.builder.wires = omega arith in
    let given = grown.given in
    let left = c.requires.random in
    let more = triangle_more c.loop-j.j n c.loop-j-test.true in
    let ports = ap (λ (ps : List Port). length (random_bits ps)) grown.ports in
    let random : c.loop-j.builder.given + c.loop-j.j ≤ length (random_bits c.loop-j.builder.ports) = omega (arith, given, left, more, ports) in
    (array_fits n le, (begun', (clock', (same, (c.loop-j-test.true, (grown.below, (random, ((λ i lt. grown.extends.shares _ _ _ (c.requires.first i lt)), ((λ i lt. grown.extends.shares _ _ _ (c.requires.inverted i lt)), ((λ i lt. grown.extends.shares _ _ _ (c.requires.second i lt)), (c.loop-j.invariant.1.sharing, c.loop-j.invariant.1.full)))))))))))

pub loop-j-preserved : goal.loop-j-preserved
loop-j-preserved g c =
    let n = g.row.S in
    let j = c.loop-j.j in
    let a = c.args.a.now.shares in
    let inverse = c.args.inverse.now.shares in
    let b = c.args.b.now.shares in
    let sums = c.args.sums.now.shares in
    let shares = c.loop-j.all.shares in
    let new = c.in_ok-all.all.shares in
    let size = c.args.place.size.1 in
    let same = c.requires.shares in
    let lt = c.loop-j-test.true in
    let later : 97 + (j * 320 + j * 20) ≤ 97 + (j + 1) * 320 = omega arith in
    let first = c.args.builder.now in
    let random = pair_bit first.ports first.given in
    let taken : ℕ → ℕ = λ i. random_bit c.loop-j.builder.ports (c.loop-j.builder.given + i) in
    let below : (i : ℕ) → i < j → taken i ≡ random_bit first.ports (first.given + (triangle j + i)) =
    λ i lt. (
    let given = c.loop-j.invariant.0.given in
    let number : c.loop-j.builder.given + i ≡ first.given + (triangle j + i) = omega arith in
    ap₂ random_bit c.loop-j.invariant.0.ports number) in
    let order : (i k : ℕ) → i < k → random_bit first.ports (first.given + (triangle k + i)) ≡ random i k = λ i k lt. pair_in_order first.ports first.given i k lt in
    let turned : (i k : ℕ) → i < k → random_bit first.ports (first.given + (triangle k + i)) ≡ random k i = λ i k lt. pair_turned first.ports first.given i k lt in
    let count : triangle (j + 1) ≡ triangle j + j = ap triangle (add-one j) in
    let grown = grown_more _ _ _ _ _ _ _ later (grown_trans _ _ _ _ _ _ _ _ _ c.loop-j.invariant.0 c.in_ok-all.ensures.grown) in (
      subst (λ k. Grown n c.args.place.gadget (97 + (j + 1) * 320) k c.args.builder.now c.row.new.builder) (sym count) grown,
      makes_row n new c.args.builder.now c.loop-j.builder c.row.new.builder shares (λ cycles bits. RowsFact n j cycles bits random a inverse b sums shares) (λ cycles bits. RowFact n j j cycles bits taken a inverse b shares new)
          (λ cycles bits. RowsFact n (j + 1) cycles bits random a inverse b sums new) c.loop-j.invariant.1 c.in_ok-all.ensures.made
          (λ cycles bits before now. (
            rows_more n j cycles bits a inverse b sums shares new before.0 now.0,
            rows_shares_more n j cycles bits random taken a inverse b sums shares new (λ i lt. below i lt ∙ order i j lt) (λ i lt. below i lt ∙ turned i j lt) before.1 now.1,
          )),
      λ sound factors squares.
          let gadget = c.args.place.gadget in
          let past = c.loop-j.invariant.2 sound factors squares in
          let made = c.in_ok-all.ensures.rules past.0 (factors_later n gadget first c.loop-j.builder a inverse b c.loop-j.invariant.0.extends factors) past.1 in
          (made.0, made.1, rows_one n gadget j c.loop-j.builder c.row.new.builder c.in_ok-all.ensures.grown.extends past.2 made.2),
    )

pub returns-clause-made : goal.returns-clause-made
returns-clause-made g c =
    let first = c.args.builder.now in
    let end : c.loop-j.j ≡ g.row.S = omega (arith, c.loop-j-test.false, c.loop-j.auto.j-end) in
    subst
    (λ m. Makes first c.loop-j.builder g.row.S c.loop-j.all.shares (λ cycles bits. RowsFact g.row.S m cycles bits (pair_bit first.ports first.given) c.args.a.now.shares c.args.inverse.now.shares c.args.b.now.shares c.args.sums.now.shares c.loop-j.all.shares))
    end c.loop-j.invariant.1

pub returns-clause-rules : goal.returns-clause-rules
returns-clause-rules g c sound factors squares =
    let end : c.loop-j.j ≡ g.row.S = omega (arith, c.loop-j-test.false, c.loop-j.auto.j-end) in
    let all = c.loop-j.invariant.2 sound factors squares in
    (all.0, subst (λ m. HasRows g.row.S c.args.place.gadget c.loop-j.builder m) end all.2)
