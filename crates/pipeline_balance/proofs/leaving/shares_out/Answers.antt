use Rattle.std.proofs.Common.{◌≡◌, ℕ, List, true, map, subst, arith}
use Rattle.share_wiring.specs.Wiring.{share}
use Rattle.hpc2_gadget.proofs.Sizes.{array_fits}
use Rattle.pipeline_balance.specs.Leaving.{made_header, sharing_of, AreRowsLed}
use Rattle.pipeline_balance.proofs.LeavingRows.{rows_place, rows_fit, rows_more}
use Rattle.pipeline_balance.proofs.Making.{still}
use Rattle.pipeline_balance.proofs.leaving.shares_out.Goals as goal

pub share_out-requires : goal.share_out-requires
share_out-requires g c =
    let n = g.row.S in
    let header = made_header true c.args.port.now in
    let row : ℕ → List ℕ = λ i. map (λ z. share z.shares i) c.args.sharings.now in
    let old = c.args.builder.now in
    let now = c.loop-i.builder in
    let m = c.loop-i.i in
    let before = c.loop-i.invariant in
    let lt = c.loop-i-test.true in (
      array_fits n c.requires.size.1,
      (
        rows_fit c.args.place m header row old now c.requires.place.1 before n lt c.requires.fit,
        (
          c.requires.written,
          (
            c.requires.output,
            (
              rows_place c.args.place m header row old now c.requires.place.1 before c.requires.place.0,
              (c.requires.bits, ((λ j within. still n old now (sharing_of c.args.sharings.now j) before.extends (c.requires.sharings j within)), (c.requires.size, lt))),
            ),
          ),
        ),
      ),
    )

pub loop-i-preserved : goal.loop-i-preserved
loop-i-preserved g c =
    rows_more c.args.place c.loop-i.i (made_header true c.args.port.now) (λ i. map (λ z. share z.shares i) c.args.sharings.now) c.args.builder.now c.loop-i.builder c.requires.place.1 c.loop-i.invariant
    g.row.S c.share_out.new.builder c.loop-i-test.true c.requires.fit c.in_ok-share_out.ensures

pub returns : goal.returns
returns g c =
    let no = c.loop-i-test.false in
    let le = c.loop-i.auto.i-end in
    let whole : c.loop-i.i ≡ g.row.S = omega (arith, no, le) in
    subst (λ m. AreRowsLed c.args.place m (made_header true c.args.port.now) (λ i. map (λ z. share z.shares i) c.args.sharings.now) c.args.builder.now c.loop-i.builder) whole c.loop-i.invariant
