use Rattle.std.proofs.Common.{◌≡◌, ◌≤◌, ◌+◌, ◌*◌, length, ap, ap₂, refl, subst, arith, zero-add, List}
use Rattle.agm_net.specs.declared.port.Port.{Port}
use Rattle.share_wiring.specs.Adds.{random_bits}
use Rattle.hpc2_gadget.specs.Grown.{Grown, triangle}
use Rattle.hpc2_gadget.proofs.PartNames.{below_more}
use Rattle.hpc2_gadget.proofs.Made.{grown_trans, begun_later, wire_later, sharing_later}
use Rattle.hpc2_gadget.proofs.Numbers.{one_index}
use Rattle.hpc2_gadget.specs.Product.{SharesAt, pair_bit}
use Rattle.hpc2_gadget.proofs.Rows.{whole}
use Rattle.hpc2_gadget.proofs.Shares.{whole_shares}
use Rattle.hpc2_gadget.proofs.Sizes.{array_fits}
use Rattle.agm_net.specs.declared.label.PartKind.TheVariants.{A, B, M, Na}
use Rattle.share_wiring.proofs.Runs.{extends_trans}
use Rattle.hpc2_gadget.specs.Sound.{AreFactors}
use Rattle.hpc2_gadget.proofs.Filling.{factors_later, squares_later, full}
use Rattle.hpc2_gadget.proofs.Placing.{parts_later}
use Rattle.hpc2_gadget.proofs.gadget.product.Goals as goal

pub copies-requires-2 : goal.copies-requires-2
copies-requires-2 g c =
    let n = g.row.S in
    let size = c.args.place.size.1 in
    let same = c.requires.shares in
    let le : n ≤ 16 = omega arith in
    let one = c.in_ok-a.ensures.grown in (
      array_fits n le,
      (begun_later _ _ _ _ _ _ one c.requires.begun, (same, (refl, ((λ i. refl), ((λ i lt. one_index n i le lt), (below_more _ _ _ _ _ (omega arith) one.below, sharing_later _ _ _ _ _ _ one n c.args.y.now.shares c.requires.second)))))),
    )

pub inverses-requires : goal.inverses-requires
inverses-requires g c =
    let n = g.row.S in
    let size = c.args.place.size.1 in
    let same = c.requires.shares in
    let le : n ≤ 16 = omega arith in
    let two = c.in_ok-b.ensures.grown in
    let both = grown_trans _ _ _ _ _ _ _ _ _ c.in_ok-a.ensures.grown two in
    (array_fits n le, (begun_later _ _ _ _ _ _ both c.requires.begun, (same, (below_more _ _ _ _ _ (omega arith) two.below, sharing_later _ _ _ _ _ _ two n c.in_ok-a.a.shares c.in_ok-a.ensures.filled.sharing))))

pub squares-requires : goal.squares-requires
squares-requires g c =
    let n = g.row.S in
    let size = c.args.place.size.1 in
    let same = c.requires.shares in
    let le : n ≤ 16 = omega arith in
    let three = c.in_ok-inverse.ensures.grown in
    let late = grown_trans _ _ _ _ _ _ _ _ _ c.in_ok-b.ensures.grown three in
    let all = grown_trans _ _ _ _ _ _ _ _ _ c.in_ok-a.ensures.grown late in (
      array_fits n le,
      (
        begun_later _ _ _ _ _ _ all c.requires.begun,
        (
          wire_later _ _ _ _ _ _ all c.args.place.clock c.requires.clock,
          (
            same,
            (
              below_more _ _ _ _ _ (omega arith) three.below,
              (
                sharing_later _ _ _ _ _ _ late n c.in_ok-a.a.shares c.in_ok-a.ensures.filled.sharing,
                sharing_later _ _ _ _ _ _ three n c.in_ok-b.b.shares c.in_ok-b.ensures.filled.sharing,
              ),
            ),
          ),
        ),
      ),
    )

pub rows-requires : goal.rows-requires
rows-requires g c =
    let n = g.row.S in
    let size = c.args.place.size.1 in
    let same = c.requires.shares in
    let le : n ≤ 16 = omega arith in
    let four = c.in_ok-sums.ensures.grown in
    let three = grown_trans _ _ _ _ _ _ _ _ _ c.in_ok-inverse.ensures.grown four in
    let two = grown_trans _ _ _ _ _ _ _ _ _ c.in_ok-b.ensures.grown three in
    let all = grown_trans _ _ _ _ _ _ _ _ _ c.in_ok-a.ensures.grown two in
    let given = all.given in
    let left = c.requires.random in
    let ports = ap (λ (ps : List Port). length (random_bits ps)) all.ports in
    let random : c.squares.new.builder.given + triangle n ≤ length (random_bits c.squares.new.builder.ports) = omega (arith, given, left, ports) in (
      array_fits n le,
      (
        begun_later _ _ _ _ _ _ all c.requires.begun,
        (
          wire_later _ _ _ _ _ _ all c.args.place.clock c.requires.clock,
          (
            same,
            (
              below_more _ _ _ _ _ (omega arith) four.below,
              (
                random,
                (
                  sharing_later _ _ _ _ _ _ two n c.in_ok-a.a.shares c.in_ok-a.ensures.filled.sharing,
                  (sharing_later _ _ _ _ _ _ four n c.in_ok-inverse.inverse.shares c.in_ok-inverse.ensures.filled.sharing, (sharing_later _ _ _ _ _ _ three n c.in_ok-b.b.shares c.in_ok-b.ensures.filled.sharing, (c.in_ok-sums.ensures.filled.sharing, c.in_ok-sums.ensures.filled.full))),
                ),
              ),
            ),
          ),
        ),
      ),
    )

pub returns-clause-grown : goal.returns-clause-grown
returns-clause-grown g c =
    let n = g.row.S in
    let two = grown_trans _ _ _ _ _ _ _ _ _ c.in_ok-a.ensures.grown c.in_ok-b.ensures.grown in
    let three = grown_trans _ _ _ _ _ _ _ _ _ two c.in_ok-inverse.ensures.grown in
    let four = grown_trans _ _ _ _ _ _ _ _ _ three c.in_ok-sums.ensures.grown in
    let all = grown_trans _ _ _ _ _ _ _ _ _ four c.in_ok-all.ensures.grown in
    subst (λ k. Grown n c.args.place.gadget (97 + n * 320) k c.args.builder.now c.rows.new.builder) (zero-add (triangle n)) all

pub returns-clause-product : goal.returns-clause-product
returns-clause-product g c cycles bits run =
    let all = c.in_ok-all.ensures.made.facts cycles bits run in
    let sums = c.in_ok-sums.ensures.filled.facts cycles bits all.0 in
    let inverse = c.in_ok-inverse.ensures.filled.facts cycles bits sums.0 in
    let b = c.in_ok-b.ensures.filled.facts cycles bits inverse.0 in
    let a = c.in_ok-a.ensures.filled.facts cycles bits b.0 in (
      a.0,
      whole g.row.S cycles bits c.args.x.now.shares c.args.y.now.shares c.in_ok-a.a.shares c.in_ok-b.b.shares c.in_ok-inverse.inverse.shares c.in_ok-sums.sums.shares c.in_ok-all.all.shares a.1 b.1 inverse.1 sums.1 all.1.0,
    )

pub returns-clause-each : goal.returns-clause-each
returns-clause-each g c cycles bits run =
    let n = g.row.S in
    let two = grown_trans _ _ _ _ _ _ _ _ _ c.in_ok-a.ensures.grown c.in_ok-b.ensures.grown in
    let three = grown_trans _ _ _ _ _ _ _ _ _ two c.in_ok-inverse.ensures.grown in
    let four = grown_trans _ _ _ _ _ _ _ _ _ three c.in_ok-sums.ensures.grown in
    let given : c.squares.new.builder.given ≡ c.args.builder.now.given = (let more = four.given in omega arith) in
    let random = ap₂ pair_bit four.ports given in
    let all = c.in_ok-all.ensures.made.facts cycles bits run in
    let sums = c.in_ok-sums.ensures.filled.facts cycles bits all.0 in
    let inverse = c.in_ok-inverse.ensures.filled.facts cycles bits sums.0 in
    let b = c.in_ok-b.ensures.filled.facts cycles bits inverse.0 in
    let a = c.in_ok-a.ensures.filled.facts cycles bits b.0 in (
      a.0,
      subst (λ r. SharesAt n cycles bits r c.args.x.now.shares c.args.y.now.shares c.in_ok-all.all.shares) random
          (whole_shares n cycles bits (pair_bit c.squares.new.builder.ports c.squares.new.builder.given) c.args.x.now.shares c.args.y.now.shares c.in_ok-a.a.shares c.in_ok-b.b.shares c.in_ok-inverse.inverse.shares c.in_ok-sums.sums.shares c.in_ok-all.all.shares
          a.1 b.1 inverse.1 sums.1 all.1.1),
    )

pub returns-clause-rules : goal.returns-clause-rules
returns-clause-rules g c sound =
    let n = g.row.S in
    let gadget = c.args.place.gadget in
    let same = c.requires.shares in
    let few = c.args.place.size.0 in
    let some : 2 ≤ n = omega (arith, same, few) in
    let a = c.in_ok-a.a.shares in
    let b = c.in_ok-b.b.shares in
    let inverse = c.in_ok-inverse.inverse.shares in
    let sums = c.in_ok-sums.sums.shares in
    let net1 = c.copies.new.builder in
    let net2 = c.copies-2.new.builder in
    let net3 = c.inverses.new.builder in
    let net4 = c.squares.new.builder in
    let net5 = c.rows.new.builder in
    let e2 = c.in_ok-b.ensures.grown.extends in
    let e3 = c.in_ok-inverse.ensures.grown.extends in
    let e4 = c.in_ok-sums.ensures.grown.extends in
    let e5 = c.in_ok-all.ensures.grown.extends in
    let e34 = extends_trans net2 net3 net4 e3 e4 in
    let first = c.in_ok-a.ensures.rules sound (λ i. refl) in
    let second = c.in_ok-b.ensures.rules first.0 (λ i. refl) in
    let a2 = parts_later n gadget net1 net2 e2 A n a first.1 in
    let inverted = c.in_ok-inverse.ensures.rules second.0 a2 in
    let squared = c.in_ok-sums.ensures.rules inverted.0 (parts_later n gadget net2 net3 e3 A n a a2) (parts_later n gadget net2 net3 e3 B n b second.1) in
    let factors : AreFactors n gadget net4 a inverse b = record { first = parts_later n gadget net2 net4 e34 A n a a2; inverted = parts_later n gadget net3 net4 e4 Na n inverse inverted.1; second = parts_later n gadget net2 net4 e34 B n b second.1 } in
    let all = c.in_ok-all.ensures.rules squared.0 factors squared.1 in (
      all.0,
      full n gadget net5 some all.1 c.args.place.clock a inverse b sums all.0.clocked (factors_later n gadget net4 net5 a inverse b e5 factors) (parts_later n gadget net4 net5 e5 M n sums squared.1)
          (squares_later n gadget n net4 net5 e5 squared.2),
    )
