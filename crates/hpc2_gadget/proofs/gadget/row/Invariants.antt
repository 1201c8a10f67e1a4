use Rattle.std.proofs.Common.{◌+◌, ◌*◌}
use Rattle.hpc2_gadget.specs.Product.{RowFact, random_bit}
use Rattle.hpc2_gadget.specs.Grown.{Grown, Makes}
use Rattle.hpc2_gadget.specs.Sound.{Sound, AreFactors, IsStarted, IsUnderWay, HasRow}
use Rattle.hpc2_gadget.proofs.gadget.row.Given as goal

abbrev pub invariant-loop-i : goal.invariant-loop-i
invariant-loop-i g l =
    Grown g.row.S l.place.gadget (97 + (l.j * 320 + l.i * 20)) l.i l.initial.builder l.builder
    × Makes l.initial.builder l.builder g.row.S l.shares (λ cycles bits. RowFact g.row.S l.j l.i cycles bits (λ i. random_bit l.initial.builder.ports (l.initial.builder.given + i)) l.a.shares l.inverse.shares l.b.shares l.sums.shares l.shares)
    × (Sound g.row.S l.place.gadget l.place.clock l.initial.builder → AreFactors g.row.S l.place.gadget l.initial.builder l.a.shares l.inverse.shares l.b.shares
    → IsStarted g.row.S l.place.gadget l.initial.builder l.j l.sums.shares
    → Sound g.row.S l.place.gadget l.place.clock l.builder × IsUnderWay g.row.S l.place.gadget l.builder l.j l.i l.shares × HasRow g.row.S l.place.gadget l.builder l.j l.i)
