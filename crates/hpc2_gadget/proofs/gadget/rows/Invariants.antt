use Rattle.std.proofs.Common.{◌+◌, ◌*◌}
use Rattle.hpc2_gadget.specs.Product.{RowsFact, pair_bit}
use Rattle.hpc2_gadget.specs.Grown.{Grown, Makes, triangle}
use Rattle.agm_net.specs.declared.label.PartKind.TheVariants.{M}
use Rattle.hpc2_gadget.specs.Sound.{Sound, AreFactors, AreParts, IsStarted, HasRows}
use Rattle.hpc2_gadget.proofs.gadget.rows.Given as goal

abbrev pub invariant-loop-j : goal.invariant-loop-j
invariant-loop-j g l =
    Grown g.row.S l.place.gadget (97 + l.j * 320) (triangle l.j) l.initial.builder l.builder
    × Makes l.initial.builder l.builder g.row.S l.all.shares (λ cycles bits. RowsFact g.row.S l.j cycles bits (pair_bit l.initial.builder.ports l.initial.builder.given) l.a.shares l.inverse.shares l.b.shares l.sums.shares l.all.shares)
    × (Sound g.row.S l.place.gadget l.place.clock l.initial.builder → AreFactors g.row.S l.place.gadget l.initial.builder l.a.shares l.inverse.shares l.b.shares
    → AreParts g.row.S l.place.gadget l.initial.builder M g.row.S l.sums.shares
    → Sound g.row.S l.place.gadget l.place.clock l.builder × IsStarted g.row.S l.place.gadget l.builder l.j l.all.shares × HasRows g.row.S l.place.gadget l.builder l.j)
