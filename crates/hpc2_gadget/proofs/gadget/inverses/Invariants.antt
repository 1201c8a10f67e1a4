use Rattle.std.proofs.Common.{◌+◌}
use Rattle.share_wiring.specs.Wiring.{share}
use Rattle.hpc2_gadget.specs.Product.{InverseAt}
use Rattle.hpc2_gadget.specs.Grown.{Grown, Fills}
use Rattle.agm_net.specs.declared.label.PartKind.TheVariants.{A, Na}
use Rattle.hpc2_gadget.specs.Sound.{Sound, AreParts}
use Rattle.hpc2_gadget.proofs.gadget.inverses.Given as goal

abbrev pub invariant-loop-i : goal.invariant-loop-i
invariant-loop-i g l =
    Grown g.row.S l.place.gadget (33 + l.i) 0 l.initial.builder l.builder
    × Fills l.initial.builder l.builder g.row.S l.i l.shares (λ cycles bits k w. InverseAt cycles bits (share l.x.shares k) w)
    × (Sound g.row.S l.place.gadget l.place.clock l.initial.builder → AreParts g.row.S l.place.gadget l.initial.builder A g.row.S l.x.shares
    → Sound g.row.S l.place.gadget l.place.clock l.builder × AreParts g.row.S l.place.gadget l.builder Na l.i l.shares)
