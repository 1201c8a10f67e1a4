use Rattle.std.proofs.Common.{◌+◌, ◌*◌}
use Rattle.share_wiring.specs.Wiring.{share}
use Rattle.hpc2_gadget.specs.Product.{SquareAt}
use Rattle.hpc2_gadget.specs.Grown.{Grown, Fills}
use Rattle.agm_net.specs.declared.label.PartKind.TheVariants.{A, B, M}
use Rattle.hpc2_gadget.specs.Sound.{Sound, AreParts, HasSquares}
use Rattle.hpc2_gadget.proofs.gadget.squares.Given as goal

abbrev pub invariant-loop-i : goal.invariant-loop-i
invariant-loop-i g l =
    Grown g.row.S l.place.gadget (49 + l.i * 3) 0 l.initial.builder l.builder
    × Fills l.initial.builder l.builder g.row.S l.i l.shares (λ cycles bits k w. SquareAt cycles bits (share l.a.shares k) (share l.b.shares k) w)
    × (Sound g.row.S l.place.gadget l.place.clock l.initial.builder → AreParts g.row.S l.place.gadget l.initial.builder A g.row.S l.a.shares
    → AreParts g.row.S l.place.gadget l.initial.builder B g.row.S l.b.shares
    → Sound g.row.S l.place.gadget l.place.clock l.builder × AreParts g.row.S l.place.gadget l.builder M l.i l.shares × HasSquares g.row.S l.place.gadget l.builder l.i)
