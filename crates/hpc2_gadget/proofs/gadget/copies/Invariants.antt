use Rattle.std.proofs.Common.{◌+◌}
use Rattle.share_wiring.specs.Wiring.{share}
use Rattle.hpc2_gadget.specs.Order.{rank}
use Rattle.hpc2_gadget.specs.Product.{SameAt}
use Rattle.hpc2_gadget.specs.Grown.{Grown, Fills}
use Rattle.std.proofs.Common.{◌≡◌, ◌-◌, ℕ}
use Rattle.agm_net.specs.Network.{recipe, a_share}
use Rattle.hpc2_gadget.specs.Sound.{Sound, AreParts}
use Rattle.hpc2_gadget.proofs.gadget.copies.Given as goal

abbrev pub invariant-loop-i : goal.invariant-loop-i
invariant-loop-i g l =
    Grown g.row.S l.place.gadget (rank g.row.S l.kind 0 0 + l.i) 0 l.initial.builder l.builder
    × Fills l.initial.builder l.builder g.row.S l.i l.shares (λ cycles bits k w. SameAt cycles bits (share l.x.shares k) w)
    × (Sound g.row.S l.place.gadget l.place.clock l.initial.builder → ((i : ℕ) → recipe (g.row.S - 1) l.place.gadget l.kind i 0 ≡ a_share i)
    → Sound g.row.S l.place.gadget l.place.clock l.builder × AreParts g.row.S l.place.gadget l.builder l.kind l.i l.shares)
