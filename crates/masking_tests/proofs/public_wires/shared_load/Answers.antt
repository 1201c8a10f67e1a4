use Rattle.std.proofs.Common.{arith}
use Rattle.masking_tests.proofs.public_wires.shared_load.Goals as goal

pub and_public-requires : goal.and_public-requires
and_public-requires c =
    (omega arith, (c.in_ok-load.ensures.extends.publics 1 c.in_ok-builder.ensures, (c.in_ok-load.ensures.shares, (omega arith, omega arith))))
