use Rattle.agm_net.specs.View.{plain_of}
use Rattle.annotations.proofs.Reached.{clock_bit_fits}
use Rattle.annotations.proofs.spread.mark_bits.Goals as goal

pub mark_clock-requires-clause-within : goal.mark_clock-requires-clause-within
mark_clock-requires-clause-within c = clock_bit_fits (plain_of c.args.net.now) c.args.bits.now c.loop-bit.bit-index c.requires.bits c.args.net.now.well_formed.ports_right c.loop-bit-test.true
