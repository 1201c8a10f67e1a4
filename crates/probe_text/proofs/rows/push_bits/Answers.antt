use Rattle.std.proofs.Common.{◌+◌, take}
use Rattle.cycle_sim.proofs.NodeValues.{bit_more}
use Rattle.sim_text.specs.Text.{digit}
use Rattle.probe_text.proofs.Texts.{mapped_more}
use Rattle.probe_text.proofs.rows.push_bits.Goals as goal

pub loop-k-preserved : goal.loop-k-preserved
loop-k-preserved c =
    let row = c.args.row.now in
    let bit = c.get.result in
    mapped_more digit c.args.text.now c.loop-k.text c.push.new.self (take c.loop-k.k row) (take (c.loop-k.k + 1) row) bit
    (bit_more row c.loop-k.k bit c.get.ensures) c.loop-k.invariant (rw (← c.digit_of.ensures) c.in_ok-push.ensures.ok)
