use Rattle.std.proofs.Common.{◌<◌, length, Some, sym, ◌∙◌, arith}
use Rattle.agm_net.specs.Plain.{bit_names}
use Rattle.agm_net.proofs.Named.{length-names, name-at}
use Rattle.share_wiring.proofs.bits.bit_name.Goals as goal

pub select_name-requires : goal.select_name-requires
select_name-requires c =
    let within : c.args.i < length (bit_names c.args.name.now (Some c.in-Some.range)) = rw c.in-Some.is at c.requires in
    let many = length-names c.args.name.now c.in-Some.range in omega (arith, within, many)

pub returns-in_ok-own-in-Some : goal.returns-in_ok-own-in-Some
returns-in_ok-own-in-Some c =
    let within : c.args.i < length (bit_names c.args.name.now (Some c.in-Some.range)) = rw c.in-Some.is at c.requires in
    let many = length-names c.args.name.now c.in-Some.range in
    rw c.in-Some.is (c.in_ok-own-in-Some.ensures ∙ sym (name-at c.args.name.now c.in-Some.range c.args.i (omega (arith, within, many))))
