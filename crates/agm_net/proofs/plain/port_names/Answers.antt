use Rattle.agm_net.proofs.PlainForm.{names_more}
use Rattle.agm_net.proofs.plain.port_names.Goals as goal

pub loop-port-preserved : goal.loop-port-preserved
loop-port-preserved c = λ name.
    names_more c.loop-port.names c.args.ports.now c.loop-port.port-index c.port-item.result c.as_slice.result.now c.add.new.self c.in_ok-add.field-0.is_new c.loop-port-test.true c.port-item.is
    c.as_slice.ensures c.in_ok-add.ensures.fresh c.in_ok-add.ensures.added name (c.loop-port.invariant name)
