use Rattle.agm_net.proofs.InOrder.{no_loop_in_order}
use Rattle.agm_net.proofs.laws.order_has_no_loop.Goals as goal

pub returns : goal.returns
returns c = no_loop_in_order
