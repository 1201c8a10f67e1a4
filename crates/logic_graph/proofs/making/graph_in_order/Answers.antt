use Rattle.std.proofs.Common.{sym, subst}
use Rattle.agm_net.specs.View.{plain_of}
use Rattle.logic_graph.specs.Made.{IsSound}
use Rattle.logic_graph.proofs.NetDrawing.{net_is_sound}
use Rattle.logic_graph.proofs.NetOrdered.{ordered}
use Rattle.logic_graph.proofs.making.graph_in_order.Goals as goal

pub make_graph-requires : goal.make_graph-requires
make_graph-requires c = subst (IsSound (plain_of c.args.net.now)) (sym c.in_ok-drawing.ensures) (net_is_sound (plain_of c.args.net.now) c.args.order.now c.args.net.now.well_formed c.requires)

pub returns : goal.returns
returns c = ordered (plain_of c.args.net.now) c.args.order.now c.in_ok-drawing.drawing c.make_graph.result c.args.net.now.well_formed c.requires c.in_ok-drawing.ensures c.make_graph.ensures
