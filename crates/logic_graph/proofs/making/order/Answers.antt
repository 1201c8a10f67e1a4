use Rattle.std.proofs.Common.{◌≤◌, map, sym, subst}
use Rattle.agm_net.specs.Plain.{line_of}
use Rattle.agm_net.specs.View.{plain_of}
use Rattle.logic_graph.specs.Searching.{TellsLoopIn}
use Rattle.logic_graph.proofs.NetParts.{tells_loop}
use Rattle.std.proofs.Common.{count_by, ◌==◌}
use Rattle.agm_net.proofs.Driving.{line_once}
use Rattle.logic_graph.proofs.making.order.Goals as goal

pub sort-sorted-requires-clause-once : goal.sort-sorted-requires-clause-once
sort-sorted-requires-clause-once c = λ w. subst (λ es. count_by (λ l. l.0 == w) (map line_of es) ≤ 1) (sym c.as_slice.ensures) (line_once (plain_of c.args.net.now) c.args.net.now.well_formed w)

pub returns-in-Err-clause-looped : goal.returns-in-Err-clause-looped
returns-in-Err-clause-looped c = tells_loop (plain_of c.args.net.now) c.in-Err.fault (subst (λ es. TellsLoopIn (map line_of es) c.in-Err.fault) c.as_slice.ensures c.in-Err.ensures.err)
