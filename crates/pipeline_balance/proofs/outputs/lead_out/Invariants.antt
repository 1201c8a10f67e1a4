use Rattle.std.proofs.Common.{take, drop, filter}
use Rattle.agm_net.specs.Plain.{is_input}
use Rattle.pipeline_balance.proofs.LeavingLists.{data_from, outputs}
use Rattle.pipeline_balance.proofs.LeavingOrder.{Leading}
use Rattle.pipeline_balance.proofs.outputs.lead_out.Given as goal

abbrev pub invariant-loop-k : goal.invariant-loop-k
invariant-loop-k g l =
    Leading g.row.S l.report l.values l.initial.builder l.builder l.place l.at (data_from l.net.clock 0 (take l.k l.ports)) (outputs (data_from l.net.clock 0 (take l.k l.ports)))
    (filter is_input (data_from l.net.clock l.k (drop l.k l.ports)))
