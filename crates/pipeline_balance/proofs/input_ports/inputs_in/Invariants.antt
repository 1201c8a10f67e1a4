use Rattle.std.proofs.Common.{take}
use Rattle.pipeline_balance.specs.Entering.{Enters, headers_for, kinds_for, values_for}
use Rattle.pipeline_balance.proofs.EnteringInputs.{data_inputs}
use Rattle.pipeline_balance.proofs.input_ports.inputs_in.Given as goal

abbrev pub invariant-loop-k : goal.invariant-loop-k
invariant-loop-k g l =
    Enters g.row.S l.initial.builder l.builder (headers_for l.report (data_inputs l.net.clock (take l.k l.ports)))
    (kinds_for l.report (data_inputs l.net.clock (take l.k l.ports))) (values_for l.report (data_inputs l.net.clock (take l.k l.ports))) l.inputs
