-- A finished net is a pipeline where a builder's wires are.
use Rattle.std.proofs.Common.{◌<◌, ◌+◌, ℕ, Bool, List, length, IsTrue, ap₂, ◌∙◌, arith}
use Rattle.std.proofs.lemmas.Bool.{ltb-true}
use Rattle.agm_net.specs.Plain.{PlainNet}
use Rattle.agm_net.specs.Trace.{bit_at}
use Rattle.logic_graph.specs.declared.nodes.XanNode.{XanNode}
use Rattle.logic_graph.specs.declared.nodes.XanNode.TheVariants.{Zero, One, Input, Q, Not, Xor, And}
use Rattle.share_wiring.specs.Wiring.{Wiring}
use Rattle.share_wiring.specs.Adds.{AddsFact}
use Rattle.share_wiring.specs.declared.report.Report.{Report}
use Rattle.level_plan.specs.Passes.{has_source}
use Rattle.pipeline_balance.specs.Machines.{Machine, IsMachine, next_node}
use Rattle.pipeline_balance.specs.Signals.{selected}
use Rattle.pipeline_balance.specs.Pipelines.{Signals, IsMade, IsClosed, IsPipeline}
use Rattle.pipeline_balance.specs.Masked.{signals_of, IsPipelined}
use Rattle.pipeline_balance.specs.Assembled.{SamePorts, Finishes, HasPortSignals}

-- signals with other ports
abbrev with_ports : Signals → Signals → Signals
with_ports s u = record { node = s.node; given = u.given; state = s.state; initial = u.initial; load = u.load; output = u.output }

module _ (m : Machine) (level : ℕ → ℕ) (depth cycles : ℕ) (s u : Signals) (machine : IsMachine m) (same : SamePorts m cycles s u) (pipeline : IsPipeline m level depth cycles s) where
  made_too : (k : ℕ) (n : XanNode) → IsTrue (has_source m.inputs m.registers n) → IsMade cycles level s k n → IsMade cycles level (with_ports s u) k n
  made_too k Zero known made = made
  made_too k One known made = made
  made_too k (Input i) known made = (made.0, λ t lt. made.1 t lt ∙ same.given i t (ltb-true i m.inputs known) lt)
  made_too k (Q r) known made = made
  made_too k (Not a) known made = made
  made_too k (Xor a b) known made = made
  made_too k (And a b) known made = made

  closed_too : (r : ℕ) → r < m.registers → IsClosed cycles depth level s (next_node m r) r → IsClosed cycles depth level (with_ports s u) (next_node m r) r
  closed_too r known closed = record {
    late = closed.late;
    late_is = closed.late_is;
    stores = λ t lt. closed.stores t lt ∙ ap₂ (λ a b. selected a b (closed.late t)) (same.load t (omega arith)) (same.initial r t known (omega arith));
  }

  pipeline_too : IsPipeline m level depth cycles (with_ports s u)
  pipeline_too = record {
    made = λ k n at. made_too k n (machine.sourced k n at) (pipeline.made k n at);
    closed = λ r known. closed_too r known (pipeline.closed r known);
    led_out = λ o known. (
        let led = pipeline.led_out o known in
        record { not_before = led.not_before; same = λ t lt. same.output o (t + depth) known lt ∙ led.same t lt });
  }

pub assembled : (original : PlainNet) (secrets : List Bool) (report : Report) (net : PlainNet) (m : Machine) (level : ℕ → ℕ) (depth : ℕ) (start final : Wiring) (built : (ℕ → ℕ → Bool) → Signals)
    → IsMachine m → AddsFact start final (λ cycles bits. IsPipeline m level depth cycles (built bits)) → Finishes final net → HasPortSignals original secrets report net m final built
    → IsPipelined original secrets report net m level depth
assembled original secrets report net m level depth start final built machine adds finishes ports power tape table trace =
    let run = finishes power tape table trace in
    let made = adds (length table) (bit_at table) run in
    let bits = bit_at table in
    let s = built bits in (
      s.node,
      s.state,
      pipeline_too m level depth (length table) s (signals_of original secrets report net bits s.node s.state) machine (ports (length table) bits run) made.1,
    )
