-- The signals of the ports of a masked net.
use Rattle.std.specs.Prelude.{◌≡◌, ◌+◌, ℕ, Bool, true, false, not, List, [], ◌∷◌, filter, length, reverse, slice_get, Some, IsTrue, codes}
use Rattle.std.specs.List.{flat_map}
use Rattle.agm_net.specs.Plain.{PlainNet, is_input}
use Rattle.agm_net.specs.Role.{state_name}
use Rattle.agm_net.specs.Trace.{Row, bit_at, IsTrace}
use Rattle.agm_net.specs.declared.port.Port.{Port}
use Rattle.logic_graph.specs.Settled.{bit_of}
use Rattle.share_wiring.specs.Recombine.{port_value, masked_value, recombined_rows}
use Rattle.share_wiring.specs.Schedule.{input_values}
use Rattle.share_wiring.specs.declared.report.Report.{Report}
use Rattle.share_wiring.specs.declared.report.Balance.TheVariants.{Pipe}
use Rattle.pipeline_balance.specs.Machines.{Machine}
use Rattle.pipeline_balance.specs.Signals.{Signal}
use Rattle.pipeline_balance.specs.Pipelines.{Signals, IsPipeline}

-- a value for each register: the next of the public ones, or of the secret ones where the Bool is true
abbrev pub merged : List Bool → (publics secret_ones : Row) → Row
merged [] ps ss = []
merged (true ∷ ks) ps [] = false ∷ merged ks ps []
merged (true ∷ ks) ps (x ∷ ss) = x ∷ merged ks ps ss
merged (false ∷ ks) [] ss = false ∷ merged ks [] ss
merged (false ∷ ks) (x ∷ ps) ss = x ∷ merged ks ps ss

-- what a masked net is given for the registers' initial values
abbrev pub initial_values : List Bool → Report → PlainNet → (ℕ → Bool) → Row
initial_values secrets report net bit =
    merged secrets (reverse (port_value net (codes "agm_q_p") bit)) (reverse (recombined_rows report.order (λ i. port_value net (state_name i) bit)))

-- what it has for the original's outputs, in the order of its output bits
abbrev pub output_values : PlainNet → Report → PlainNet → (ℕ → Bool) → Row
output_values original report net bit = flat_map (λ p. masked_value net report p.name bit) (filter (λ p. not (is_input p)) original.ports)

-- The signals of a masked net's ports, where those of the nodes and of the registers' outputs are given.
abbrev pub signals_of : PlainNet → List Bool → Report → PlainNet → (ℕ → ℕ → Bool) → (node state : ℕ → Signal) → Signals
signals_of original secrets report net bits node state = record {
  node = node;
  given = λ i t. bit_of (input_values original report net (bits t)) i;
  state = state;
  initial = λ r t. bit_of (initial_values secrets report net (bits t)) r;
  load = λ t. bit_of (port_value net (codes "agm_load") (bits t)) 0;
  output = λ o t. bit_of (output_values original report net (bits t)) o;
}

-- Each trace of the masked net is a run of a pipeline of the machine, whose inputs, initial values, load signal and outputs are those of
-- the net's ports.
abbrev pub IsPipelined : PlainNet → List Bool → Report → PlainNet → Machine → (level : ℕ → ℕ) → (depth : ℕ) → Type 0
IsPipelined original secrets report net m level depth =
    (power : Row) (tape table : List Row) → IsTrace net power tape table
    → (node : ℕ → Signal) × (state : ℕ → Signal) × IsPipeline m level depth (length table) (signals_of original secrets report net (bit_at table) node state)

-- the masked net has as many bits for an output as the original
abbrev pub HasWidths : PlainNet → Report → PlainNet → Type 0
HasWidths original report net =
    (n : ℕ) (p : Port) (bit : ℕ → Bool) → slice_get original.ports n ≡ Some p → IsTrue (not (is_input p)) → length (masked_value net report p.name bit) ≡ length p.bits

-- the report of a pipeline
pub record IsPipeReport (report : Report) (depth : ℕ) : Type 0 where
  pub balance_is : report.balance ≡ Pipe
  pub latency_is : report.latency ≡ depth
  pub period_is : report.period ≡ depth + 1
  pub streams_are : report.streams ≡ depth + 1
