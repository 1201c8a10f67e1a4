-- From the signals of a builder's wires to those of a finished net's ports.
use Rattle.std.specs.Prelude.{◌≡◌, ◌<◌, ℕ, Bool, List, length}
use Rattle.agm_net.specs.Plain.{PlainNet}
use Rattle.agm_net.specs.Trace.{Row, bit_at, IsTrace}
use Rattle.share_wiring.specs.Wiring.{Wiring, IsRun}
use Rattle.share_wiring.specs.declared.report.Report.{Report}
use Rattle.pipeline_balance.specs.Machines.{Machine}
use Rattle.pipeline_balance.specs.Pipelines.{Signals}
use Rattle.pipeline_balance.specs.Masked.{signals_of}

-- Signals of the same nodes and registers, whose inputs, initial values, load signal and outputs are the same in each cycle of a run.
pub record SamePorts (m : Machine) (cycles : ℕ) (s u : Signals) : Type 0 where
  pub given : (i t : ℕ) → i < m.inputs → t < cycles → s.given i t ≡ u.given i t
  pub initial : (r t : ℕ) → r < m.registers → t < cycles → s.initial r t ≡ u.initial r t
  pub load : (t : ℕ) → t < cycles → s.load t ≡ u.load t
  pub output : (o t : ℕ) → o < m.outputs → t < cycles → u.output o t ≡ s.output o t

-- the traces of a finished net are runs of a builder's wires
abbrev pub Finishes : Wiring → PlainNet → Type 0
Finishes final net = (power : Row) (tape table : List Row) → IsTrace net power tape table → IsRun final.wires (length table) (bit_at table)

-- in each run of a builder's wires its signals are those of a net's ports
abbrev pub HasPortSignals : PlainNet → List Bool → Report → PlainNet → Machine → Wiring → ((ℕ → ℕ → Bool) → Signals) → Type 0
HasPortSignals original secrets report net m final built =
    (cycles : ℕ) (bits : ℕ → ℕ → Bool) → IsRun final.wires cycles bits → SamePorts m cycles (built bits) (signals_of original secrets report net bits (built bits).node (built bits).state)
