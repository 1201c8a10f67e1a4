-- The report of a pipeline.
use Rattle.std.specs.Prelude.{◌+◌, ◌*◌, ◌/◌, ◌++◌, ◌∷◌, [], ℕ, Bool, not, cond, List, count_by}
use Rattle.agm_net.specs.declared.port.Port.{Port}
use Rattle.secrecy_spread.specs.declared.secrets.Secrets.{Secrets}
use Rattle.level_plan.specs.declared.plans.Plan.{Plan}
use Rattle.share_wiring.specs.declared.report.Report.{Report}
use Rattle.share_wiring.specs.declared.report.Mode.{Mode}
use Rattle.share_wiring.specs.declared.report.Balance.TheVariants.{Pipe}

-- the names of the ports with a flag
abbrev pub flagged_names : List Bool → List Port → List (List ℕ)
flagged_names [] ps = []
flagged_names (f ∷ fs) [] = []
flagged_names (f ∷ fs) (p ∷ ps) = cond f (p.name ∷ []) [] ++ flagged_names fs ps

abbrev pub pipe_report : Secrets → Plan → List Port → Mode → ℕ → Report
pipe_report secrets plan ports mode order = record {
  order = order;
  mode = mode;
  balance = Pipe;
  gadgets = plan.gadgets;
  random = plan.gadgets * order * (order + 1) / 2;
  latency = plan.depth;
  period = plan.depth + 1;
  streams = plan.depth + 1;
  public_registers = count_by not secrets.registers;
  secret_registers = count_by (λ s. s) secrets.registers;
  ports = flagged_names secrets.ports ports;
}
