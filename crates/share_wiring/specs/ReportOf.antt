-- What a report says of a masked net.
use Rattle.std.specs.Prelude.{◌≡◌, ◌+◌, ◌*◌, ◌/◌, ℕ, Bool, not, List, [], ◌∷◌, ◌⊎◌, count_by}
use Rattle.std.specs.List.{Any}
use Rattle.agm_net.specs.Plain.{PlainNet}
use Rattle.agm_net.specs.Secret.{IsSecret}
use Rattle.agm_net.specs.declared.mark.Mark.{Mark}
use Rattle.agm_net.specs.declared.mark.Mark.TheVariants.{Secure}
use Rattle.agm_net.specs.declared.port.Way.TheVariants.{Output}
use Rattle.agm_net.specs.declared.port.Port.{Port}
use Rattle.share_wiring.specs.Same.{TellsSecrets}
use Rattle.share_wiring.specs.declared.report.Report.{Report}
use Rattle.share_wiring.specs.declared.report.Mode.{Mode}
use Rattle.share_wiring.specs.declared.report.Balance.{Balance}
use Rattle.share_wiring.specs.declared.report.Balance.TheVariants.{Pipe, Gate}

-- A port is shared where it is marked secure, or is an output with a secret bit.
abbrev pub IsShared : PlainNet → List Mark → Port → Mark → Type 0
IsShared net marks p m = (m ≡ Secure) ⊎ ((p.way ≡ Output) × Any (IsSecret net marks) p.bits)

-- the names of the shared ones of some ports with their marks, in order
pub data SharedNames (net : PlainNet) (marks : List Mark) : List Port → List Mark → List (List ℕ) → Type 0 where
  none : SharedNames net marks [] [] []
  shared : {p : Port} {m : Mark} {ps : List Port} {ms : List Mark} {names : List (List ℕ)} → IsShared net marks p m → SharedNames net marks ps ms names → SharedNames net marks (p ∷ ps) (m ∷ ms) (p.name ∷ names)
  public : {p : Port} {m : Mark} {ps : List Port} {ms : List Mark} {names : List (List ℕ)} → (IsShared net marks p m → Prim.⊥) → SharedNames net marks ps ms names → SharedNames net marks (p ∷ ps) (m ∷ ms) names

-- how many streams are in flight
abbrev pub streams_of : Balance → ℕ → ℕ
streams_of Pipe period = period
streams_of Gate period = 1

-- A report of a net that is masked with this many gadgets and this latency.
pub record ReportOf (net : PlainNet) (marks : List Mark) (order : ℕ) (mode : Mode) (balance : Balance) (gadgets latency : ℕ) (report : Report) : Type 0 where
  pub order_is : report.order ≡ order
  pub mode_is : report.mode ≡ mode
  pub balance_is : report.balance ≡ balance
  pub gadgets_are : report.gadgets ≡ gadgets
  pub random_is : report.random ≡ gadgets * order * (order + 1) / 2
  pub latency_is : report.latency ≡ latency
  pub period_is : report.period ≡ latency + 1
  pub streams_are : report.streams ≡ streams_of balance (latency + 1)
  pub registers_are : (secrets : List Bool) → TellsSecrets net marks secrets → (report.secret_registers ≡ count_by (λ s. s) secrets) × (report.public_registers ≡ count_by not secrets)
  pub ports_are : SharedNames net marks net.ports marks report.ports
