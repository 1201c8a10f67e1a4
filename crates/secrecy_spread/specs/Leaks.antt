-- Outputs that are marked public and have a secret bit.
use Rattle.std.specs.Prelude.{◌≡◌, ◌<◌, ℕ, List, Option, Some, None, slice_get}
use Rattle.std.specs.List.{Any}
use Rattle.agm_net.specs.Plain.{PlainNet}
use Rattle.agm_net.specs.Secret.{IsSecret}
use Rattle.agm_net.specs.declared.mark.Mark.{Mark}
use Rattle.agm_net.specs.declared.mark.Mark.TheVariants.{Public}
use Rattle.agm_net.specs.declared.port.Way.TheVariants.{Output}
use Rattle.agm_net.specs.declared.port.Port.{Port}
use Rattle.secrecy_spread.specs.declared.fault.SpreadFault.{SpreadFault}
use Rattle.secrecy_spread.specs.declared.fault.SpreadFault.TheVariants.{Leak, Memory}

-- port n leaks: it is an output that is marked public, and has a secret bit
abbrev pub Leaks : PlainNet → List Mark → ℕ → Type 0
Leaks net marks n =
    (p : Port) × (slice_get net.ports n ≡ Some p) × (slice_get marks n ≡ Some Public) × (p.way ≡ Output) × Any (IsSecret net marks) p.bits

abbrev pub NoneLeaks : PlainNet → List Mark → Type 0
NoneLeaks net marks = (n : ℕ) → Leaks net marks n → Prim.⊥

abbrev pub IsFirstLeak : PlainNet → List Mark → ℕ → Type 0
IsFirstLeak net marks n = Leaks net marks n × ((j : ℕ) → j < n → Leaks net marks j → Prim.⊥)

-- a fault that names a port names the first that leaks
abbrev pub TellsLeak : PlainNet → List Mark → SpreadFault → Type 0
TellsLeak net marks (Leak port) = IsFirstLeak net marks port
TellsLeak net marks Memory = Unit {0}

-- the first port that leaks, if there is one
abbrev pub TellsPort : PlainNet → List Mark → Option ℕ → Type 0
TellsPort net marks None = NoneLeaks net marks
TellsPort net marks (Some n) = IsFirstLeak net marks n
