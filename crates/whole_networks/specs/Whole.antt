-- When the nets that masking gives are whole.
use Rattle.std.specs.Prelude.{◌<◌, ◌^◌, ℕ, length}
use Rattle.std.specs.List.{AllByRecursion}
use Rattle.agm_net.specs.Label.{IsUserName}
use Rattle.agm_net.specs.Network.{Hpc2}
use Rattle.agm_net.specs.Plain.{PlainNet, data_ports}
use Rattle.agm_net.specs.WellFormed.{WellFormed}
use Rattle.agm_net.specs.declared.port.Port.{Port}
use Rattle.share_wiring.specs.Built.{AreDistinct}
use Rattle.share_wiring.specs.Shape.{Shape}
use Rattle.share_wiring.specs.declared.report.Report.{Report}
use Rattle.std.specs.Prelude.{map}
use Rattle.pipeline_balance.specs.Apart.{HasNames}
use Rattle.twin_tape.specs.Security.{IsWhole, Pini, Blind}

-- a port whose name is not empty and none that a masked net gives a meaning
abbrev pub HasUserName : Port → Type 0
HasUserName p = IsUserName p.name × (0 < length p.name)

-- a net with the ports of a masked net, of an original whose ports have such names, all different
pub record IsMaskedNet (original : PlainNet) (report : Report) (net : PlainNet) : Type 0 where
  pub well : WellFormed net
  pub shape : Shape original report net
  pub users : AllByRecursion HasUserName (data_ports original)
  pub differ : AreDistinct (map (λ p. p.name) (data_ports original))
  pub few : report.order < 2 ^ 32

abbrev pub MaskedNetsAreWhole : Type 0
MaskedNetsAreWhole = (original : PlainNet) (report : Report) (net : PlainNet) → IsMaskedNet original report net → IsWhole net report.order

-- at order d probes isolate, and tell nothing of the secrets
pub record IsSecure (net : PlainNet) (d : ℕ) : Type 0 where
  pub isolates : Pini net d
  pub blind : Blind net d

abbrev pub MaskedNetworksAreSecure : Type 0
MaskedNetworksAreSecure = (original : PlainNet) (report : Report) (net : PlainNet) → IsMaskedNet original report net → Hpc2 net report.order → IsSecure net report.order

-- the same of an original with the names that masking wants
abbrev pub NamedNetworksAreSecure : Type 0
NamedNetworksAreSecure = (original : PlainNet) (report : Report) (net : PlainNet) → HasNames original → report.order < 2 ^ 32 → WellFormed net → Shape original report net → Hpc2 net report.order → IsSecure net report.order
