-- What masked networks keep where their wires are renumbered.
use Rattle.std.specs.Prelude.{ℕ}
use Rattle.agm_net.specs.Network.{Hpc2, HasGadgets}
use Rattle.agm_net.specs.Plain.{PlainNet}
use Rattle.agm_net.specs.Renumbered.{Renumbered}
use Rattle.agm_net.specs.WellFormed.{WellFormed}
use Rattle.share_wiring.specs.declared.report.Report.{Report}
use Rattle.whole_networks.specs.Whole.{IsMaskedNet, IsSecure}

abbrev pub RenumberedIsNet : Type 0
RenumberedIsNet = (net other : PlainNet) → WellFormed net → Renumbered net other → WellFormed other

abbrev pub RenumberedIsNetwork : Type 0
RenumberedIsNetwork = (net other : PlainNet) (d : ℕ) → Hpc2 net d → Renumbered net other → Hpc2 other d

abbrev pub RenumberedHasGadgets : Type 0
RenumberedHasGadgets = (net other : PlainNet) (d n : ℕ) → HasGadgets net d n → Renumbered net other → HasGadgets other d n

abbrev pub RenumberedIsMasked : Type 0
RenumberedIsMasked = (original : PlainNet) (report : Report) (net other : PlainNet) → IsMaskedNet original report net → Renumbered net other → IsMaskedNet original report other

abbrev pub RenumberedIsSecure : Type 0
RenumberedIsSecure =
    (original : PlainNet) (report : Report) (net other : PlainNet) → IsMaskedNet original report net → Hpc2 net report.order → Renumbered net other → IsSecure other report.order
