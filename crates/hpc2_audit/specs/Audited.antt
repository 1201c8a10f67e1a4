-- What an audit tells of a net.
use Rattle.std.specs.Prelude.{◌≡◌, ◌<◌, ℕ, List, length, slice_index_or}
use Rattle.agm_net.specs.Label.{HasLabel}
use Rattle.agm_net.specs.Loop.{HasNoLoop, IsLoop}
use Rattle.agm_net.specs.Network.{HasGadgets, Hpc2, Keeps}
use Rattle.agm_net.specs.Plain.{PlainNet}
use Rattle.agm_net.specs.declared.label.Label.{Label}
use Rattle.agm_net.specs.declared.label.Label.TheVariants.{Clock}
use Rattle.logic_graph.specs.declared.ordering.GraphFault.{GraphFault}
use Rattle.logic_graph.specs.declared.ordering.GraphFault.TheVariants as graph
use Rattle.hpc2_audit.specs.Rules.{HasSomeLabel, KeepsClock, KeepsMade, KeepsNumber, KeepsPorts, KeepsReads}
use Rattle.hpc2_audit.specs.declared.verdict.AuditFault.{AuditFault}
use Rattle.hpc2_audit.specs.declared.verdict.AuditFault.TheVariants.{Loop, NotHpc2, Memory}
use Rattle.hpc2_audit.specs.declared.verdict.Audited.{Audited}

-- all rules but that on whole gadgets
abbrev pub KeepsOwn : PlainNet → ℕ → ℕ → Type 0
KeepsOwn net d w =
    HasSomeLabel net d w × KeepsPorts net d w × KeepsReads net d w × KeepsMade net d w × KeepsClock net d w × KeepsNumber net d w

-- all wires keep all rules
abbrev pub AllKeep : PlainNet → ℕ → Type 0
AllKeep net d = (w : ℕ) → w < length net.wires → Keeps net d w

-- a wire breaks a rule, and none before it does
pub record IsFirstBroken (net : PlainNet) (d w : ℕ) : Type 0 where
  pub wire : w < length net.wires
  pub broken : Keeps net d w → Prim.⊥
  pub first : (v : ℕ) → v < w → Keeps net d v

-- a list has the label of each wire
pub record AreLabels (net : PlainNet) (d : ℕ) (labels : List Label) : Type 0 where
  pub as_many : length labels ≡ length net.wires
  pub told : (w : ℕ) → w < length net.wires → HasLabel net d w (slice_index_or labels w Clock)

-- An HPC2 network of an order, the number of its gadgets, and the label of each wire.
pub record IsAudited (net : PlainNet) (d : ℕ) (audited : Audited) : Type 0 where
  pub network : Hpc2 net d
  pub order : audited.order ≡ d
  pub gadgets : HasGadgets net d audited.gadgets
  pub labels : AreLabels net d audited.labels

-- why a net is no HPC2 network of an order: a loop, which is asked for first, or the first wire that breaks a rule
abbrev pub Refuses : PlainNet → ℕ → AuditFault → Type 0
Refuses net d (Loop wires) = IsLoop net wires
Refuses net d (NotHpc2 wire) = HasNoLoop net × IsFirstBroken net d wire
Refuses net d Memory = Unit {0}

abbrev pub from_graph : GraphFault → AuditFault
from_graph (graph.Loop wires) = Loop wires
from_graph graph.Memory = Memory
