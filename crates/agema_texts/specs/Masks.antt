-- What `mask` writes for a netlist, and when it is refused.
use Rattle.std.specs.Prelude.{◌≡◌, ◌≤◌, ◌<◌, ◌*◌, ◌+◌, ◌⊎◌, ◌∷◌, ℕ, Bool, true, false, List, [], length, filter, Ok, slice_get}
use Rattle.std.specs.Option.{option_map_or}
use Rattle.agm_net.specs.Network.{Hpc2, HasGadgets}
use Rattle.agm_net.specs.Plain.{PlainNet}
use Rattle.agm_net.specs.Renumbered.{Renumbered}
use Rattle.agm_net.specs.declared.mark.Mark.{Mark}
use Rattle.annotations.specs.Rules.{annotation_rules}
use Rattle.cell_library.specs.Judged.{PlainCell}
use Rattle.logic_graph.specs.Operators.{operators_of}
use Rattle.secrecy_spread.specs.Leaks.{NoneLeaks, IsFirstLeak}
use Rattle.share_wiring.specs.declared.report.Report.{Report}
use Rattle.share_wiring.specs.declared.report.Mode.TheVariants.{Naive}
use Rattle.share_wiring.specs.declared.report.Balance.TheVariants.{Pipe}
use Rattle.share_wiring.specs.ReportOf.{ReportOf}
use Rattle.share_wiring.specs.Same.{Same}
use Rattle.net_design.specs.Design.{module_of}
use Rattle.whole_networks.specs.Whole.{IsSecure}
use Rattle.masked_writer.specs.Report.{report_text}
use Rattle.verilog_reader.specs.Plain.{PlainDesign}
use Rattle.verilog_reader.specs.Grammar.{Spelled}
use Rattle.net_binding.specs.Bound.{bound}
use Rattle.agema_texts.specs.Line.{mask_line}
use Rattle.agema_texts.specs.Width.{NaiveCosts, IsWidth, IsNarrow, width_limit}
use Rattle.agema_texts.specs.Original.{IsOriginal, IsUnread, BreaksRead}
use Rattle.agema_answers.specs.declared.refusal.Refusal.{Refusal}
use Rattle.agema_answers.specs.declared.refusal.Refusal.TheVariants.{BadAnnotation, Leak, TooLarge, TooWide}

abbrev pub port_name : PlainNet → ℕ → List ℕ
port_name net n = option_map_or (λ p. p.name) (slice_get net.ports n) []

-- this is the name of the first output that is marked public and has a secret bit
abbrev pub IsLeak : PlainNet → List Mark → List ℕ → Type 0
IsLeak net marks name = (n : ℕ) × IsFirstLeak net marks n × (name ≡ port_name net n)

-- the greatest size that is masked
abbrev pub size_limit : ℕ
size_limit = 65536

-- what the limit is for: operators times shares squared
abbrev pub size_of : PlainNet → ℕ → ℕ
size_of net order = operators_of net * ((order + 1) * (order + 1))

-- the bytes of a netlist give a net, without a library
abbrev pub GivesNet : List ℕ → PlainNet → Type 0
GivesNet bytes net = (design : PlainDesign) × Spelled bytes design × (bound [] design ≡ Ok net)

-- the bytes spell one module, that of the net with its wires in some order
abbrev pub SpellsModule : List ℕ → PlainNet → Type 0
SpellsModule bytes net = (other : PlainNet) × Renumbered other net × Spelled bytes (module_of other ∷ [])

-- What is written for an original: OUT spells a design that binds to a masked net, which computes what the original does. That is one
-- module `agm_top`, in which the clock's port alone is marked. The net is an HPC2 network of the order, with as many gadgets as the naive
-- mode costs: its probes isolate, and tell nothing of the secrets. The report's file and the printed line are those of a report of the
-- original.
pub record MasksNet (original : PlainNet) (marks : List Mark) (order : ℕ) (out file line : List ℕ) : Type 0 where
  pub masked : PlainNet
  pub report : Report
  pub gadgets : ℕ
  pub latency : ℕ
  pub costs : NaiveCosts original marks gadgets latency
  pub gives : GivesNet out masked
  pub one_module : SpellsModule out masked
  pub reported : ReportOf original marks order Naive Pipe gadgets latency report
  pub file_is : file ≡ report_text report
  pub line_is : line ≡ mask_line report
  pub same : Same original marks report masked
  pub network : Hpc2 masked order
  pub counted : HasGadgets masked order gadgets
  pub secure : IsSecure masked order

-- The first half of the program's theorem: over the cells, the bytes give an original without a leak and within the limits, and this is
-- what is written for it.
pub record Masks (cells : List PlainCell) (bytes : List ℕ) (order : ℕ) (out file line : List ℕ) : Type 0 where
  pub original : PlainNet
  pub marks : List Mark
  pub is_original : IsOriginal cells bytes original marks
  pub no_leak : NoneLeaks original marks
  pub fits : size_of original order ≤ size_limit
  pub narrow : IsNarrow original marks order
  pub masks : MasksNet original marks order out file line

-- the bytes give an original without a leak and within the limits
abbrev pub IsWithin : List PlainCell → List ℕ → ℕ → Type 0
IsWithin cells bytes order =
    (net : PlainNet) × (marks : List Mark) × IsOriginal cells bytes net marks × NoneLeaks net marks × (size_of net order ≤ size_limit) × IsNarrow net marks order

-- the same, on whatever graph of the net its width is read
abbrev pub CanMask : List PlainCell → List ℕ → ℕ → Type 0
CanMask cells bytes order =
    (net : PlainNet) × (marks : List Mark) × IsOriginal cells bytes net marks × NoneLeaks net marks × (size_of net order ≤ size_limit)
    × ((bits : ℕ) → IsWidth net marks order bits → bits ≤ width_limit)

-- Why bytes are not masked: they give no net without a loop, a rule of annotations is broken, an output leaks, the net is too large, or
-- the masked net would be too wide.
abbrev pub IsUnmasked : List PlainCell → List ℕ → ℕ → Refusal → Type 0
IsUnmasked cells bytes order (BadAnnotation fault) = BreaksRead annotation_rules cells bytes fault
IsUnmasked cells bytes order (Leak name) = (net : PlainNet) × (marks : List Mark) × IsOriginal cells bytes net marks × IsLeak net marks name
IsUnmasked cells bytes order (TooLarge operators) =
    (net : PlainNet) × (marks : List Mark) × IsOriginal cells bytes net marks × NoneLeaks net marks × (operators ≡ operators_of net) × (size_limit < size_of net order)
IsUnmasked cells bytes order (TooWide bits) =
    (net : PlainNet) × (marks : List Mark) × IsOriginal cells bytes net marks × NoneLeaks net marks × (size_of net order ≤ size_limit)
    × IsWidth net marks order bits × (width_limit < bits)
IsUnmasked cells bytes order refusal = IsUnread cells bytes refusal
