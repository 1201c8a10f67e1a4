-- When each answer of a run comes.
use Rattle.std.specs.Prelude.{◌≡◌, ◌⊎◌, ◌++◌, ℕ, List, IsTrue, codes}
use Rattle.agm_net.specs.Plain.{PlainNet}
use Rattle.agm_shelf.specs.Shelf.{Rose}
use Rattle.cell_library.specs.Judged.{PlainCell}
use Rattle.share_wiring.specs.declared.report.Mode.TheVariants.{Naive}
use Rattle.share_wiring.specs.declared.report.Balance.TheVariants.{Pipe}
use Rattle.agema_texts.specs.Masks.{CanMask, IsWithin, IsUnmasked}
use Rattle.agema_texts.specs.Auditing.{CanAudit, IsUnaudited}
use Rattle.agema_texts.specs.Probing.{CanProbe, IsUnprobed}
use Rattle.agema_texts.specs.Reported.{CanReport, IsBadReport}
use Rattle.agema_texts.specs.Sims.{CanSim, IsClocked, IsUnclocked, IsUndriven}
use Rattle.agema_answers.specs.declared.ended.Ended.{Ended}
use Rattle.agema_answers.specs.declared.ended.Ended.TheVariants.{Done, Usage, ReadFault, WriteFault, PrintFault, Memory, Refused}
use Rattle.agema_answers.specs.declared.refusal.Refusal.TheVariants.{TooLong, BadReport, BadStimulus, BadProbe, NotBuilt}
use Rattle.agema_core.specs.Compared.{ComparingFits, IsComparedEnd}
use Rattle.agema_core.specs.Words.{Mask, Sim, Reporting, Auditing, Probing, Request, mask, sim, reporting, auditing, probing, comparing}
use Rattle.agema_core.specs.Found.{Counts, Found, Holds, Told, Fails, ReadFails, IsTooLong, IsDash, HoldsBoth, ToldBoth, HasCells, IsLibraryEnd}

-- the file of the report stands beside OUT
abbrev pub report_name : List ℕ → List ℕ
report_name out = out ++ codes ".json"

-- the words ask for what is built: naive mode, pipelines
pub record IsBuilt (m : Mask) : Type 0 where
  pub mode_is : m.mode ≡ Naive
  pub balance_is : m.balance ≡ Pipe

-- LIB and NET can be masked, and LIB, NET and STIM be simulated
abbrev pub MaskFits : Mask → List PlainCell → List ℕ → Type 0
MaskFits m cells text = CanMask cells text m.order

abbrev pub IsMasked : Mask → List PlainCell → List ℕ → Type 0
IsMasked m cells text = IsWithin cells text m.order

abbrev pub SimFits : Sim → Found → List PlainCell → List ℕ → Type 0
SimFits s f cells text = Holds (f.holds s.stimulus) (CanSim cells text)

-- the netlist can be run
abbrev pub IsRunnable : List PlainCell → List ℕ → Type 0
IsRunnable cells text = (net : PlainNet) × IsClocked cells text net

-- How `mask` may end that has come to the netlist.
abbrev pub IsMaskEnd : Mask → Found → (before now : Counts) → Ended → Type 0
IsMaskEnd m f before now Done = ToldBoth m.library m.net f (IsMasked m)
IsMaskEnd m f before now Usage = Prim.⊥
IsMaskEnd m f before now (ReadFault file) = (file ≡ m.net) × ReadFails f.sound (f.holds m.net) before.reads now.reads
IsMaskEnd m f before now (WriteFault file) = ToldBoth m.library m.net f (IsMasked m) × ((file ≡ m.out) ⊎ (file ≡ report_name m.out)) × Fails f.sound before.writes now.writes
IsMaskEnd m f before now PrintFault = ToldBoth m.library m.net f (IsMasked m) × Fails f.prints before.prints now.prints
IsMaskEnd m f before now Memory = Unit {0}
IsMaskEnd m f before now (Refused (TooLong file)) = (file ≡ m.net) × Told f.tells (f.holds m.net) IsTooLong
IsMaskEnd m f before now (Refused refusal) = ToldBoth m.library m.net f (λ cells text. IsUnmasked cells text m.order refusal)

-- How `sim` may end that has come to the netlist: there, or behind it at the stimulus.
abbrev pub IsSimEnd : Sim → Found → (before now : Counts) → Ended → Type 0
IsSimEnd s f before now Done = ToldBoth s.library s.net f (SimFits s f)
IsSimEnd s f before now Usage = Prim.⊥
IsSimEnd s f before now (ReadFault file) =
    ((file ≡ s.net) × ReadFails f.sound (f.holds s.net) before.reads now.reads)
    ⊎ (ToldBoth s.library s.net f IsRunnable × (file ≡ s.stimulus) × ReadFails f.sound (f.holds s.stimulus) before.reads now.reads)
IsSimEnd s f before now (WriteFault file) = Prim.⊥
IsSimEnd s f before now PrintFault = ToldBoth s.library s.net f (SimFits s f) × Fails f.prints before.prints now.prints
IsSimEnd s f before now Memory = Unit {0}
IsSimEnd s f before now (Refused (TooLong file)) =
    ((file ≡ s.net) × Told f.tells (f.holds s.net) IsTooLong)
    ⊎ (ToldBoth s.library s.net f IsRunnable × (file ≡ s.stimulus) × Told f.tells (f.holds s.stimulus) IsTooLong)
IsSimEnd s f before now (Refused (BadStimulus cause stream step)) =
    ToldBoth s.library s.net f (λ cells text. Holds (f.holds s.stimulus) (λ stimulus. IsUndriven cells text stimulus (BadStimulus cause stream step)))
IsSimEnd s f before now (Refused refusal) = ToldBoth s.library s.net f (λ cells text. IsUnclocked cells text refusal)

-- How `report` may end: at the file of the report, or at the printing.
abbrev pub IsReportEnd : Reporting → Found → (before now : Counts) → Ended → Type 0
IsReportEnd r f before now Done = Told f.tells (f.holds (report_name r.out)) CanReport
IsReportEnd r f before now Usage = Prim.⊥
IsReportEnd r f before now (ReadFault file) = (file ≡ report_name r.out) × ReadFails f.sound (f.holds (report_name r.out)) before.reads now.reads
IsReportEnd r f before now (WriteFault file) = Prim.⊥
IsReportEnd r f before now PrintFault = Told f.tells (f.holds (report_name r.out)) CanReport × Fails f.prints before.prints now.prints
IsReportEnd r f before now Memory = Unit {0}
IsReportEnd r f before now (Refused (TooLong file)) = (file ≡ report_name r.out) × Told f.tells (f.holds (report_name r.out)) IsTooLong
IsReportEnd r f before now (Refused refusal) = Told f.tells (f.holds (report_name r.out)) (λ text. IsBadReport text refusal)

-- OUT gives an HPC2 network of the order
abbrev pub AuditFits : Auditing → Found → Type 0
AuditFits a f = Told f.tells (f.holds a.out) (λ text. CanAudit text a.order)

-- How `audit` may end: at OUT, or at the printing.
abbrev pub IsAuditEnd : Auditing → Found → (before now : Counts) → Ended → Type 0
IsAuditEnd a f before now Done = AuditFits a f
IsAuditEnd a f before now Usage = Prim.⊥
IsAuditEnd a f before now (ReadFault file) = (file ≡ a.out) × ReadFails f.sound (f.holds a.out) before.reads now.reads
IsAuditEnd a f before now (WriteFault file) = Prim.⊥
IsAuditEnd a f before now PrintFault = AuditFits a f × Fails f.prints before.prints now.prints
IsAuditEnd a f before now Memory = Unit {0}
IsAuditEnd a f before now (Refused (TooLong file)) = (file ≡ a.out) × Told f.tells (f.holds a.out) IsTooLong
IsAuditEnd a f before now (Refused refusal) = Told f.tells (f.holds a.out) (λ text. IsUnaudited text a.order refusal)

-- the probes can be told of a network
abbrev pub ProbesFit : Probing → Found → List ℕ → Type 0
ProbesFit p f text = Holds (f.holds p.probes) (CanProbe text p.order)

-- OUT gives an HPC2 network of the order
abbrev pub OutFits : Probing → Found → Type 0
OutFits p f = Told f.tells (f.holds p.out) (λ text. CanAudit text p.order)

abbrev pub ConesFit : Probing → Found → Type 0
ConesFit p f = Told f.tells (f.holds p.out) (ProbesFit p f)

-- How `cones` may end: at OUT, or behind it at the probes, or at the printing.
abbrev pub IsConesEnd : Probing → Found → (before now : Counts) → Ended → Type 0
IsConesEnd p f before now Done = ConesFit p f
IsConesEnd p f before now Usage = Prim.⊥
IsConesEnd p f before now (ReadFault file) =
    ((file ≡ p.out) × ReadFails f.sound (f.holds p.out) before.reads now.reads)
    ⊎ (OutFits p f × (file ≡ p.probes) × ReadFails f.sound (f.holds p.probes) before.reads now.reads)
IsConesEnd p f before now (WriteFault file) = Prim.⊥
IsConesEnd p f before now PrintFault = ConesFit p f × Fails f.prints before.prints now.prints
IsConesEnd p f before now Memory = Unit {0}
IsConesEnd p f before now (Refused (TooLong file)) =
    ((file ≡ p.out) × Told f.tells (f.holds p.out) IsTooLong) ⊎ (OutFits p f × (file ≡ p.probes) × Told f.tells (f.holds p.probes) IsTooLong)
IsConesEnd p f before now (Refused (BadProbe cause index)) =
    Told f.tells (f.holds p.out) (λ text. Holds (f.holds p.probes) (λ probes. IsUnprobed text p.order probes (BadProbe cause index)))
IsConesEnd p f before now (Refused refusal) = Told f.tells (f.holds p.out) (λ text. IsUnaudited text p.order refusal)

-- at a library that is named, or behind it
abbrev pub AtLibraryOr : (library : List ℕ) → Found → (before now : Counts) → Ended → Type 0 → Type 0
AtLibraryOr library f before now ended Later =
    ((IsDash library → Prim.⊥) × IsLibraryEnd library f.tells f.sound (f.holds library) before.reads now.reads ended) ⊎ (HasCells library f × Later)

-- When each answer may come, for what was asked and what was found. `mask` and `both` may end at their words, at the library or behind it, `sim` at the
-- library or behind it, `report` and `audit` at their file or the printing. Each refusal at a file yields to a read fault and to want of memory.
abbrev pub HasCause : Request → Found → (before now : Counts) → Ended → Type 0
HasCause (mask m) f before now ended =
    ((IsBuilt m → Prim.⊥) × (ended ≡ Refused NotBuilt)) ⊎ (IsBuilt m × AtLibraryOr m.library f before now ended (IsMaskEnd m f before now ended))
HasCause (sim s) f before now ended = AtLibraryOr s.library f before now ended (IsSimEnd s f before now ended)
HasCause (reporting r) f before now ended = IsReportEnd r f before now ended
HasCause (auditing a) f before now ended = IsAuditEnd a f before now ended
HasCause (probing p) f before now ended = IsConesEnd p f before now ended
HasCause (comparing c) f before now ended =
    ((IsBuilt c.masking → Prim.⊥) × (ended ≡ Refused NotBuilt)) ⊎ (IsBuilt c.masking × AtLibraryOr c.masking.library f before now ended (IsComparedEnd c f before now ended))

-- no count of faults rose
pub record NoneRose (before now : Counts) : Type 0 where
  pub reads : Rose before.reads now.reads → Prim.⊥
  pub writes : Rose before.writes now.writes → Prim.⊥
  pub prints : Rose before.prints now.prints → Prim.⊥

-- nothing outside of the program fails: no count rose, or the shelf and the sink are sound
abbrev pub NothingFails : Found → (before now : Counts) → Type 0
NothingFails f before now = (IsTrue f.tells × NoneRose before now) ⊎ (IsTrue f.sound × IsTrue f.prints)

-- the shelf holds what the request wants
abbrev pub CanServe : Request → Found → Type 0
CanServe (mask m) f = IsBuilt m × HoldsBoth m.library m.net f.holds (MaskFits m)
CanServe (sim s) f = HoldsBoth s.library s.net f.holds (SimFits s f)
CanServe (reporting r) f = Holds (f.holds (report_name r.out)) CanReport
CanServe (auditing a) f = Holds (f.holds a.out) (λ text. CanAudit text a.order)
CanServe (probing p) f = Holds (f.holds p.out) (ProbesFit p f)
CanServe (comparing c) f = IsBuilt c.masking × HoldsBoth c.masking.library c.masking.net f.holds (ComparingFits c f)

-- Completeness: where the shelf holds what the request wants and nothing fails, the command is done, or memory is wanted.
abbrev pub IsComplete : Request → Found → (before now : Counts) → Ended → Type 0
IsComplete r f before now ended = CanServe r f → NothingFails f before now → (ended ≡ Done) ⊎ (ended ≡ Memory)
