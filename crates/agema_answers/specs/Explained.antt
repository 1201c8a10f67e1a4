-- The line on standard error: `status`, the number, the answer's name, and ` field=value` for each of its fields in their order. A fault inside an answer is its name followed by its own fields; items of a list are joined by commas.
use Rattle.std.specs.Prelude.{◌++◌, ℕ, List, [], ◌∷◌, codes}
use Rattle.std.specs.List.{flat_map}
use Rattle.std.specs.Fmt.{decimal}
use Rattle.annotations.specs.declared.fault.AnnotationFault.{AnnotationFault}
use Rattle.annotations.specs.declared.fault.AnnotationFault.TheVariants as annotation
use Rattle.cell_library.specs.declared.types.Bar.{Bar}
use Rattle.cell_library.specs.declared.types.Bar.TheVariants.{Bus, Latch, StateTable, Bank, TwoStates, DoublePin, Direction, ThreeState, AsyncControl, ClockShape, NoFunction, FunctionText, UnknownName}
use Rattle.cell_library.specs.declared.types.CellCause.{CellCause}
use Rattle.cell_library.specs.declared.types.CellCause.TheVariants.{Duplicate, Reserved}
use Rattle.masked_writer.specs.declared.fault.ReportCause.{ReportCause}
use Rattle.masked_writer.specs.declared.fault.ReportCause.TheVariants as report
use Rattle.probe_lists.specs.declared.fault.ProbeCause.{ProbeCause}
use Rattle.probe_lists.specs.declared.fault.ProbeCause.TheVariants as probe
use Rattle.stimulus.specs.declared.fault.StimulusCause.{StimulusCause}
use Rattle.stimulus.specs.declared.fault.StimulusCause.TheVariants.{Json, Shape, Streams, Steps, Initial, Inputs, Bits, Cycles}
use Rattle.agema_answers.specs.Status.{status_of}
use Rattle.agema_answers.specs.declared.ended.Ended.{Ended}
use Rattle.agema_answers.specs.declared.ended.Ended.TheVariants.{Done, Usage, ReadFault, WriteFault, PrintFault, Memory, Refused}
use Rattle.agema_answers.specs.declared.refusal.Refusal.{Refusal}
use Rattle.agema_answers.specs.declared.refusal.Refusal.TheVariants.{TooLong, LibrarySyntax, Cell, NetSyntax, UnknownCell, UnknownPin, UnknownWire, Driven, Width, Top, Recursive, BarredCell, Clash, Loop, BadAnnotation, Leak, TooLarge, TooWide, BadReport, BadStimulus, BadProbe, NotHpc2, NotBuilt}

abbrev pub Text : Type 0
Text = List ℕ

abbrev pub cell_cause_text : CellCause → Text
cell_cause_text Duplicate = codes "Duplicate"
cell_cause_text Reserved = codes "Reserved"

abbrev pub bar_text : Bar → Text
bar_text Bus = codes "Bus"
bar_text Latch = codes "Latch"
bar_text StateTable = codes "StateTable"
bar_text Bank = codes "Bank"
bar_text TwoStates = codes "TwoStates"
bar_text DoublePin = codes "DoublePin"
bar_text Direction = codes "Direction"
bar_text ThreeState = codes "ThreeState"
bar_text AsyncControl = codes "AsyncControl"
bar_text ClockShape = codes "ClockShape"
bar_text NoFunction = codes "NoFunction"
bar_text FunctionText = codes "FunctionText"
bar_text UnknownName = codes "UnknownName"

abbrev pub report_cause_text : ReportCause → Text
report_cause_text report.Json = codes "Json"
report_cause_text report.Shape = codes "Shape"
report_cause_text report.Version = codes "Version"
report_cause_text report.Range = codes "Range"

abbrev pub stimulus_cause_text : StimulusCause → Text
stimulus_cause_text Json = codes "Json"
stimulus_cause_text Shape = codes "Shape"
stimulus_cause_text Streams = codes "Streams"
stimulus_cause_text Steps = codes "Steps"
stimulus_cause_text Initial = codes "Initial"
stimulus_cause_text Inputs = codes "Inputs"
stimulus_cause_text Bits = codes "Bits"
stimulus_cause_text Cycles = codes "Cycles"

abbrev pub probe_cause_text : ProbeCause → Text
probe_cause_text probe.Json = codes "Json"
probe_cause_text probe.Shape = codes "Shape"
probe_cause_text probe.Wire = codes "Wire"
probe_cause_text probe.Cycle = codes "Cycle"
probe_cause_text probe.Index = codes "Index"
probe_cause_text probe.Count = codes "Count"

-- a field with its value, of bytes or a number
abbrev pub field : (name value : Text) → Text
field name value = 32 ∷ (name ++ 61 ∷ value)

abbrev pub number : (name : Text) → ℕ → Text
number name n = field name (decimal n)

abbrev pub annotation_text : AnnotationFault → Text
annotation_text (annotation.Reserved port) = codes "Reserved" ++ number (codes "port") port
annotation_text (annotation.Value port) = codes "Value" ++ number (codes "port") port
annotation_text (annotation.Twice port) = codes "Twice" ++ number (codes "port") port
annotation_text (annotation.SecondClock port) = codes "SecondClock" ++ number (codes "port") port
annotation_text annotation.NoSecure = codes "NoSecure"
annotation_text annotation.NoClock = codes "NoClock"
annotation_text (annotation.ClockUse wire) = codes "ClockUse" ++ number (codes "wire") wire
annotation_text annotation.Memory = codes "Memory"

-- texts with commas between them
abbrev pub joined : List Text → Text
joined [] = []
joined (t ∷ ts) = t ++ flat_map (λ u. 44 ∷ u) ts

-- a refusal's name and fields
abbrev pub refusal_text : Refusal → Text
refusal_text (TooLong file) = codes "TooLong" ++ field (codes "file") file
refusal_text (LibrarySyntax at) = codes "LibrarySyntax" ++ number (codes "at") at
refusal_text (NetSyntax at) = codes "NetSyntax" ++ number (codes "at") at
refusal_text (Cell name cause) = codes "Cell" ++ (field (codes "name") name ++ field (codes "cause") (cell_cause_text cause))
refusal_text (UnknownCell instance cell) = codes "UnknownCell" ++ (field (codes "instance") instance ++ field (codes "cell") cell)
refusal_text (UnknownPin instance pin) = codes "UnknownPin" ++ (field (codes "instance") instance ++ field (codes "pin") pin)
refusal_text (UnknownWire name) = codes "UnknownWire" ++ field (codes "name") name
refusal_text (Driven wire drivers) = codes "Driven" ++ (field (codes "wire") wire ++ number (codes "drivers") drivers)
refusal_text (Width left right) = codes "Width" ++ (number (codes "left") left ++ number (codes "right") right)
refusal_text (Top candidates) = codes "Top" ++ number (codes "candidates") candidates
refusal_text (Recursive name) = codes "Recursive" ++ field (codes "module") name
refusal_text (BarredCell instance cell cause) = codes "BarredCell" ++ (field (codes "instance") instance ++ (field (codes "cell") cell ++ field (codes "cause") (bar_text cause)))
refusal_text (Clash name) = codes "Clash" ++ field (codes "name") name
refusal_text (Loop wires) = codes "Loop" ++ field (codes "wires") (joined wires)
refusal_text (BadAnnotation fault) = codes "BadAnnotation" ++ field (codes "fault") (annotation_text fault)
refusal_text (Leak port) = codes "Leak" ++ field (codes "port") port
refusal_text (TooLarge operators) = codes "TooLarge" ++ number (codes "operators") operators
refusal_text (TooWide bits) = codes "TooWide" ++ number (codes "bits") bits
refusal_text (BadReport cause) = codes "BadReport" ++ field (codes "cause") (report_cause_text cause)
refusal_text (BadStimulus cause stream step) = codes "BadStimulus" ++ (field (codes "cause") (stimulus_cause_text cause) ++ (number (codes "stream") stream ++ number (codes "step") step))
refusal_text (BadProbe cause index) = codes "BadProbe" ++ (field (codes "cause") (probe_cause_text cause) ++ number (codes "index") index)
refusal_text (NotHpc2 wire) = codes "NotHpc2" ++ field (codes "wire") wire
refusal_text NotBuilt = codes "NotBuilt"

abbrev pub answer_text : Ended → Text
answer_text Done = codes "Done"
answer_text Usage = codes "Usage"
answer_text (ReadFault file) = codes "ReadFault" ++ field (codes "file") file
answer_text (WriteFault file) = codes "WriteFault" ++ field (codes "file") file
answer_text Memory = codes "Memory"
answer_text PrintFault = codes "PrintFault"
answer_text (Refused r) = refusal_text r

abbrev pub explained : Ended → Text
explained ended = codes "status " ++ (decimal (status_of ended) ++ 32 ∷ (answer_text ended ++ 10 ∷ []))
