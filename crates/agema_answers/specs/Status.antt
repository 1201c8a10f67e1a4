-- The program's exit status for each answer.
use Rattle.std.specs.Prelude.{ℕ}
use Rattle.agema_answers.specs.declared.ended.Ended.{Ended}
use Rattle.agema_answers.specs.declared.ended.Ended.TheVariants.{Done, Usage, ReadFault, WriteFault, PrintFault, Memory, Refused}
use Rattle.agema_answers.specs.declared.refusal.Refusal.{Refusal}
use Rattle.agema_answers.specs.declared.refusal.Refusal.TheVariants.{TooLong, LibrarySyntax, Cell, NetSyntax, UnknownCell, UnknownPin, UnknownWire, Driven, Width, Top, Recursive, BarredCell, Clash, Loop, BadAnnotation, Leak, TooLarge, TooWide, BadReport, BadStimulus, BadProbe, NotHpc2, NotBuilt}

abbrev pub refusal_status : Refusal → ℕ
refusal_status (TooLong file) = 10
refusal_status (LibrarySyntax at) = 11
refusal_status (NetSyntax at) = 12
refusal_status (Cell name cause) = 13
refusal_status (UnknownCell instance cell) = 14
refusal_status (UnknownPin instance pin) = 15
refusal_status (UnknownWire name) = 16
refusal_status (Driven wire drivers) = 17
refusal_status (Width left right) = 18
refusal_status (Top candidates) = 19
refusal_status (Recursive name) = 19
refusal_status (Loop wires) = 20
refusal_status (BadAnnotation fault) = 21
refusal_status (Leak port) = 22
refusal_status (TooLarge operators) = 23
refusal_status (BadReport cause) = 24
refusal_status (BadStimulus cause stream step) = 25
refusal_status (BadProbe cause index) = 26
refusal_status (NotHpc2 wire) = 27
refusal_status (BarredCell instance cell cause) = 29
refusal_status (Clash name) = 30
refusal_status NotBuilt = 31
refusal_status (TooWide bits) = 35

abbrev pub status_of : Ended → ℕ
status_of Done = 0
status_of Usage = 2
status_of (ReadFault file) = 3
status_of (WriteFault file) = 4
status_of Memory = 5
status_of PrintFault = 6
status_of (Refused r) = refusal_status r
