-- When bytes are a report, and why they are none.
use Rattle.std.specs.Prelude.{◌≡◌, ◌⊎◌, ◌≢◌, ◌≤◌, ◌+◌, ◌*◌, ◌/◌, ℕ, List, [], ◌∷◌, Option, Some, None, Result, Ok, Err}
use Rattle.std.specs.List.{AllByRecursion}
use Rattle.serde_json.specs.Data.{Data, Members}
use Rattle.share_wiring.specs.ReportOf.{streams_of}
use Rattle.share_wiring.specs.declared.report.Balance.{Balance}
use Rattle.share_wiring.specs.declared.report.Mode.{Mode}
use Rattle.share_wiring.specs.declared.report.Report.{Report}
use Rattle.masked_writer.specs.Report.{versioned_data}
use Rattle.masked_writer.specs.declared.fault.ReportCause.TheVariants.{Json, Shape, Version, Range}
use Rattle.masked_writer.specs.declared.fault.ReportFault.{ReportFault}
use Rattle.masked_writer.specs.declared.reading.Stated.{Stated}
use Rattle.masked_writer.specs.declared.fault.ReportFault.TheVariants.{Bad, Memory}

-- a number that a report may state: below 2^32
abbrev pub IsSmall : ℕ → Type 0
IsSmall n = n ≤ 4294967295

-- the numbers that a report states
abbrev pub numbers_of : Report → (version : ℕ) → List ℕ
numbers_of r v = r.gadgets ∷ r.latency ∷ r.order ∷ r.period ∷ r.public_registers ∷ r.random ∷ r.secret_registers ∷ r.streams ∷ v ∷ []

-- A value states a report in some version: an object of exactly its keys, each with a value of its kind, the numbers below 2^32.
pub record States (d : Data) (r : Report) (version : ℕ) : Type 0 where
  pub object_is : d ≡ versioned_data r version
  pub are_small : AllByRecursion IsSmall (numbers_of r version)

-- the numbers of a report fit each other, as those of a masked design do
pub record IsInRange (r : Report) : Type 0 where
  pub order_from : 1 ≤ r.order
  pub order_to : r.order ≤ 7
  pub random_is : r.random ≡ r.gadgets * r.order * (r.order + 1) / 2
  pub period_is : r.period ≡ r.latency + 1
  pub streams_are : r.streams ≡ streams_of r.balance r.period

-- which answer is right for a report in some version
abbrev pub Judges : Stated → Result Report ReportFault → Type 0
Judges s (Ok r) = (r ≡ s.report) × (s.version ≡ 1) × IsInRange r
Judges s (Err (Bad Version)) = s.version ≢ 1
Judges s (Err (Bad Range)) = (s.version ≡ 1) × (IsInRange s.report → Prim.⊥)
Judges s _ = Prim.⊥

-- Which answer is right for a JSON value: the report that it states in version 1, if it is in range; else the first cause why it is none.
abbrev pub AnswersValue : Data → Result Report ReportFault → Type 0
AnswersValue d (Ok r) = States d r 1 × IsInRange r
AnswersValue d (Err Memory) = Unit {0}
AnswersValue d (Err (Bad Json)) = Prim.⊥
AnswersValue d (Err (Bad Shape)) = (r : Report) (version : ℕ) → States d r version → Prim.⊥
AnswersValue d (Err (Bad Version)) = (r : Report) × (version : ℕ) × States d r version × (version ≢ 1)
AnswersValue d (Err (Bad Range)) = (r : Report) × States d r 1 × (IsInRange r → Prim.⊥)

-- Which answer is right for the value of bytes, which may have none.
abbrev pub Answers : Option Data → Result Report ReportFault → Type 0
Answers None result = (result ≡ Err Memory) ⊎ (result ≡ Err (Bad Json))
Answers (Some d) result = AnswersValue d result

-- the report of what its members say
abbrev pub report_of : Balance × ℕ × ℕ → Mode × ℕ × ℕ → List (List ℕ) → ℕ × ℕ × ℕ → ℕ × ℕ → Report
report_of first second ports third last = record {
  order = second.1;
  mode = second.0;
  balance = first.0;
  gadgets = first.1;
  random = third.1;
  latency = first.2;
  period = second.2;
  streams = last.0;
  public_registers = third.0;
  secret_registers = third.2;
  ports = ports;
}

-- what stands first in the members is something that meets P, written so, and the rest is new; or nothing is
abbrev pub Takes : {X : Type 0} → (P : X → Type 0) → (written : X → Members → Members) → (old : Members) → Option X → (new : Members) → Type 0
Takes {X} P written old None new = (x : X) (rest : Members) → P x → old ≢ written x rest
Takes P written old (Some x) new = P x × (old ≡ written x new)

-- d is written so for something that meets P, or for nothing that does
abbrev pub Finds : {X : Type 0} → (P : X → Type 0) → (written : X → Data) → Data → Option X → Type 0
Finds {X} P written d None = (x : X) → P x → d ≢ written x
Finds P written d (Some x) = P x × (d ≡ written x)

-- d states what was found, or nothing
abbrev pub FindsReport : Data → Option Stated → Type 0
FindsReport d None = (r : Report) (version : ℕ) → States d r version → Prim.⊥
FindsReport d (Some s) = States d s.report s.version

-- nothing is asked
abbrev pub Any : {X : Type 0} → X → Type 0
Any x = Unit {0}
