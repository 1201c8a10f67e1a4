-- The rules that marks and clocks keep, in the order in which they are asked.
use Rattle.std.specs.Prelude.{◌≡◌, ◌≢◌, ◌<◌, ℕ, Bool, false, not, ◌&&◌, ◌||◌, ◌⊎◌, if◌then◌else◌, List, [], ◌∷◌, ◌++◌, length, map, nat_eq, nat_lt, Option, None, Result, Ok, Err, IsTrue, Contains, codes}
use Rattle.std.specs.List.{list_any, flat_map, enumerate_from, range_with_len, starts_with, AllByRecursion}
use Rattle.std.specs.Option.{option_map_or}
use Rattle.agm_net.specs.Plain.{PlainNet, is_input}
use Rattle.agm_net.specs.WellFormed.{is_clock_port}
use Rattle.agm_net.specs.declared.port.Port.{Port}
use Rattle.agm_net.specs.declared.mark.Mark.{Mark}
use Rattle.agm_net.specs.declared.mark.Mark.TheVariants as mark
use Rattle.verilog_reader.specs.Plain.{PlainModule}
use Rattle.verilog_reader.specs.declared.design.Value.{Value}
use Rattle.top_module.specs.Marks.{marks_before, says, is_unknown}
use Rattle.annotations.specs.Clocked.{IsClockWire, is_read}
use Rattle.annotations.specs.declared.fault.AnnotationFault.{AnnotationFault}
use Rattle.annotations.specs.declared.fault.AnnotationFault.TheVariants as fault

-- A rule, with the port that it is asked of and its number, the clock of a register, or a wire.
pub data Rule : Type 0 where
  reserved : ℕ → Port → Rule
  valued : ℕ → Port → Rule
  twice : ℕ → Port → Rule
  second_clock : ℕ → Port → Rule
  no_secure : Rule
  no_clock : Rule
  own_clock : (clock : ℕ) → Rule
  clock_read : (wire : ℕ) → Rule

-- the marks of a port in the top module
abbrev pub marks_of : PlainModule → Port → List (Option Value)
marks_of top p = marks_before top p.name

abbrev pub is_marked : List ℕ → PlainModule → Port → Bool
is_marked word top p = list_any (says word) (marks_of top p)

-- two marks differ
abbrev pub DoDiffer : List (Option Value) → Type 0
DoDiffer marks = (a : Option Value) × (b : Option Value) × Contains marks a × Contains marks b × (a ≢ b)

-- When a rule is broken, for a net and the module that its ports are declared in.
abbrev pub Broken : PlainModule → PlainNet → Rule → Type 0
-- the port's name begins with `agm_`
Broken top net (reserved k p) = IsTrue (starts_with nat_eq p.name (codes "agm_"))
-- a mark has no value, or one that is not known, or is `clock` on an output or a port with a range
Broken top net (valued k p) = IsTrue (list_any is_unknown (marks_of top p) || (is_marked (codes "clock") top p && not (is_clock_port p)))
-- two marks differ in value
Broken top net (twice k p) = DoDiffer (marks_of top p)
-- a mark is `clock`, and an earlier port is the clock
Broken top net (second_clock k p) = IsTrue (is_marked (codes "clock") top p && option_map_or (λ c. nat_lt c k) net.clock false)
-- no input is marked secure
Broken top net no_secure = list_any (λ p. is_input p && is_marked (codes "secure") top p) net.ports ≡ false
-- there is a register, and no clock
Broken top net no_clock = (0 < length net.registers) × (net.clock ≡ None)
-- the clock of a register is no clock wire
Broken top net (own_clock w) = IsClockWire net w → Prim.⊥
-- a clock wire stands where it must not
Broken top net (clock_read w) = IsClockWire net w × IsTrue (is_read net w)

abbrev pub fault_of : Rule → AnnotationFault
fault_of (reserved k p) = fault.Reserved k
fault_of (valued k p) = fault.Value k
fault_of (twice k p) = fault.Twice k
fault_of (second_clock k p) = fault.SecondClock k
fault_of no_secure = fault.NoSecure
fault_of no_clock = fault.NoClock
fault_of (own_clock w) = fault.ClockUse w
fault_of (clock_read w) = fault.ClockUse w

-- the rules of clocks that are asked of a port, and all rules
abbrev pub clock_rules_of : ℕ × Port → List Rule
clock_rules_of e = valued e.0 e.1 ∷ twice e.0 e.1 ∷ second_clock e.0 e.1 ∷ []

abbrev pub rules_of : ℕ × Port → List Rule
rules_of e = reserved e.0 e.1 ∷ clock_rules_of e

-- the rules on the clock: the clocks of the registers in their order, and then the wires in their order
abbrev pub use_rules : PlainNet → List Rule
use_rules net = no_clock ∷ (map (λ r. own_clock r.clock) net.registers ++ map clock_read (range_with_len 0 (length net.wires)))

-- all rules in order: port by port, and then those of the whole net
abbrev pub annotation_rules : PlainNet → List Rule
annotation_rules net = flat_map rules_of (enumerate_from 0 net.ports) ++ no_secure ∷ use_rules net

-- the rules of clocks in order
abbrev pub clock_rules : PlainNet → List Rule
clock_rules net = flat_map clock_rules_of (enumerate_from 0 net.ports) ++ use_rules net

-- no rule of a list is broken
abbrev pub NoneBroken : (Rule → Type 0) → List Rule → Type 0
NoneBroken broken rules = AllByRecursion (λ r. ¬ broken r) rules

-- the fault is that of the first rule of a list that is broken
abbrev pub IsFirstFault : (Rule → Type 0) → List Rule → AnnotationFault → Type 0
IsFirstFault broken [] f = Prim.⊥
IsFirstFault broken (r ∷ rs) f = (broken r × (fault_of r ≡ f)) ⊎ ((¬ broken r) × IsFirstFault broken rs f)

-- Which answer is right for rules: a value that is right, where none is broken, or the fault of the
-- first that is broken, or want of memory.
abbrev pub Answers : {X : Type 0} → (Rule → Type 0) → List Rule → (X → Type 0) → Result X AnnotationFault → Type 0
Answers broken rules right (Ok x) = NoneBroken broken rules × right x
Answers broken rules right (Err f) = (f ≡ fault.Memory) ⊎ IsFirstFault broken rules f

-- the mark of a port by the marks before its declarations, which are the same where no rule is broken
abbrev pub mark_of : PlainModule → Port → Mark
mark_of top p =
    if is_marked (codes "secure") top p then mark.Secure
    else (if is_marked (codes "public") top p then mark.Public else (if is_marked (codes "clock") top p then mark.Clock else mark.Unmarked))

-- a check of rules: nothing is told where none is broken
abbrev pub Passes : PlainModule → PlainNet → List Rule → Result (Unit {0}) AnnotationFault → Type 0
Passes top net rules result = Answers (Broken top net) rules (λ _. Unit {0}) result
