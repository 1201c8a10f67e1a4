-- Which plain nets are nets.
use Rattle.std.specs.Prelude.{◌≡◌, ◌≢◌, ◌≤◌, ◌<◌, ◌+◌, ◌==◌, ℕ, Bool, false, ◌&&◌, List, length, nat_lt, count_by, filter, map, IsTrue, Some, slice_get, is_none}
use Rattle.std.specs.List.{list_all, flat_map}
use Rattle.std.specs.Option.{option_map_or}
use Rattle.agm_net.specs.Formula.{reads_below}
use Rattle.agm_net.specs.Plain.{PlainNet, bit_names, is_input}
use Rattle.agm_net.specs.declared.port.Port.{Port}

-- how often a wire is an input port's bit, the wire of an equation, or the output of a register
abbrev pub drivers : PlainNet → ℕ → ℕ
drivers net w =
    count_by (λ b. b == w) (flat_map (λ p. p.bits) (filter is_input net.ports))
    + (count_by (λ l. l.0 == w) net.lines + count_by (λ r. r.q == w) net.registers)

-- whether all wire numbers in equations and registers are those of wires
abbrev pub numbers_fit : PlainNet → Bool
numbers_fit net =
    list_all (λ l. nat_lt l.0 (length net.wires) && reads_below (length net.wires) l.1) net.lines
    && list_all (λ r. nat_lt r.q (length net.wires) && (reads_below (length net.wires) r.next && nat_lt r.clock (length net.wires))) net.registers

-- no two of these names are the same
abbrev pub Differ : List (List ℕ) → Type 0
Differ names = (v w : ℕ) → v < w → w < length names → slice_get names v ≢ slice_get names w

-- an input port without a range, as a clock is
abbrev pub is_clock_port : Port → Bool
is_clock_port p = is_input p && is_none p.range

-- The ports are right: their names differ, each has the bits of its name and range in their order, no wire is a bit of two ports,
-- and the clock is the number of an input port without a range.
pub record PortsAreRight (net : PlainNet) : Type 0 where
  pub ports_differ : Differ (map (λ p. p.name) net.ports)
  pub bits_named : (n : ℕ) (p : Port) → slice_get net.ports n ≡ Some p → map (slice_get net.wires) p.bits ≡ map (λ name. Some name) (bit_names p.name p.range)
  pub one_port : (w : ℕ) → count_by (λ b. b == w) (flat_map (λ p. p.bits) net.ports) ≤ 1
  pub clock_fits : (c : ℕ) → net.clock ≡ Some c → IsTrue (option_map_or is_clock_port (slice_get net.ports c) false)

-- A net: all numbers are in range, the ports are right, the names of wires differ, and each wire is exactly one of
-- an input port's bit, the wire of one equation, and the output of one register.
pub record WellFormed (net : PlainNet) : Type 0 where
  pub in_range : IsTrue (numbers_fit net)
  pub ports_right : PortsAreRight net
  pub wires_differ : Differ net.wires
  pub one_driver : (w : ℕ) → w < length net.wires → drivers net w ≡ 1

-- a wire that has no earlier wire's name and is exactly one of the three
abbrev pub IsRight : PlainNet → ℕ → Type 0
IsRight net w = ((v : ℕ) → v < w → slice_get net.wires v ≢ slice_get net.wires w) × (drivers net w ≡ 1)

-- Of parts that are no net, the number that tells why: the number of wires where a number is out of range or the ports are
-- not right, else the first wire that is not right.
pub data IsFirstBad (net : PlainNet) (w : ℕ) : Type 0 where
  parts : (w ≡ length net.wires) → (IsTrue (numbers_fit net) → PortsAreRight net → Prim.⊥) → IsFirstBad net w
  wire : IsTrue (numbers_fit net) → PortsAreRight net → w < length net.wires → ((v : ℕ) → v < w → IsRight net v) → (IsRight net w → Prim.⊥) → IsFirstBad net w
