-- Plain nets: those that netlists of assigns and cells state as they are, one operator for each equation.
use Rattle.std.specs.Prelude.{◌≡◌, ◌≤◌, ◌==◌, ℕ, List, Option, Some, None, IsTrue, slice_get}
use Rattle.std.specs.List.{AllByRecursion, flat_map, list_any}
use Rattle.agm_net.specs.Formula.{Formula, f_zero, f_one, f_wire, f_not, f_and, f_or, f_xor, f_mux}
use Rattle.agm_net.specs.Plain.{PlainNet}
use Rattle.agm_net.specs.Writable.{IsWritable}
use Rattle.agm_net.specs.declared.port.Port.{Port}
use Rattle.agm_net.specs.declared.port.Range.{Range}

abbrev pub IsWire : Formula → Type 0
IsWire f = (w : ℕ) × (f ≡ f_wire w)

-- a constant, a wire, or one operator over wires
abbrev pub IsOneOperator : Formula → Type 0
IsOneOperator f_zero = Unit {0}
IsOneOperator f_one = Unit {0}
IsOneOperator (f_wire w) = Unit {0}
IsOneOperator (f_not x) = IsWire x
IsOneOperator (f_and x y) = IsWire x × IsWire y
IsOneOperator (f_or x y) = IsWire x × IsWire y
IsOneOperator (f_xor x y) = IsWire x × IsWire y
IsOneOperator (f_mux s x y) = IsWire s × IsWire x × IsWire y

-- a wire, or a choice between wires that keeps the register's own output q where its select is 0: an enabled register
abbrev pub IsNextOf : ℕ → Formula → Type 0
IsNextOf q (f_wire w) = Unit {0}
IsNextOf q (f_mux s x y) = IsWire s × (x ≡ f_wire q) × IsWire y
IsNextOf q _ = Prim.⊥

-- both numbers of a range are at most 65,535
abbrev pub RangeFits : Option Range → Type 0
RangeFits None = Unit {0}
RangeFits (Some r) = (r.msb ≤ 65535) × (r.lsb ≤ 65535)

-- a wire that has the name of a port is a bit of some port
abbrev pub PortNamesAreBits : List Port → List (List ℕ) → Type 0
PortNamesAreBits ports wires =
    (n w : ℕ) (p : Port) → slice_get ports n ≡ Some p → slice_get wires w ≡ Some p.name → IsTrue (list_any (λ b. b == w) (flat_map (λ q. q.bits) ports))

-- A plain net: each equation is a constant, a wire, or one operator over wires. Each next expression is a wire, or a choice between
-- wires that keeps the register's own output. The names of ports and wires can be written. The numbers of ranges are at most 65,535.
-- A wire that has the name of a port is a bit of some port.
pub record IsPlain (net : PlainNet) : Type 0 where
  pub one_operator : AllByRecursion (λ l. IsOneOperator l.1) net.lines
  pub next_kept : AllByRecursion (λ r. IsNextOf r.q r.next) net.registers
  pub ports_writable : AllByRecursion (λ p. IsWritable p.name) net.ports
  pub wires_writable : AllByRecursion IsWritable net.wires
  pub ranges_fit : AllByRecursion (λ p. RangeFits p.range) net.ports
  pub port_names_are_bits : PortNamesAreBits net.ports net.wires
