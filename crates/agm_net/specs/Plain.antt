-- A net as plain data: what every definition of behaviour and security speaks of.
use Rattle.std.specs.Prelude.{◌+◌, ◌-◌, ◌∷◌, ◌++◌, ℕ, Bool, true, false, if◌then◌else◌, nat_le, List, [], Option, Some, None, map, take, drop, filter}
use Rattle.std.specs.List.{flat_map, range_with_len}
use Rattle.std.specs.Fmt.{decimal}
use Rattle.agm_net.specs.Formula.{Formula, formula_of}
use Rattle.agm_net.specs.declared.port.Way.{Way}
use Rattle.agm_net.specs.declared.port.Way.TheVariants.{Input, Output}
use Rattle.agm_net.specs.declared.port.Range.{Range}
use Rattle.agm_net.specs.declared.port.Port.{Port}
use Rattle.agm_net.specs.declared.expr.Equation.{Equation}
use Rattle.agm_net.specs.declared.expr.Register.{Register}

-- an equation: a wire, and the formula whose value it has
abbrev pub Line : Type 0
Line = ℕ × Formula

-- a register: the wire of its output, the formula of its next value, and the wire of its clock
pub record Stored : Type 0 where
  pub q : ℕ
  pub next : Formula
  pub clock : ℕ

-- wires are the numbers below the length of `wires`, which has their names
pub record PlainNet : Type 0 where
  pub ports : List Port
  pub wires : List (List ℕ)
  pub lines : List Line
  pub registers : List Stored
  pub clock : Option ℕ

abbrev pub line_of : Equation → Line
line_of e = (e.wire, formula_of e.expr)

abbrev pub stored_of : Register → Stored
stored_of r = record { q = r.q; next = formula_of r.next; clock = r.clock }

abbrev pub plain : List Port → List (List ℕ) → List Equation → List Register → Option ℕ → PlainNet
plain ports wires equations registers clock =
    record { ports = ports; wires = wires; lines = map line_of equations; registers = map stored_of registers; clock = clock }

-- the numbers of a range in its own direction, from its most significant bit's to its least's
abbrev pub range_numbers : ℕ → ℕ → List ℕ
range_numbers msb lsb =
    if nat_le lsb msb then map (λ k. msb - k) (range_with_len 0 (msb - lsb + 1)) else range_with_len msb (lsb - msb + 1)

-- the name of bit k of a name with a range, as `x[3]`
abbrev pub select_name : List ℕ → ℕ → List ℕ
select_name name k = name ++ 91 ∷ (decimal k ++ 93 ∷ [])

-- the names of a port's bits, from the most significant: its own name where it has no range
abbrev pub bit_names : List ℕ → Option Range → List (List ℕ)
bit_names name None = name ∷ []
bit_names name (Some r) = map (select_name name) (range_numbers r.msb r.lsb)

abbrev pub is_in : Way → Bool
is_in Input = true
is_in Output = false

abbrev pub is_input : Port → Bool
is_input p = is_in p.way

-- the ports without the clock's, in their order
abbrev pub ports_but : Option ℕ → List Port → List Port
ports_but None ports = ports
ports_but (Some c) ports = take c ports ++ drop (c + 1) ports

abbrev pub data_ports : PlainNet → List Port
data_ports net = ports_but net.clock net.ports

-- the input bits: those of the input ports in port order, each from the most significant, without the clock
abbrev pub input_bits : PlainNet → List ℕ
input_bits net = flat_map (λ p. p.bits) (filter is_input (data_ports net))

-- the bits of the clock's port
abbrev pub bits_of_port : List Port → Option ℕ → List ℕ
bits_of_port ports None = []
bits_of_port ports (Some c) = flat_map (λ p. p.bits) (take 1 (drop c ports))

abbrev pub clock_bits : PlainNet → List ℕ
clock_bits net = bits_of_port net.ports net.clock
