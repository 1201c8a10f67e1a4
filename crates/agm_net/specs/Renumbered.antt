-- Nets that are the same up to the numbers of their wires.
use Rattle.std.specs.Prelude.{◌≡◌, ℕ, length, map, slice_get}
use Rattle.agm_net.specs.Formula.{Formula, f_zero, f_one, f_wire, f_not, f_and, f_or, f_xor, f_mux}
use Rattle.agm_net.specs.Plain.{Line, Stored, PlainNet}
use Rattle.agm_net.specs.declared.port.Port.{Port}

-- a formula, an equation, a register and a port with other numbers for their wires
abbrev pub renumbered : (ℕ → ℕ) → Formula → Formula
renumbered there f_zero = f_zero
renumbered there f_one = f_one
renumbered there (f_wire w) = f_wire (there w)
renumbered there (f_not x) = f_not (renumbered there x)
renumbered there (f_and x y) = f_and (renumbered there x) (renumbered there y)
renumbered there (f_or x y) = f_or (renumbered there x) (renumbered there y)
renumbered there (f_xor x y) = f_xor (renumbered there x) (renumbered there y)
renumbered there (f_mux s x y) = f_mux (renumbered there s) (renumbered there x) (renumbered there y)

abbrev pub renumbered_line : (ℕ → ℕ) → Line → Line
renumbered_line there l = (there l.0, renumbered there l.1)

abbrev pub renumbered_register : (ℕ → ℕ) → Stored → Stored
renumbered_register there r = record { q = there r.q; next = renumbered there r.next; clock = there r.clock }

abbrev pub renumbered_port : (ℕ → ℕ) → Port → Port
renumbered_port there p = record { name = p.name; way = p.way; range = p.range; bits = map there p.bits }

-- The other net is the net with its wires in another order. `there` gives each wire its number in the other net, and `back` the wire
-- of each number there. The wire has the same name, and a number that is no wire is none there. But for these numbers the ports, the
-- equations and the registers are the same, each once and in the same order, and so is the clock.
pub record Renumbered (net other : PlainNet) : Type 0 where
  pub there : ℕ → ℕ
  pub back : ℕ → ℕ
  pub there_and_back : (w : ℕ) → back (there w) ≡ w
  pub back_and_there : (v : ℕ) → there (back v) ≡ v
  pub as_many : length other.wires ≡ length net.wires
  pub same_names : (w : ℕ) → slice_get other.wires (there w) ≡ slice_get net.wires w
  pub same_ports : other.ports ≡ map (renumbered_port there) net.ports
  pub same_lines : other.lines ≡ map (renumbered_line there) net.lines
  pub same_registers : other.registers ≡ map (renumbered_register there) net.registers
  pub same_clock : other.clock ≡ net.clock
