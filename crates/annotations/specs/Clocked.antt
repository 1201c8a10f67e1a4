-- Clock wires, and where a clock wire must not stand.
use Rattle.std.specs.Prelude.{◌==◌, ℕ, Bool, false, not, ◌&&◌, ◌||◌, List, IsTrue}
use Rattle.std.specs.List.{list_any}
use Rattle.agm_net.specs.Formula.{Formula, f_zero, f_one, f_wire, f_not, f_and, f_or, f_xor, f_mux, stands}
use Rattle.agm_net.specs.Plain.{PlainNet, is_input, clock_bits}
use Rattle.agm_net.specs.Loop.{IsChain, last_of}

-- whether a formula is wire w alone
abbrev pub is_alone : ℕ → Formula → Bool
is_alone w f_zero = false
is_alone w f_one = false
is_alone w (f_wire v) = v == w
is_alone w (f_not x) = false
is_alone w (f_and x y) = false
is_alone w (f_or x y) = false
is_alone w (f_xor x y) = false
is_alone w (f_mux s x y) = false

-- whether an equation sets wire w to wire v alone
abbrev pub copies : PlainNet → ℕ → ℕ → Bool
copies net w v = list_any (λ l. (l.0 == w) && is_alone v l.1) net.lines

-- whether wire w is the clock port's bit
abbrev pub is_clock_bit : PlainNet → ℕ → Bool
is_clock_bit net w = list_any (λ b. b == w) (clock_bits net)

-- A clock wire: a list of wires leads to it from the clock port's bit, each set to the one before alone. The list stands here from
-- the wire back to that bit.
abbrev pub IsClockWire : PlainNet → ℕ → Type 0
IsClockWire net w = (ws : List ℕ) × IsChain (copies net) w ws × IsTrue (is_clock_bit net (last_of w ws))

-- whether wire w stands in an equation that is more than w alone, in a next expression, or in an output port
abbrev pub is_read : PlainNet → ℕ → Bool
is_read net w =
    list_any (λ l. stands w l.1 && not (is_alone w l.1)) net.lines
    || (list_any (λ r. stands w r.next) net.registers || list_any (λ p. not (is_input p) && list_any (λ b. b == w) p.bits) net.ports)
