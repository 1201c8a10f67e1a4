-- Small gates, and what they are worth.
use Rattle.std.specs.Prelude.{◌≡◌, ℕ, Bool, true, ◌&&◌, nat_lt}
use Rattle.agm_net.specs.Formula.{Formula, f_zero, f_one, f_wire, f_not, f_and, f_or, f_xor, f_mux}
use Rattle.share_wiring.specs.declared.gate.Gate.{Gate}
use Rattle.share_wiring.specs.declared.gate.Gate.TheVariants.{Zero, One, Same, Not, And, Or, Xor, Mux}

abbrev pub gate_formula : Gate → Formula
gate_formula Zero = f_zero
gate_formula One = f_one
gate_formula (Same k) = f_wire k
gate_formula (Not k) = f_not (f_wire k)
gate_formula (And j k) = f_and (f_wire j) (f_wire k)
gate_formula (Or j k) = f_or (f_wire j) (f_wire k)
gate_formula (Xor j k) = f_xor (f_wire j) (f_wire k)
gate_formula (Mux s j k) = f_mux (f_wire s) (f_wire j) (f_wire k)

-- the gate of a formula that is a constant, a wire or one operator over wires
abbrev pub gate_of : Formula → Gate
gate_of f_zero = Zero
gate_of f_one = One
gate_of (f_wire k) = Same k
gate_of (f_not (f_wire k)) = Not k
gate_of (f_and (f_wire j) (f_wire k)) = And j k
gate_of (f_or (f_wire j) (f_wire k)) = Or j k
gate_of (f_xor (f_wire j) (f_wire k)) = Xor j k
gate_of (f_mux (f_wire s) (f_wire j) (f_wire k)) = Mux s j k
gate_of _ = Zero

-- a constant, a wire or one operator over wires
abbrev pub IsGate : Formula → Type 0
IsGate f = gate_formula (gate_of f) ≡ f

-- whether a gate reads wires below n alone
abbrev pub gate_below : Gate → ℕ → Bool
gate_below Zero n = true
gate_below One n = true
gate_below (Same k) n = nat_lt k n
gate_below (Not k) n = nat_lt k n
gate_below (And j k) n = nat_lt j n && nat_lt k n
gate_below (Or j k) n = nat_lt j n && nat_lt k n
gate_below (Xor j k) n = nat_lt j n && nat_lt k n
gate_below (Mux s j k) n = nat_lt s n && (nat_lt j n && nat_lt k n)
