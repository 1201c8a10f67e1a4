-- The original's inputs, as a masked net has them.
use Rattle.std.specs.Prelude.{ℕ, ◌+◌, ◌*◌, ◌++◌, ◌∷◌, cond, List, [], map, filter, length, take, drop}
use Rattle.agm_net.specs.Plain.{PlainNet, is_input, data_ports}
use Rattle.agm_net.specs.Trace.{Row}
use Rattle.agm_net.specs.declared.port.Port.{Port}
use Rattle.share_wiring.specs.Recombine.{is_shared}
use Rattle.share_wiring.specs.declared.report.Report.{Report}
use Rattle.shared_tape.specs.Sharing.{share_rows}
use Rattle.shared_tape.specs.declared.inputs.Input.{Input}

abbrev pub input_of : Report → Port → Input
input_of report p = record { is_shared = is_shared report p.name; width = length p.bits }

-- the input ports in their order, without the clock's
abbrev pub inputs_of : PlainNet → Report → List Input
inputs_of original report = map (input_of report) (filter is_input (data_ports original))

-- how many bits of a port are shared
abbrev pub shared_width : Input → ℕ
shared_width p = cond p.is_shared p.width 0

-- how many sharings a row of inputs has
abbrev pub sharings : List Input → ℕ
sharings [] = 0
sharings (p ∷ ps) = shared_width p + sharings ps

-- how many bits a masked net has for a port, and for all of them
abbrev pub port_width : ℕ → Input → ℕ
port_width d p = cond p.is_shared ((d + 1) * p.width) p.width

abbrev pub inputs_width : ℕ → List Input → ℕ
inputs_width d [] = 0
inputs_width d (p ∷ ps) = port_width d p + inputs_width d ps

-- what the masked net's ports for a port have where the port has these values
abbrev pub port_row : Row → (d first : ℕ) → Input → Row → Row
port_row draws d first p values = cond p.is_shared (share_rows draws d first values) values

-- what they have for a row of the original's input bits
abbrev pub inputs_row : Row → (d first : ℕ) → List Input → Row → Row
inputs_row draws d first [] values = []
inputs_row draws d first (p ∷ ps) values = port_row draws d first p (take p.width values) ++ inputs_row draws d (first + shared_width p) ps (drop p.width values)

-- the sum of the ports' widths, which is the width of a row of the original's input bits
abbrev pub width_of : List Input → ℕ
width_of [] = 0
width_of (p ∷ ps) = p.width + width_of ps
