-- The ports of a masked net.
use Rattle.std.specs.Prelude.{◌≡◌, ◌+◌, ◌++◌, ◌∷◌, ℕ, zero, suc, cond, List, [], Option, Some, None, map, codes}
use Rattle.std.specs.List.{flat_map, range_with_len}
use Rattle.agm_net.specs.Plain.{PlainNet, data_ports}
use Rattle.agm_net.specs.Role.{share_name, state_name}
use Rattle.agm_net.specs.declared.port.Way.{Way}
use Rattle.agm_net.specs.declared.port.Way.TheVariants.{Input}
use Rattle.agm_net.specs.declared.port.Range.{Range}
use Rattle.agm_net.specs.declared.port.Port.{Port}
use Rattle.share_wiring.specs.declared.report.Report.{Report}
use Rattle.share_wiring.specs.Recombine.{is_shared}

-- a port without its wires
pub record Header : Type 0 where
  pub name : List ℕ
  pub way : Way
  pub range : Option Range

abbrev pub header_of : Port → Header
header_of p = record { name = p.name; way = p.way; range = p.range }

-- an input port with bits n-1 to 0, no port where n is 0
abbrev pub input_of_width : List ℕ → ℕ → List Header
input_of_width name zero = []
input_of_width name (suc n) = record { name = name; way = Input; range = Some (record { msb = n; lsb = 0 }) } ∷ []

abbrev pub one_input : List ℕ → Header
one_input name = record { name = name; way = Input; range = None }

-- the share indices 0 to d
abbrev pub indices : ℕ → List ℕ
indices d = range_with_len 0 (d + 1)

-- a shared port stands for its shares, each with the port's way and range
abbrev pub masked_headers : Report → Port → List Header
masked_headers report p =
    cond (is_shared report p.name) (map (λ i. record { name = share_name i p.name; way = p.way; range = p.range }) (indices report.order)) (header_of p ∷ [])

-- The ports of a masked net in their order: the clock, the load signal, the random bits, the initial values of public registers and
-- of the shares of secret registers, then the original's ports without its clock.
abbrev pub headers_of : PlainNet → Report → List Header
headers_of original report =
    one_input (codes "agm_clk") ∷ one_input (codes "agm_load") ∷
    (input_of_width (codes "agm_r") report.random
    ++ (input_of_width (codes "agm_q_p") report.public_registers
    ++ (flat_map (λ i. input_of_width (state_name i) report.secret_registers) (indices report.order)
    ++ flat_map (masked_headers report) (data_ports original))))

pub record Shape (original : PlainNet) (report : Report) (net : PlainNet) : Type 0 where
  pub headers : map header_of net.ports ≡ headers_of original report
  pub clock : net.clock ≡ Some 0
