-- The input ports of a masked net, with the values that stand in them.
use Rattle.std.specs.Prelude.{◌≡◌, ◌++◌, ◌∷◌, [], ℕ, Bool, List, length, map, filter, replicate, codes}
use Rattle.std.specs.List.{flat_map}
use Rattle.agm_net.specs.Plain.{PlainNet, is_input, data_ports}
use Rattle.agm_net.specs.Role.{state_name}
use Rattle.share_wiring.specs.Adds.{random_bits}
use Rattle.share_wiring.specs.Recombine.{port_value, is_shared}
use Rattle.share_wiring.specs.Schedule.{input_values}
use Rattle.share_wiring.specs.Shape.{Header, header_of, one_input, input_of_width, indices, masked_headers}
use Rattle.share_wiring.specs.Wiring.{Wiring, IsPublicWire, net_of}
use Rattle.share_wiring.specs.declared.report.Report.{Report}
use Rattle.pipeline_balance.specs.declared.values.Value.{Value}
use Rattle.pipeline_balance.specs.Chained.{AreSources}
use Rattle.pipeline_balance.specs.Masked.{initial_values}
use Rattle.pipeline_balance.specs.Ports.{value_row}
use Rattle.pipeline_balance.specs.Sound.{IsSound}
use Rattle.pipeline_balance.specs.Valued.{is_secret}

-- the ports of a masked net that stand before those of the original's ports
abbrev pub first_headers : Report → List Header
first_headers report =
    one_input (codes "agm_clk") ∷ one_input (codes "agm_load") ∷
    (input_of_width (codes "agm_r") report.random
    ++ (input_of_width (codes "agm_q_p") report.public_registers
    ++ flat_map (λ i. input_of_width (state_name i) report.secret_registers) (indices report.order)))

-- those, and then those of the original's inputs without its clock
abbrev pub entered_headers : PlainNet → Report → List Header
entered_headers original report = first_headers report ++ flat_map (masked_headers report) (filter is_input (data_ports original))

-- of each input bit of the original, whether its port is shared
abbrev pub shared_bits : PlainNet → Report → List Bool
shared_bits original report = flat_map (λ p. replicate (length p.bits) (is_shared report p.name)) (filter is_input (data_ports original))

-- The input ports of a masked net were made, which is sound, and no gadget was begun. In each cycle the inputs' values have what the ports hold for the
-- original's input bits, the initial values what they hold for its registers, and the load wire has the load signal.
pub record IsEntered (n : ℕ) (original : PlainNet) (secrets : List Bool) (report : Report) (now : Wiring) (load : ℕ) (inputs firsts : List (Value n)) : Type 0 where
  pub ports : map header_of now.ports ≡ entered_headers original report
  pub load_is : IsPublicWire now.wires load
  pub load_told : (bit : ℕ → Bool) → port_value (net_of now) (codes "agm_load") bit ≡ bit load ∷ []
  pub inputs_are : AreSources n now inputs
  pub inputs_told : (bits : ℕ → ℕ → Bool) (t : ℕ) → input_values original report (net_of now) (bits t) ≡ value_row n bits t inputs
  pub inputs_kinds : map is_secret inputs ≡ shared_bits original report
  pub firsts_are : AreSources n now firsts
  pub firsts_told : (bits : ℕ → ℕ → Bool) (t : ℕ) → initial_values secrets report (net_of now) (bits t) ≡ value_row n bits t firsts
  pub firsts_kinds : map is_secret firsts ≡ secrets
  pub begun : now.gadgets ≡ 0
  pub given : now.given ≡ 0
  pub random : length (random_bits now.ports) ≡ report.random
  pub sound : IsSound n now
