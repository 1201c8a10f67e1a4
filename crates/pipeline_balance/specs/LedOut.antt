-- The output ports of a masked net.
use Rattle.std.specs.Prelude.{◌≡◌, ◌<◌, ℕ, Bool, true, false, not, List, length, map, filter, replicate, slice_index_or}
use Rattle.std.specs.List.{flat_map}
use Rattle.agm_net.specs.Plain.{PlainNet, is_input}
use Rattle.share_wiring.specs.Adds.{Extends, AddsFact}
use Rattle.share_wiring.specs.Built.{IsNew}
use Rattle.share_wiring.specs.Recombine.{port_value, is_shared}
use Rattle.share_wiring.specs.Shape.{header_of, masked_headers, headers_of}
use Rattle.share_wiring.specs.Wiring.{Wiring, net_of}
use Rattle.share_wiring.specs.declared.report.Report.{Report}
use Rattle.pipeline_balance.specs.declared.values.Value.{Value}
use Rattle.pipeline_balance.specs.Chained.{value_at}
use Rattle.pipeline_balance.specs.Masked.{output_values, HasWidths}
use Rattle.pipeline_balance.specs.Ports.{value_row}
use Rattle.pipeline_balance.specs.Sound.{KeepsComplete}
use Rattle.pipeline_balance.specs.Valued.{is_secret}

-- of each output bit of the original, whether its port is shared
abbrev pub shared_output_bits : PlainNet → Report → List Bool
shared_output_bits original report = flat_map (λ p. replicate (length p.bits) (is_shared report p.name)) (filter (λ p. not (is_input p)) original.ports)

-- One value for each output bit of the original; one of a port that is not shared is public.
pub record AreOutputs (n : ℕ) (original : PlainNet) (report : Report) (values : List (Value n)) : Type 0 where
  pub one_each : length values ≡ length (shared_output_bits original report)
  pub public : (o : ℕ) → o < length values → slice_index_or (shared_output_bits original report) o true ≡ false → is_secret (value_at values o) ≡ false

-- the names of the output ports of a masked net
abbrev pub output_names : PlainNet → Report → List (List ℕ)
output_names original report = map (λ h. h.name) (flat_map (masked_headers report) (filter (λ p. not (is_input p)) original.ports))

-- The output ports of a masked net were made, each at its place: in each run they recombine to the values that were given. All other
-- ports have the bits that they had. A sound net whose random bits were all given stays one.
pub record IsLedOut (n : ℕ) (original : PlainNet) (report : Report) (values : List (Value n)) (old now : Wiring) : Type 0 where
  pub ports : map header_of now.ports ≡ headers_of original report
  pub keeps : (name : List ℕ) → IsNew (output_names original report) name → (bit : ℕ → Bool) → port_value (net_of now) name bit ≡ port_value (net_of old) name bit
  pub told : AddsFact old now (λ cycles bits. (t : ℕ) → t < cycles → output_values original report (net_of now) (bits t) ≡ value_row n bits t values)
  pub wide : HasWidths original report (net_of now)
  pub extends : Extends old now
  pub complete : KeepsComplete n old now
