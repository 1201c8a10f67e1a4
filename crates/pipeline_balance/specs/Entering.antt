-- Input ports of a masked net that are made one after another, and the values of their bits.
use Rattle.std.specs.Prelude.{◌≡◌, ◌-◌, ◌==◌, ◌++◌, ◌∷◌, [], ℕ, zero, suc, Bool, true, false, not, ◌&&◌, cond, List, length, map, replicate, codes, Option, None, Some}
use Rattle.std.specs.List.{AllByRecursion, flat_map}
use Rattle.agm_net.specs.Label.{IsPublic, IsBitOf}
use Rattle.agm_net.specs.Plain.{PlainNet, is_input}
use Rattle.agm_net.specs.Role.{state_name}
use Rattle.agm_net.specs.Trace.{Row}
use Rattle.agm_net.specs.declared.port.Port.{Port}
use Rattle.agm_net.specs.declared.port.Range.{Range}
use Rattle.share_wiring.specs.Adds.{Extends}
use Rattle.share_wiring.specs.Own.{upto}
use Rattle.share_wiring.specs.Recombine.{port_value, masked_value, recombined_rows, is_shared}
use Rattle.share_wiring.specs.Shape.{Header, header_of, input_of_width, masked_headers, indices}
use Rattle.share_wiring.specs.Wiring.{Wiring}
use Rattle.share_wiring.specs.declared.report.Report.{Report}
use Rattle.pipeline_balance.specs.declared.values.Value.{Value}
use Rattle.pipeline_balance.specs.Ports.{FitsBeside, input_header, row_of, value_row}
use Rattle.pipeline_balance.specs.Sound.{KeepsSound}
use Rattle.pipeline_balance.specs.Valued.{is_secret, IsValue}

-- each of these ports can stand beside others and the ones before it
abbrev pub FitInOrder : (olds hs : List Header) → Type 0
FitInOrder olds [] = Unit {0}
FitInOrder olds (h ∷ hs) = FitsBeside olds h × FitInOrder (olds ++ h ∷ []) hs

-- a net has for a port's name the bits of that port alone
abbrev pub IsOwn : PlainNet → Port → Type 0
IsOwn net p = (bit : ℕ → Bool) → port_value net p.name bit ≡ map bit p.bits

-- Input ports with these headers were made, which stand last, and values of these kinds for their bits. In each net that has for their
-- names the bits of these ports alone, a row of bits is what the values have. The net stays sound.
pub record Enters (n : ℕ) (old now : Wiring) (headers : List Header) (kinds : List Bool) (row : PlainNet → (ℕ → Bool) → Row) (values : List (Value n)) : Type 0 where
  pub made : List Port
  pub ports : now.ports ≡ old.ports ++ made
  pub headers_are : map header_of made ≡ headers
  pub extends : Extends old now
  pub sources : AllByRecursion (IsValue n now) values
  pub kinds_are : map is_secret values ≡ kinds
  pub told : (net : PlainNet) → AllByRecursion (IsOwn net) made → (bits : ℕ → ℕ → Bool) (t : ℕ) → row net (bits t) ≡ value_row n bits t values
  pub begun : now.gadgets ≡ old.gadgets
  pub given : now.given ≡ old.given
  pub sound : KeepsSound n old now

-- the bits of a port of this name may be read by all shares
abbrev pub HasPublicBits : List ℕ → Type 0
HasPublicBits name = (bit : List ℕ) → IsBitOf name bit → IsPublic bit

-- input ports of names with one range, and what shares that stand in them recombine to
abbrev pub named_headers : Option Range → List (List ℕ) → List Header
named_headers range names = upto (length names) (λ i. input_header range (row_of names i))

abbrev pub shared_row : ℕ → List (List ℕ) → PlainNet → (ℕ → Bool) → Row
shared_row n names net bit = recombined_rows (n - 1) (λ i. port_value net (row_of names i) bit)

-- whether the port of a number is an input other than the clock
abbrev pub is_clock_number : Option ℕ → ℕ → Bool
is_clock_number None k = false
is_clock_number (Some c) k = c == k

abbrev pub is_data_port : Option ℕ → ℕ → Port → Bool
is_data_port clock k p = is_input p && not (is_clock_number clock k)

-- a port with its number, where it is such an input
abbrev pub if_data : Option ℕ → ℕ → Port → List Port
if_data clock k p = cond (is_data_port clock k p) (p ∷ []) []

-- what a masked net has for some ports of the original: its ports, the kinds of their bits, and their values
abbrev pub headers_for : Report → List Port → List Header
headers_for report ports = flat_map (masked_headers report) ports

abbrev pub kinds_for : Report → List Port → List Bool
kinds_for report ports = flat_map (λ p. replicate (length p.bits) (is_shared report p.name)) ports

abbrev pub values_for : Report → List Port → PlainNet → (ℕ → Bool) → Row
values_for report ports net bit = flat_map (λ p. masked_value net report p.name bit) ports

-- the ports of the initial values
abbrev pub register_headers : Report → List Header
register_headers report =
    input_of_width (codes "agm_q_p") report.public_registers ++ flat_map (λ i. input_of_width (state_name i) report.secret_registers) (indices report.order)

-- those of the shares of secret ones
abbrev pub state_headers : (n count : ℕ) → List Header
state_headers n count = flat_map (λ i. input_of_width (state_name i) count) (indices (n - 1))

-- what stands in them, from the last register to the first; nothing where there is no register
abbrev pub where_any : ℕ → Row → Row
where_any zero row = []
where_any (suc count) row = row

abbrev pub public_row : ℕ → PlainNet → (ℕ → Bool) → Row
public_row count net bit = where_any count (port_value net (codes "agm_q_p") bit)

abbrev pub state_row : (n count : ℕ) → PlainNet → (ℕ → Bool) → Row
state_row n count net bit = where_any count (recombined_rows (n - 1) (λ i. port_value net (state_name i) bit))

-- a value for each register: the next of the public ones, or of the secret ones where the Bool is true
abbrev pub merged_values : {n : ℕ} → List Bool → (publics secret_ones : List (Value n)) → List (Value n)
merged_values [] ps ss = []
merged_values (true ∷ ks) ps [] = []
merged_values (true ∷ ks) ps (x ∷ ss) = x ∷ merged_values ks ps ss
merged_values (false ∷ ks) [] ss = []
merged_values (false ∷ ks) (x ∷ ps) ss = x ∷ merged_values ks ps ss
