-- The input ports of a masked net, and the values of their bits.
use Rattle.std.specs.Prelude.{◌≡◌, ◌<◌, ◌++◌, ℕ, Bool, List, [], ◌∷◌, map, length, slice_index_or, Option}
use Rattle.std.specs.List.{AllByRecursion, flat_map}
use Rattle.agm_net.specs.Plain.{bit_names}
use Rattle.agm_net.specs.Writable.{IsWritable}
use Rattle.agm_net.specs.declared.port.Port.{Port}
use Rattle.agm_net.specs.declared.port.Range.{Range}
use Rattle.agm_net.specs.declared.port.Way.TheVariants.{Input}
use Rattle.share_wiring.specs.Adds.{Extends, AddsFact}
use Rattle.share_wiring.specs.Built.{IsNew, IsPortName, IsSmallRange}
use Rattle.share_wiring.specs.Cells.{AddsCells}
use Rattle.share_wiring.specs.Networks.{KeepsNetwork, FitsOrder}
use Rattle.share_wiring.specs.Own.{upto}
use Rattle.share_wiring.specs.Shape.{Header}
use Rattle.share_wiring.specs.Wiring.{Wiring, name_at, share}
use Rattle.pipeline_balance.specs.declared.values.Value.{Value}
use Rattle.pipeline_balance.specs.declared.values.Value.TheVariants.{Public, Secret}
use Rattle.pipeline_balance.specs.Valued.{signal}

-- the names of a port's bits
abbrev pub header_bits : Header → List (List ℕ)
header_bits h = bit_names h.name h.range

-- A port can stand beside others: its name, which a port of a masked net may have, and those of its bits are none of theirs.
pub record FitsBeside (olds : List Header) (h : Header) : Type 0 where
  pub new_name : IsNew (map (λ o. o.name) olds) h.name
  pub new_bits : AllByRecursion (IsNew (flat_map header_bits olds)) (header_bits h)
  pub written : IsWritable h.name
  pub port_name : IsPortName h.name
  pub small : IsSmallRange h.range

abbrev pub input_header : Option Range → List ℕ → Header
input_header range name = record { name = name; way = Input; range = range }

abbrev pub input_port : Option Range → (name bits : List ℕ) → Port
input_port range name bits = record { name = name; way = Input; range = range; bits = bits }

-- a row of a list of rows
abbrev pub row_of : List (List ℕ) → ℕ → List ℕ
row_of rows i = slice_index_or rows i []

-- so many input ports of these names, where port i has the wires in row i
abbrev pub input_ports : Option Range → (names rows : List (List ℕ)) → ℕ → List Port
input_ports range names rows k = upto k (λ i. input_port range (row_of names i) (row_of rows i))

-- input ports of names, each of which can stand beside others and the ones before it
abbrev pub FitOneByOne : List Header → Option Range → List (List ℕ) → Type 0
FitOneByOne olds range names = (k : ℕ) → k < length names → FitsBeside (olds ++ upto k (λ i. input_header range (row_of names i))) (input_header range (row_of names k))

-- The first k input ports of these names were made and stand last; row i has the wires of port i. A network of an order in which the
-- names may stand stays one.
pub record AreEntered (range : Option Range) (names : List (List ℕ)) (old now : Wiring) (k : ℕ) (rows : List (List ℕ)) : Type 0 where
  pub count : length rows ≡ k
  pub extends : Extends old now
  pub ports : now.ports ≡ old.ports ++ input_ports range names rows k
  pub wide : (i : ℕ) → i < k → length (row_of rows i) ≡ length (bit_names (row_of names i) range)
  pub within : (i j : ℕ) → i < k → j < length (row_of rows i) → share (row_of rows i) j < length now.wires
  pub named : (i j : ℕ) → i < k → j < length (row_of rows i) → name_at now.wires (share (row_of rows i) j) ≡ slice_index_or (bit_names (row_of names i) range) j []
  pub begun : now.gadgets ≡ old.gadgets
  pub given : now.given ≡ old.given
  pub cells : AddsCells old now
  pub network : (d : ℕ) → ((i : ℕ) → i < k → FitsOrder d (row_of names i)) → KeepsNetwork d old now
  pub value : AddsFact old now (λ cycles bits. Unit {0})

-- the value of a public wire
abbrev pub public_value : {n : ℕ} → ℕ → Value n
public_value w = Public (record { shares = w ∷ [] })

-- the secret value whose shares are the wires in place j of rows, one row for each share
abbrev pub secret_value : (n : ℕ) → List (List ℕ) → ℕ → Value n
secret_value n rows j = Secret (record { shares = upto n (λ i. share (row_of rows i) j) })

-- what the values have in a cycle in which wires have these bits
abbrev pub value_row : (n : ℕ) → (ℕ → ℕ → Bool) → ℕ → List (Value n) → List Bool
value_row n bits t values = map (λ v. signal n bits v t) values
