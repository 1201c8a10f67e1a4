-- How output ports are made, one after another.
use Rattle.std.specs.Prelude.{◌≡◌, ◌≢◌, ◌<◌, ◌≤◌, ◌+◌, ◌-◌, ◌^◌, ◌++◌, ◌==◌, ℕ, zero, suc, Bool, true, false, cond, List, [], map, length, take, drop, slice_index_or, Option, Some, None, codes, nat_eq}
use Rattle.std.specs.List.{AllByRecursion, starts_with}
use Rattle.agm_net.specs.Plain.{PlainNet, bit_names, is_input}
use Rattle.agm_net.specs.Role.{share_name}
use Rattle.agm_net.specs.Writable.{IsWritable}
use Rattle.agm_net.specs.declared.port.Port.{Port}
use Rattle.share_wiring.specs.Adds.{Extends, AddsFact, random_bits}
use Rattle.share_wiring.specs.Cells.{AddsCells}
use Rattle.share_wiring.specs.Networks.{KeepsNetwork, IsServed}
use Rattle.share_wiring.specs.Own.{upto}
use Rattle.share_wiring.specs.Recombine.{port_value, recombined_rows}
use Rattle.share_wiring.specs.Shape.{Header, header_of}
use Rattle.share_wiring.specs.Wiring.{Wiring, IsSharing, net_of}
use Rattle.share_wiring.specs.declared.sharing.Sharing.{Sharing}
use Rattle.pipeline_balance.specs.declared.values.Value.{Value}
use Rattle.pipeline_balance.specs.Apart.{Apart, IsHeader}
use Rattle.pipeline_balance.specs.Shared.{shared, Adds}
use Rattle.pipeline_balance.specs.Chained.{value_at}
use Rattle.pipeline_balance.specs.Ports.{value_row}
use Rattle.pipeline_balance.specs.Sound.{KeepsComplete}
use Rattle.pipeline_balance.specs.Valued.{is_secret}

-- how many ports stand for a port, where there are n shares
abbrev pub made_count : ℕ → Bool → ℕ
made_count n is_shared = cond is_shared n 1

-- the i-th of them: that of share i of a shared port, or a public port itself
abbrev pub made_header : Bool → Port → ℕ → Header
made_header true p i = record { name = share_name i p.name; way = p.way; range = p.range }
made_header false p i = header_of p

-- what a net has for a port: what its shares recombine to, or its own bits
abbrev pub made_value : ℕ → Bool → PlainNet → List ℕ → (ℕ → Bool) → List Bool
made_value n is_shared net name bit = cond is_shared (recombined_rows (n - 1) (λ i. port_value net (share_name i name) bit)) (port_value net name bit)

-- so many ports can stand beside each other, and beside others
pub record FitTogether (olds : List Header) (m : ℕ) (header : ℕ → Header) : Type 0 where
  pub beside : (i : ℕ) → i < m → AllByRecursion (λ g. Apart g (header i)) olds
  pub apart : (i j : ℕ) → i < j → j < m → Apart (header i) (header j)
  pub headers : (i : ℕ) → i < m → IsHeader (header i)

-- The first m ports with these headers were made, the first of them at a place. In each run port i has the bits of the wires in row i. All
-- other ports have the bits that they had. A network of an order in which the ports may be given these wires stays one.
pub record AreRowsLed (place m : ℕ) (header : ℕ → Header) (row : ℕ → List ℕ) (old now : Wiring) : Type 0 where
  pub extends : Extends old now
  pub cells : AddsCells old now
  pub begun : now.gadgets ≡ old.gadgets
  pub given : now.given ≡ old.given
  pub random : random_bits now.ports ≡ random_bits old.ports
  pub network : (d : ℕ) → ((i : ℕ) → i < m → IsServed d old.wires (header i).name (row i)) → KeepsNetwork d old now
  pub headers : map header_of now.ports ≡ take place (map header_of old.ports) ++ (upto m header ++ drop place (map header_of old.ports))
  pub keeps : (name : List ℕ) → ((i : ℕ) → i < m → (header i).name ≢ name) → (bit : ℕ → Bool) → port_value (net_of now) name bit ≡ port_value (net_of old) name bit
  pub told : AddsFact old now (λ cycles bits. (t : ℕ) → t < cycles → (i : ℕ) → i < m → port_value (net_of now) (header i).name (bits t) ≡ map (bits t) (row i))

-- The ports that stand for an output port were made, the first of them at a place: in each run they have these values. A sound net whose
-- random bits were all given stays one.
pub record IsPortLed (n : ℕ) (is_shared : Bool) (p : Port) (values : List (Value n)) (place : ℕ) (old now : Wiring) : Type 0 where
  pub extends : Extends old now
  pub complete : KeepsComplete n old now
  pub headers : map header_of now.ports ≡ take place (map header_of old.ports) ++ (upto (made_count n is_shared) (made_header is_shared p) ++ drop place (map header_of old.ports))
  pub keeps : (name : List ℕ) → ((i : ℕ) → i < made_count n is_shared → (made_header is_shared p i).name ≢ name) → (bit : ℕ → Bool) → port_value (net_of now) name bit ≡ port_value (net_of old) name bit
  pub told : AddsFact old now (λ cycles bits. (t : ℕ) → t < cycles → made_value n is_shared (net_of now) p.name (bits t) ≡ value_row n bits t values)

-- the sharing of a number in a list
abbrev pub sharing_of : {n : ℕ} → List (Sharing n) → ℕ → List ℕ
sharing_of sharings j = (slice_index_or sharings j (record { shares = [] })).shares

-- A sharing for each value, with what it has.
pub record AreSpread (n : ℕ) (old now : Wiring) (values : List (Value n)) (sharings : List (Sharing n)) : Type 0 where
  pub one_each : length sharings ≡ length values
  pub each : (j : ℕ) → j < length sharings → IsSharing now.wires n (sharing_of sharings j)
  pub adds : Adds n old now 0 0 (λ cycles bits. (t : ℕ) → t < cycles → map (λ z. shared n bits z.shares t) sharings ≡ value_row n bits t values)

-- whether the port of this number is the clock's
abbrev pub is_clock : Option ℕ → ℕ → Bool
is_clock None k = false
is_clock (Some c) k = c == k

-- What is wanted of an output port and the values from one number on, before the ports that stand for it are made.
pub record CanLeave (n : ℕ) (is_shared : Bool) (p : Port) (values : List (Value n)) (place at : ℕ) (net : Wiring) : Type 0 where
  pub fit : FitTogether (map header_of net.ports) (made_count n is_shared) (made_header is_shared p)
  pub free : starts_with nat_eq p.name (codes "agm_") ≡ false
  pub written : IsWritable p.name
  pub place_is : (1 ≤ place) × (place ≤ length net.ports)
  pub room : place + made_count n is_shared < 2 ^ 64
  pub bits : length p.bits ≡ length (bit_names p.name p.range)
  pub within : at + length p.bits ≤ length values
  pub public : is_shared ≡ false → (j : ℕ) → j < length p.bits → is_secret (value_at values (at + j)) ≡ false

-- An input port is left alone, and the ports that stand for an output port were made, with the values from one number on.
abbrev pub HasLeft : (n : ℕ) → Bool → Port → List (Value n) → (place at : ℕ) → (old now : Wiring) → (next : ℕ) → Type 0
HasLeft n is_shared p values place at old now next =
    cond (is_input p) ((next ≡ at) × (now ≡ old)) ((next ≡ at + length p.bits) × IsPortLed n is_shared p (take (length p.bits) (drop at values)) place old now)

-- how many input ports of so many bits stand for so many names: none where there is no bit
abbrev pub ports_of_width : (width names : ℕ) → ℕ
ports_of_width zero names = 0
ports_of_width (suc n) names = names
