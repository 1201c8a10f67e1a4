-- What the tables of an audit say of a net.
use Rattle.std.specs.Prelude.{◌≡◌, ◌<◌, ◌&&◌, ℕ, Bool, List, codes, length, map}
use Rattle.std.specs.List.{list_any}
use Rattle.std.specs.Str.{bytes_eq}
use Rattle.agm_net.specs.Network.{random_bits_of}
use Rattle.agm_net.specs.Plain.{PlainNet, clock_bits, is_input}
use Rattle.agm_net.specs.WellFormed.{WellFormed}
use Rattle.agm_net.specs.declared.port.Port.{Port}
use Rattle.hpc2_audit.specs.Places.{ArePlaces}
use Rattle.hpc2_audit.specs.Readers.{AreReaders}
use Rattle.hpc2_audit.specs.Standing.{AreSaid}
use Rattle.hpc2_audit.specs.declared.places.Place.{Place}
use Rattle.hpc2_audit.specs.declared.places.Place.TheVariants.{Nowhere, At}
use Rattle.hpc2_audit.specs.declared.sheet.Sheet.{Sheet}
use Rattle.hpc2_audit.specs.declared.spelled.Spelled.{Spelled}
use Rattle.hpc2_audit.specs.declared.spelled.Spelled.TheVariants.{OfUser, OfPublic, OfNothing}

-- names among which are those of wires, and no others
abbrev pub AreNamesOf : List (List ℕ) → List (List ℕ) → Type 0
AreNamesOf wires names = (name : List ℕ) → list_any (λ n. bytes_eq n name) names ≡ list_any (λ n. bytes_eq n name) wires

-- what a name says, by where its wire stands among the bits of ports
abbrev pub settled : Spelled → Place → Spelled
settled OfUser (At k) = OfPublic
settled OfUser Nowhere = OfNothing
settled s place = s

abbrev pub is_random_port : Port → Bool
is_random_port p = is_input p && bytes_eq p.name (codes "agm_r")

-- the tables of a net: what names say, where a wire is driven, and who reads it
pub record IsSheet (net : PlainNet) (sheet : Sheet) : Type 0 where
  pub well : WellFormed net
  pub small : sheet.order < 16
  pub said : AreSaid net sheet.order sheet.said
  pub lines : ArePlaces (map (λ l. l.0) net.lines) (length net.wires) sheet.lines
  pub registers : ArePlaces (map (λ r. r.q) net.registers) (length net.wires) sheet.registers
  pub clock : ArePlaces (clock_bits net) (length net.wires) sheet.clock
  pub random : ArePlaces (random_bits_of net) (length net.wires) sheet.random
  pub readers : AreReaders net sheet.readers
  pub names : AreNamesOf net.wires sheet.names
