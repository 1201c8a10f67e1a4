-- Which wires are bits of ports, and the bit of each wire.
use Rattle.std.specs.Prelude.{◌≤◌, ◌<◌, ℕ, List, [], length, map, fold, replicate, Option, Some, None, slice_get, slice_set, slice_index_or}
use Rattle.std.specs.Int.{abs_diff}
use Rattle.std.specs.List.{flat_map, enumerate_from}
use Rattle.agm_net.specs.Checks.{number_at}
use Rattle.agm_net.specs.Plain.{PlainNet}
use Rattle.agm_net.specs.declared.port.Range.{Range}
use Rattle.agm_net.specs.declared.port.Port.{Port}
use Rattle.net_design.specs.Bits.{Bit, plain_bit}
use Rattle.net_design.specs.declared.sites.Site.{Site}

-- the index of bit i of a port with this range, or without one
abbrev pub index_at : Option Range → ℕ → Option ℕ
index_at None i = None
index_at (Some r) i = Some (number_at r.msb r.lsb i)

-- bit i is one of a range
abbrev pub IsWithin : Option Range → ℕ → Type 0
IsWithin None i = Unit {0}
IsWithin (Some r) i = i ≤ abs_diff r.msb r.lsb

-- each bit of a port is one of its range
abbrev pub BitsFit : Port → Type 0
BitsFit p = (i : ℕ) → i < length p.bits → IsWithin p.range i

-- bit i of port k, and its wire
abbrev pub bit_site : ℕ → Option Range → ℕ × ℕ → ℕ × Site
bit_site k range b = (b.1, record { port = k; index = index_at range b.0 })

-- the bits of a port, from its number and the port
abbrev pub port_sites : ℕ × Port → List (ℕ × Site)
port_sites p = map (bit_site p.0 p.1.range) (enumerate_from 0 p.1.bits)

abbrev pub all_sites : List Port → List (ℕ × Site)
all_sites ports = flat_map port_sites (enumerate_from 0 ports)

-- the table with one more bit
abbrev pub put : List (Option Site) → ℕ × Site → List (Option Site)
put sites s = slice_set sites s.0 (Some s.1)

-- for each wire the bit of a port that it is, None where it is none
abbrev pub sites_of : PlainNet → List (Option Site)
sites_of net = fold put (replicate (length net.wires) None) (all_sites net.ports)

abbrev pub site_at : List (Option Site) → ℕ → Option Site
site_at sites w = slice_index_or sites w None

abbrev pub name_of : Option Port → List ℕ
name_of None = []
name_of (Some p) = p.name

-- the bit of a wire of this name, by its place in the table
abbrev pub site_bit : List Port → List ℕ → Option Site → Bit
site_bit ports name None = plain_bit name
site_bit ports name (Some s) = record { name = name_of (slice_get ports s.port); index = s.index }

-- the bit of a wire
abbrev pub bit_of : PlainNet → List (Option Site) → ℕ → Bit
bit_of net sites w = site_bit net.ports (slice_index_or net.wires w []) (site_at sites w)
