-- The steps to an observation: rows of input bits, and the bits of cones in the table of a run.
use Rattle.std.specs.Prelude.{◌++◌, ◌∷◌, [], ℕ, Bool, cond, List, codes, filter, length, map, replicate, drop}
use Rattle.std.specs.List.{flat_map, range_with_len}
use Rattle.std.specs.Str.{bytes_eq}
use Rattle.agm_net.specs.Plain.{PlainNet, is_input}
use Rattle.agm_net.specs.Run.{bit_in}
use Rattle.agm_net.specs.Trace.{Row, row_at}
use Rattle.agm_net.specs.declared.port.Port.{Port}
use Rattle.logic_graph.specs.Settled.{bit_of}
use Rattle.probe_cones.specs.Cone.{cone, output_bits_of}
use Rattle.probe_cones.specs.Inputs.{first_bit}
use Rattle.probe_cones.specs.declared.probe.Probe.{Probe}

-- whether each bit of a port is random, and whether each bit of the input ports is
abbrev pub port_flags : Port → List Bool
port_flags p = replicate (length p.bits) (bytes_eq p.name (codes "agm_r"))

abbrev pub flags_of : List Port → List Bool
flags_of ports = flat_map port_flags (filter is_input ports)

-- a row from its random bits and the others, by which bits are random
abbrev pub joined_by : List Bool → Row → Row → Row
joined_by [] others random = []
joined_by (f ∷ fs) others random =
    cond f (first_bit random ∷ joined_by fs others (drop 1 random)) (first_bit others ∷ joined_by fs (drop 1 others) random)

-- so many rows
abbrev pub joined_rows : List Bool → (inputs random : List Row) → ℕ → List Row
joined_rows flags inputs random n = map (λ t. joined_by flags (row_at inputs t) (row_at random t)) (range_with_len 0 n)

-- the bits of all wires in a cycle
abbrev pub wires_in : PlainNet → Row → List Row → ℕ → Row
wires_in net power tape t = map (bit_in net power tape t) (range_with_len 0 (length net.wires))

-- the bits of cones in a row of all wires' bits
abbrev pub seen_in : List (List ℕ) → Row → Row
seen_in cones bits = flat_map (λ c. map (bit_of bits) c) cones

-- the bits of each probe's cone in the row of its cycle
abbrev pub probed : List Row → List (List ℕ) → List Probe → Row
probed table [] probes = []
probed table (c ∷ cs) [] = []
probed table (c ∷ cs) (p ∷ ps) = map (bit_of (row_at table p.cycle)) c ++ probed table cs ps

-- what a probe sees in the table of a run, and what a listed index sees
abbrev pub probe_bits : PlainNet → List Row → Probe → Row
probe_bits net table p = map (bit_of (row_at table p.cycle)) (cone net p.wire)

abbrev pub index_bits : PlainNet → List Row → ℕ → Row
index_bits net table i = flat_map (seen_in (map (cone net) (output_bits_of net i))) table
