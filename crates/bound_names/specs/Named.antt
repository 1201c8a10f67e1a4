-- Ports as a design declares them.
use Rattle.std.specs.Prelude.{◌≤◌, Option, Some, None}
use Rattle.agm_net.specs.Writable.{IsWritable}
use Rattle.agm_net.specs.declared.port.Port.{Port}
use Rattle.agm_net.specs.declared.port.Range.{Range}

-- the numbers of a range are at most 65,535
abbrev pub HasSmallNumbers : Option Range → Type 0
HasSmallNumbers None = Unit {0}
HasSmallNumbers (Some r) = (r.msb ≤ 65535) × (r.lsb ≤ 65535)

-- a port whose name can be written, and whose range has small numbers
abbrev pub IsNamed : Port → Type 0
IsNamed p = IsWritable p.name × HasSmallNumbers p.range
