-- A net that has the ports of a design's top module.
use Rattle.std.specs.Prelude.{◌≡◌, ℕ, List, Option, Some, map}
use Rattle.agm_net.specs.Plain.{PlainNet}
use Rattle.agm_net.specs.declared.port.Port.{Port}
use Rattle.verilog_reader.specs.Plain.{PlainModule, PlainDesign}
use Rattle.top_module.specs.Top.{IsTop}
use Rattle.top_module.specs.Ports.{kind_of, clock_of}
use Rattle.top_module.specs.declared.facts.Kind.{Kind}

-- a port's name, way and range
abbrev pub Face : Type 0
Face = List ℕ × Option Kind

abbrev pub face_of_port : Port → Face
face_of_port p = (p.name, Some (record { way = p.way; range = p.range }))

abbrev pub face_of_name : PlainModule → List ℕ → Face
face_of_name m name = (name, kind_of m name)

-- The net's ports are those of a module: the listed names in their order, with the way and range that the module declares, and the
-- clock is the module's.
pub record HasPortsOf (m : PlainModule) (net : PlainNet) : Type 0 where
  pub ports : map face_of_port net.ports ≡ map (face_of_name m) m.ports
  pub clock : net.clock ≡ clock_of m

-- the net's ports are those of the design's one top module
abbrev pub HasTopPorts : PlainDesign → PlainNet → Type 0
HasTopPorts d net = (m : PlainModule) × IsTop d m × HasPortsOf m net
