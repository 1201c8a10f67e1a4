-- What an outline holds of declared names.
use Rattle.std.specs.Prelude.{◌≡◌, List, [], ◌∷◌, map}
use Rattle.agm_net.specs.declared.port.Way.{Way}
use Rattle.top_module.specs.declared.facts.PortFacts.{PortFacts}
use Rattle.verilog_reader.specs.Plain.{PlainModule}
use Rattle.form_bits.specs.Forms.{Text}
use Rattle.module_outlines.specs.Outlines as spec
use Rattle.module_outlines.specs.declared.wide.Wide.{Wide}
use Rattle.module_outlines.specs.declared.outline.Outline.{Outline}

abbrev pub wide_view : Wide → spec.Wide
wide_view w = record { name = w.name; range = w.range }

-- the ports of these names of which these facts are known
abbrev pub wides_by : List Text → List PortFacts → List spec.Wide
wides_by [] facts = []
wides_by (n ∷ ns) [] = []
wides_by (n ∷ ns) (f ∷ fs) = spec.wide (spec.kind_range f.kind) n ∷ wides_by ns fs

abbrev pub way_by : PortFacts → Way
way_by f = spec.kind_way f.kind

-- The outline of a module: its declared names, their spots, those of its ports and their ways, and how many bits there are.
pub record Outlines (m : PlainModule) (o : Outline) : Type 0 where
  pub wides : map wide_view o.wides ≡ spec.wides m
  pub names : o.names.names ≡ map spec.wide_name (spec.wides m)
  pub spots : o.names.spots ≡ spec.spots_from 0 (spec.wides m)
  pub width : o.width ≡ spec.total_width (spec.wides m)
  pub ports : o.ports.names ≡ m.ports
  pub port_spots : o.ports.spots ≡ spec.spots_from 0 (map (spec.port_wide m) m.ports)
  pub ways : o.ways ≡ map (spec.port_way m) m.ports
