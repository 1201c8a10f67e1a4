-- Ports by their names with ranges and their ways.
use Rattle.std.specs.Prelude.{◌+◌, ℕ, List, [], ◌∷◌}
use Rattle.std.specs.List.{range_with_len}
use Rattle.agm_net.specs.declared.port.Port.{Port}
use Rattle.agm_net.specs.declared.port.Way.{Way}
use Rattle.form_bits.specs.Forms.{range_width}
use Rattle.module_outlines.specs.Outlines.{Wide}

abbrev pub port_at : (first : ℕ) → Wide → Way → Port
port_at first w way = record { name = w.name; way = way; range = w.range; bits = range_with_len first (range_width w.range) }

-- as many as there are both
abbrev pub ports_by : (first : ℕ) → List Wide → List Way → List Port
ports_by first [] ways = []
ports_by first (w ∷ ws) [] = []
ports_by first (w ∷ ws) (way ∷ ways) = port_at first w way ∷ ports_by (first + range_width w.range) ws ways
