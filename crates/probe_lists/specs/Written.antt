-- A list of probes as JSON (RFC 8259), its wires by their names.
use Rattle.std.specs.Prelude.{map, codes}
use Rattle.serde_json.specs.Data.{Data, object, array, string, member, no_members}
use Rattle.serde_json.specs.View.{items_of}
use Rattle.json_values.specs.Finds.{whole_number}
use Rattle.probe_lists.specs.declared.texts.ProbeText.{ProbeText}
use Rattle.probe_lists.specs.declared.texts.ListText.{ListText}

-- the two members of a probe
abbrev pub probe_parts : ProbeText → Data × Data
probe_parts p = (whole_number p.cycle, string p.wire)

-- a probe: an object of exactly these keys, in the order of their bytes
abbrev pub probe_data : ProbeText → Data
probe_data p = object (member (codes "cycle") (probe_parts p).0 (member (codes "wire") (probe_parts p).1 no_members))

-- the two members of a list of probes
abbrev pub list_parts : ListText → Data × Data
list_parts t = (array (items_of (map whole_number t.indices)), array (items_of (map probe_data t.probes)))

-- a list of probes: an object of exactly these keys
abbrev pub list_data : ListText → Data
list_data t = object (member (codes "indices") (list_parts t).0 (member (codes "probes") (list_parts t).1 no_members))
