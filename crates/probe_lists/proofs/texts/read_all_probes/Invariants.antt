use Rattle.std.proofs.Common.{◌≡◌, take, map}
use Rattle.serde_json.specs.View.{view}
use Rattle.probe_lists.specs.Written.{probe_data}
use Rattle.probe_lists.proofs.texts.read_all_probes.Given as goal

abbrev pub invariant-loop-value : goal.invariant-loop-value
invariant-loop-value l = map view (take l.value-index l.values) ≡ map probe_data l.probes
