use Rattle.std.specs.Prelude.{codes}
use Rattle.serde_json.specs.View.{view}
use Rattle.probe_lists.proofs.Parts.{two_read}
use Rattle.probe_lists.specs.Written.{probe_parts}
use Rattle.probe_lists.proofs.texts.read_probe.Goals as goal

pub returns-in-None : goal.returns-in-None
returns-in-None c p same = c.in-None.ensures (probe_parts p) same

pub returns-in-Some : goal.returns-in-Some
returns-in-Some c =
    two_read (codes "cycle") (codes "wire") probe_parts (view c.args.value.now) (view c.in-Some.cycle.now) (view c.in-Some.wire.now) c.read_parts.result c.in-Some.ensures c.read_parts.ensures
