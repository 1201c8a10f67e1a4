-- The label of a random bit by what reads it.
use Rattle.std.specs.Prelude.{List, Option, Some, None}
use Rattle.agm_net.specs.declared.label.Label.{Label}
use Rattle.agm_net.specs.declared.label.Label.TheVariants.{Random}
use Rattle.agm_net.specs.declared.label.Part.{Part}
use Rattle.agm_net.specs.declared.label.PartKind.{PartKind}
use Rattle.agm_net.specs.declared.label.PartKind.TheVariants.{R}
use Rattle.hpc2_audit.specs.Standing.{said_at}
use Rattle.hpc2_audit.specs.declared.readers.Readers.{Readers}
use Rattle.hpc2_audit.specs.declared.readers.Readers.TheVariants.{One as JustOne}
use Rattle.hpc2_audit.specs.declared.spelled.Spelled.{Spelled}
use Rattle.hpc2_audit.specs.declared.spelled.Spelled.TheVariants.{OfPart}

abbrev pub pair_label : PartKind → Part → Option Label
pair_label R p = Some (Random p.gadget p.i p.j)
pair_label _ p = None

abbrev pub read_by : Spelled → Option Label
read_by (OfPart p) = pair_label p.kind p
read_by _ = None

abbrev pub random_label : List Spelled → Readers → Option Label
random_label said (JustOne v) = read_by (said_at said v)
random_label said _ = None
