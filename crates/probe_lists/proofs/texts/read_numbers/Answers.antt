use Rattle.std.proofs.Common.{subst}
use Rattle.serde_json.specs.View.{view}
use Rattle.json_values.proofs.Values.{no_items}
use Rattle.json_values.specs.Finds.{Finds, whole_number}
use Rattle.probe_lists.proofs.texts.read_numbers.Goals as goal

pub returns-in-None : goal.returns-in-None
returns-in-None c xs same =
    let v = c.value-item.result in
    no_items whole_number c.args.values.now c.loop-value.value-index v c.loop-value-test.true c.value-item.is (subst (Finds whole_number (view v)) c.in-None.is c.whole_number.ensures) xs same
