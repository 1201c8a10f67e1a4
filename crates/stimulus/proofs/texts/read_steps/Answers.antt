use Rattle.std.proofs.Common.{subst}
use Rattle.serde_json.specs.View.{view}
use Rattle.json_values.proofs.Values.{no_items}
use Rattle.json_values.specs.Finds.{Finds}
use Rattle.stimulus.specs.Written.{step_data}
use Rattle.stimulus.proofs.texts.read_steps.Goals as goal

pub returns-in-None : goal.returns-in-None
returns-in-None c xs same =
    let v = c.value-item.result in
    no_items step_data c.args.values.now c.loop-value.value-index v c.loop-value-test.true c.value-item.is (subst (Finds step_data (view v)) c.in-None.is c.in_ok-read.ensures) xs same
