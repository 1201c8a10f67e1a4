use Rattle.std.proofs.Common.{ap, sym, ◌∙◌}
use Rattle.std.specs.Option.{option_map}
use Rattle.serde_json.specs.Data.{string}
use Rattle.serde_json.specs.View.{view}
use Rattle.json_values.proofs.Values.{no_items, no_string}
use Rattle.masked_writer.proofs.members.names_at.Goals as goal

pub returns-in-None : goal.returns-in-None
returns-in-None c names any same =
    let v = c.value-item.result in
    no_items string c.args.values.now c.loop-value.value-index v c.loop-value-test.true c.value-item.is
    (λ text is. no_string (view v) text (sym c.as_str.ensures ∙ ap (option_map (λ s. s.now)) c.in-None.is) is) names (cc)
