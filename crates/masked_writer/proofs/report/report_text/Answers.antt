use Rattle.std.proofs.Common.{◌≡◌, ◌≤◌, ◌∙◌, ap, false, Some, string_bytes}
use Rattle.serde_json.specs.Data.{depth}
use Rattle.serde_json.specs.Read.{max_depth}
use Rattle.std.proofs.lemmas.Str.{IsUtf8-string_bytes}
use Rattle.json_values.proofs.Bytes.{json_is}
use Rattle.serde_json.specs.View.{view}
use Rattle.serde_json.specs.Written.{has_float, compact_text}
use Rattle.masked_writer.specs.Report.{report_data, report_text}
use Rattle.masked_writer.proofs.Texts.{no_float, not_deep}
use Rattle.masked_writer.proofs.report.report_text.Goals as goal

pub returns-clause-exact : goal.returns-clause-exact
unfolding report_text
returns-clause-exact c =
    let plain : has_float (view c.in_ok-value.value) ≡ false = ap has_float c.in_ok-value.ensures ∙ no_float c.args.report.now in
    c.in_ok-to_string.ensures.text plain ∙ ap compact_text c.in_ok-value.ensures

pub returns-clause-reads_back : goal.returns-clause-reads_back
returns-clause-reads_back c =
    let same = c.in_ok-value.ensures in
    let deep : depth (view c.in_ok-value.value) ≤ max_depth = rw same (not_deep c.args.report.now) in
    json_is (string_bytes c.in_ok-to_string.field-0) (report_data c.args.report.now) (IsUtf8-string_bytes c.in_ok-to_string.field-0) (c.in_ok-to_string.ensures.reads_back deep ∙ ap Some same)
