use Rattle.std.proofs.Common.{◌≡◌, map, ◌+◌, ◌-◌, ◌*◌}
use Rattle.verilog_tokens.specs.Row.{tokens_of}
use Rattle.verilog_reader.specs.View.{form_view}
use Rattle.verilog_reader.specs.Reading as spec
use Rattle.verilog_reader.proofs.forms.+form.Given as goal

abbrev pub decreases-form : goal.decreases-form
decreases-form l = 5 * l.depth

abbrev pub decreases-next_form : goal.decreases-next_form
decreases-next_form l = 5 * l.depth + 1

abbrev pub decreases-forms : goal.decreases-forms
decreases-forms l = 5 * l.depth + 2

abbrev pub decreases-repeat : goal.decreases-repeat
decreases-repeat l = 5 * l.depth + 3

abbrev pub decreases-join : goal.decreases-join
decreases-join l = 5 * l.depth + 3

abbrev pub decreases-braces : goal.decreases-braces
decreases-braces l = 5 * l.depth + 4

abbrev pub invariant-forms-loop : goal.invariant-forms-loop
invariant-forms-loop l = spec.with_front (map form_view l.forms) (spec.many_in spec.single (spec.begins 44) (spec.next_at (spec.form_at l.values l.depth)) (l.end - l.counter) (tokens_of l.rest)) ≡ spec.listed_at (spec.form_at l.values l.depth) (tokens_of l.bytes)
