use Rattle.std.proofs.Common.{◌≡◌, ◌++◌, drop, map}
use Rattle.verilog_reader.specs.Plain.{forms_of}
use Rattle.verilog_reader.specs.View.{form_view}
use Rattle.design_text.specs.Parts.{parts_text}
use Rattle.design_text.specs.Written as spec
use Rattle.design_text.proofs.forms.+form.Given as goal

abbrev pub invariant-loop-next : goal.invariant-loop-next
invariant-loop-next l =
    l.text ++ parts_text (spec.more_parts (forms_of (map form_view (drop l.next-index l.rest)))) ≡ l.initial.text ++ parts_text (spec.more_parts (forms_of (map form_view l.rest)))
