use Rattle.std.proofs.Common.{◌≡◌, drop, map}
use Rattle.verilog_reader.specs.Plain.{forms_of}
use Rattle.verilog_reader.specs.View.{form_view}
use Rattle.form_bits.specs.Forms.{look_in, form_fault, forms_fault}
use Rattle.form_bits.proofs.unknown.+first_unknown.Given as goal

abbrev pub invariant-loop-inner : goal.invariant-loop-inner
invariant-loop-inner l =
    forms_fault (look_in l.scope.names l.scope.spots) (forms_of (map form_view (drop l.inner-index l.inner-items)))
    ≡ form_fault (look_in l.scope.names l.scope.spots) (form_view l.form)
