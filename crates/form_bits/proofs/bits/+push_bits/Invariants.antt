use Rattle.std.proofs.Common.{◌≡◌, ◌++◌, drop, map}
use Rattle.verilog_reader.specs.Plain.{forms_of}
use Rattle.verilog_reader.specs.View.{form_view}
use Rattle.form_bits.specs.Forms.{look_in, form_bits, forms_bits}
use Rattle.form_bits.proofs.bits.+push_bits.Given as goal

abbrev pub invariant-loop-inner : goal.invariant-loop-inner
invariant-loop-inner l =
    l.bits ++ forms_bits (look_in l.scope.names l.scope.spots) l.base (forms_of (map form_view (drop l.inner-index l.inner-items)))
    ≡ l.initial.bits ++ form_bits (look_in l.scope.names l.scope.spots) l.base (form_view l.form)
