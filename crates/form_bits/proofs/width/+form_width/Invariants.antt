use Rattle.std.proofs.Common.{◌≡◌, ◌≤◌, ◌+◌, ◌-◌, ◌^◌, min, drop, map}
use Rattle.verilog_reader.specs.Plain.{forms_of}
use Rattle.verilog_reader.specs.View.{form_view}
use Rattle.form_bits.specs.Forms.{look_in, form_width, forms_width}
use Rattle.form_bits.proofs.width.+form_width.Given as goal

abbrev pub invariant-loop-inner : goal.invariant-loop-inner
invariant-loop-inner l =
    (l.width ≤ 2 ^ 64 - 1)
    × (min (l.width + forms_width (look_in l.scope.names l.scope.spots) (forms_of (map form_view (drop l.inner-index l.inner-items)))) (2 ^ 64 - 1)
    ≡ min (form_width (look_in l.scope.names l.scope.spots) (form_view l.form)) (2 ^ 64 - 1))
