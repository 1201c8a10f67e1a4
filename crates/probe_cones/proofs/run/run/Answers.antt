use Rattle.std.proofs.Common.{◌++◌, ◌∷◌, [], take, ap₂, sym, subst, ◌∙◌, arith}
use Rattle.std.proofs.lemmas.List.FromFn.{map-range_with_len_more}
use Rattle.agm_net.specs.Plain.{stored_of}
use Rattle.agm_net.specs.View.{plain_of}
use Rattle.std.proofs.lemmas.List.{length-map}
use Rattle.cycle_sim.specs.HasRun.{HasRun}
use Rattle.probe_cones.specs.Observing.{wires_in}
use Rattle.probe_cones.proofs.Running.{fits_so_far, row_more, row_now}
use Rattle.probe_cones.proofs.run.run.Goals as goal

pub loop-row-preserved : goal.loop-row-preserved
loop-row-preserved c =
    let net = plain_of c.args.net.now in
    let well = c.args.net.now.well_formed in
    let power = c.args.power_up.now in
    let tape = c.args.tape.now in
    let i = c.loop-row.row-index in
    let row = c.row-item.result in
    let lt = c.loop-row-test.true in
    let now = c.step.new.self in
    let ran : HasRun net power (take i tape ++ row ∷ []) now = subst (λ r. HasRun net power (take i tape ++ r ∷ []) now) c.as_slice.ensures (c.step.ensures net power (take i tape) c.loop-row.invariant.ran) in
    record {
      ran = subst (λ t. HasRun net power t now) (sym (row_more tape i row lt c.row-item.is)) ran;
      so_far =
          c.in_ok-push.ensures.ok
          ∙ (ap₂ (λ rows r. rows ++ r ∷ []) c.loop-row.invariant.so_far
          (c.in_ok-bits_of_wires.ensures net power (take i tape) row c.requires.no_loop (fits_so_far net power tape i row (c.requires.powered ∙ sym (length-map c.args.net.now.registers stored_of)) c.requires.as_wide lt c.row-item.is) ran
          ∙ row_now net well c.requires.no_loop power tape i row lt c.row-item.is)
          ∙ sym (map-range_with_len_more (wires_in net power tape) 0 i i (omega arith)));
    }
