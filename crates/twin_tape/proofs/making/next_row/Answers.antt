use Rattle.std.proofs.Common.{◌≡◌, ◌++◌, ◌∷◌, [], List, length, ap, ap₂, sym, subst, ◌∙◌, arith}
use Rattle.agm_net.specs.Plain.{data_ports, input_bits}
use Rattle.agm_net.specs.Trace.{Row}
use Rattle.agm_net.specs.View.{plain_of}
use Rattle.cycle_sim.specs.HasRun.{HasRun}
use Rattle.probe_cones.specs.Observing.{joined_by, wires_in}
use Rattle.twin_tape.specs.Changes.{changed_row}
use Rattle.twin_tape.proofs.Running.{row_wide}
use Rattle.twin_tape.proofs.making.next_row.Goals as goal

pub step-requires : goal.step-requires
step-requires c =
    let net = plain_of c.args.net.now in
    ap (λ r. length r) (c.as_slice.ensures ∙ c.in_ok-drawn.ensures) ∙ (row_wide net c.args.flags.now c.args.second.now c.args.random.now c.requires.flags ∙ sym c.requires.running.2.inputs)

pub redo-requires : goal.redo-requires
redo-requires c =
    let net = plain_of c.args.net.now in
    let stepped = c.step.ensures net c.requires.running.0 c.requires.running.1 c.requires.running.2 in
    ap (λ r. length r) (c.as_slice-2.ensures ∙ c.in_ok-changed.ensures) ∙ (row_wide net c.args.flags.now c.args.second.now c.in_ok-row.row c.requires.flags ∙ sym stepped.inputs)

pub returns : goal.returns
returns c = λ power before ran fits. (
    let net = plain_of c.args.net.now in
    let drawn : c.as_slice.result.now ≡ joined_by c.args.flags.now c.args.second.now c.args.random.now = c.as_slice.ensures ∙ c.in_ok-drawn.ensures in
    let stepped : HasRun net power (before ++ joined_by c.args.flags.now c.args.second.now c.args.random.now ∷ []) c.step.new.self =
    subst (λ r. HasRun net power (before ++ r ∷ []) c.step.new.self) drawn (c.step.ensures net power before ran) in
    let seen = c.in_ok-other.ensures net power before (joined_by c.args.flags.now c.args.second.now c.args.random.now) c.requires.no_loop fits stepped in
    let changed : c.as_slice-2.result.now ≡ joined_by c.args.flags.now c.args.second.now c.in_ok-row.row = c.as_slice-2.ensures ∙ c.in_ok-changed.ensures in (
      c.in_ok-row.ensures ∙ ap (λ o. changed_row c.args.plan.now c.args.table.now o c.args.cycle c.args.pairs.now c.args.random.now) seen,
      subst (λ r. HasRun net power (before ++ r ∷ []) c.redo.new.self) changed (c.redo.ensures net power before (joined_by c.args.flags.now c.args.second.now c.args.random.now) stepped),
    ))
