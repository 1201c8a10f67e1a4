use Rattle.std.proofs.Common.{◌≡◌, Bool, IfOk, List, ap, sym, subst, ◌∙◌, length}
use Rattle.std.specs.List.{All}
use Rattle.agm_net.specs.Plain.{data_ports, input_bits}
use Rattle.agm_net.specs.Run.{run_of}
use Rattle.agm_net.specs.Trace.{Row}
use Rattle.agm_net.specs.View.{plain_of}
use Rattle.probe_cones.specs.Observing.{flags_of, joined_rows}
use Rattle.probe_cones.proofs.Joined.{rows_are, wide_rows}
use Rattle.probe_cones.proofs.run.run_table.Goals as goal

same_rows : (fs F : List Bool) (i I r R : List Row) → fs ≡ F → i ≡ I → r ≡ R → joined_rows fs i r (length i) ≡ joined_rows F I R (length I)
same_rows fs F i I r R e f g = ap (λ x. joined_rows x i r (length i)) e ∙ (ap (λ x. joined_rows F x r (length x)) f ∙ ap (λ x. joined_rows F I x (length I)) g)

pub run-requires-clause-as_wide : goal.run-requires-clause-as_wide
run-requires-clause-as_wide c =
    let net = plain_of c.args.net.now in
    let inputs = c.args.inputs.now.rows in
    let random = c.args.random.now.rows in
    subst (All (λ r. length r ≡ length (input_bits net)))
    (sym (c.as_slice-4.ensures ∙ (c.in_ok-tape.ensures ∙ same_rows c.as_slice.result.now (flags_of (data_ports net)) c.as_slice-2.result.now inputs c.as_slice-3.result.now random (c.as_slice.ensures ∙ c.in_ok-flags.ensures) c.as_slice-2.ensures c.as_slice-3.ensures)))
    (wide_rows net inputs random (length inputs))

pub returns : goal.returns
returns c =
    let net = plain_of c.args.net.now in
    let inputs = c.args.inputs.now.rows in
    let random = c.args.random.now.rows in
    subst (λ tape. IfOk c.run.result (λ table. table ≡ run_of net c.args.power_up.now tape))
    (c.as_slice-4.ensures ∙ (c.in_ok-tape.ensures ∙ (same_rows c.as_slice.result.now (flags_of (data_ports net)) c.as_slice-2.result.now inputs c.as_slice-3.result.now random (c.as_slice.ensures ∙ c.in_ok-flags.ensures) c.as_slice-2.ensures c.as_slice-3.ensures ∙ rows_are net inputs random c.requires.as_long)))
    c.run.ensures
