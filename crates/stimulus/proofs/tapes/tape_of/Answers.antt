use Rattle.std.proofs.Common.{◌≡◌, List, None, map, sym, ap, subst, ◌∙◌}
use Rattle.agm_net.specs.View.{plain_of}
use Rattle.stimulus.proofs.Fitting.{first_wide, rows_wide}
use Rattle.stimulus.specs.Answer.{row_of}
use Rattle.stimulus.specs.Asked.{first_fault, tape_asked, tape_inputs}
use Rattle.stimulus.specs.declared.inputs.Input.{Input}
use Rattle.stimulus.proofs.tapes.tape_of.Goals as goal

pub invariant_of-result : goal.invariant_of-result
invariant_of-result c =
    let net = plain_of c.args.net.now in let cycles = c.args.cycles.now in
    let none : first_fault (tape_asked (tape_inputs net) c.args.rows cycles) ≡ None =
    subst (λ (is : List Input). first_fault (tape_asked is c.args.rows cycles) ≡ None) c.in_ok-wanted.ensures c.in_ok-check_cycles.ensures.0 in
    let are : c.in_ok-rows.rows ≡ map (row_of (tape_inputs net)) cycles = c.in_ok-rows.ensures ∙ ap (λ (is : List Input). map (row_of is) cycles) c.in_ok-wanted.ensures in
    let first = first_wide net c.args.rows cycles none c.in_ok-rows.rows c.as_slice.result.now are c.as_slice.ensures c.index-as_slice-0.result c.index-as_slice-0.is in
    record { rectangular = λ k d within. rows_wide net c.args.rows cycles none c.in_ok-rows.rows are k d within ∙ sym (c.len.ensures ∙ first) }

pub returns : goal.returns
returns c =
    let net = plain_of c.args.net.now in let cycles = c.args.cycles.now in
    let none : first_fault (tape_asked (tape_inputs net) c.args.rows cycles) ≡ None =
    subst (λ (is : List Input). first_fault (tape_asked is c.args.rows cycles) ≡ None) c.in_ok-wanted.ensures c.in_ok-check_cycles.ensures.0 in
    let are : c.in_ok-rows.rows ≡ map (row_of (tape_inputs net)) cycles = c.in_ok-rows.ensures ∙ ap (λ (is : List Input). map (row_of is) cycles) c.in_ok-wanted.ensures in
    (none, record { width = c.len.ensures ∙ first_wide net c.args.rows cycles none c.in_ok-rows.rows c.as_slice.result.now are c.as_slice.ensures c.index-as_slice-0.result c.index-as_slice-0.is; rows = are })
