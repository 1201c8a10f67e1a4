use Rattle.std.proofs.Common.{◌≡◌, ap, sym, length, ◌∙◌, arith, rules, refl}
use Rattle.std.proofs.lemmas.List.{length-map}
use Rattle.agm_net.specs.Plain.{stored_of}
use Rattle.agm_net.specs.View.{plain_of}
use Rattle.cycle_sim.proofs.Cycles.{graph_sources, no_rows}
use Rattle.cycle_sim.proofs.sim.Sim.begin.Goals as goal

pub invariant_of-result : goal.invariant_of-result
invariant_of-result c =
    let net = plain_of c.args.net.now in
    let inputs = c.len-inputs.ensures ∙ ap length c.in_ok-input_bits.ensures in
    let many : length c.in_ok-registers.registers ≡ length net.registers = ap length c.in_ok-registers.ensures ∙ (c.requires.many ∙ sym (length-map c.args.net.now.registers stored_of)) in
    let sinks = c.requires.graph_of.sinks in
    record {
      as_many = search rules;
      sinks = omega arith;
      sources = λ k n at. graph_sources net c.args.graph c.len-inputs.result (length c.in_ok-registers.registers) k n c.requires.graph_of inputs many at;
    }

pub returns : goal.returns
returns c =
    let net = plain_of c.args.net.now in
    record {
      is_net = c.args.net.now.well_formed;
      graph_of = c.requires.graph_of;
      computes = c.requires.computes;
      inputs = c.len-inputs.ensures ∙ ap length c.in_ok-input_bits.ensures;
      registers = ap length c.in_ok-registers.ensures ∙ (c.requires.many ∙ sym (length-map c.args.net.now.registers stored_of));
      not_run = λ none. (refl, c.in_ok-registers.ensures);
      run = λ before last e. absurd (no_rows before last (sym e));
    }
