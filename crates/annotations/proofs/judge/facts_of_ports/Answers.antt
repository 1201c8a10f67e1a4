use Rattle.std.proofs.Common.{ℕ, List, length, get_or, map, ap, ap₂, ◌∙◌}
use Rattle.std.proofs.lemmas.List.{length-map}
use Rattle.std.proofs.lemmas.Result.{IfOk-weaker}
use Rattle.agm_net.specs.declared.port.Port.{Port}
use Rattle.annotations.proofs.Verdict.{facts_of_all, top_is}
use Rattle.top_module.specs.Ports.{facts_of}
use Rattle.verilog_reader.specs.Plain.{PlainModule}
use Rattle.verilog_reader.specs.View.{module_view}
use Rattle.verilog_reader.specs.declared.design.Module.{Module}
use Rattle.annotations.proofs.judge.facts_of_ports.Goals as goal

pub returns : goal.returns
returns c = record {
  long = IfOk-weaker c.name_facts.result _ _ (λ facts h. ap length h ∙ (length-map c.in_ok-names.names _ ∙ (ap length c.in_ok-names.ensures ∙ length-map c.args.ports.now (λ (p : Port). p.name)))) c.name_facts.ensures;
  facts = IfOk-weaker c.name_facts.result _ _
      (λ facts h top is_top.
      let same = top_is c.args.design.now.modules c.in_ok-number.number c.index-as_slice-number.result top c.in_ok-number.ensures.0 (c.in_ok-number.ensures.1 top is_top) in
      h ∙ (ap₂ (λ (m : PlainModule) (ns : List (List ℕ)). map (facts_of m) ns) (ap module_view c.index-as_slice-number.is ∙ (ap (λ (ms : List Module). module_view (get_or ms c.in_ok-number.number c.index-as_slice-number.result)) c.as_slice.ensures ∙ same)) c.in_ok-names.ensures ∙ facts_of_all top c.args.ports.now))
      c.name_facts.ensures;
}
