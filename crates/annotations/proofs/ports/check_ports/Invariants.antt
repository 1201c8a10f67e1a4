use Rattle.std.proofs.Common.{◌≡◌, drop, map, Result}
use Rattle.std.specs.List.{flat_map, enumerate_from}
use Rattle.agm_net.specs.Plain.{PlainNet}
use Rattle.annotations.specs.Asked.{asked}
use Rattle.annotations.specs.Rules.{Passes}
use Rattle.annotations.specs.declared.fault.AnnotationFault.{AnnotationFault}
use Rattle.top_module.specs.Ports.{facts_of}
use Rattle.verilog_reader.specs.Plain.{PlainModule}
use Rattle.annotations.proofs.ports.check_ports.Given as goal

abbrev pub invariant-loop-number : goal.invariant-loop-number
invariant-loop-number l = (top : PlainModule) (net : PlainNet) → net.clock ≡ l.clock → l.facts ≡ map (λ p. facts_of top p.name) l.ports → (answer : Result (Unit {0}) AnnotationFault)
    → Passes top net (flat_map (asked l.whole) (enumerate_from l.number (drop l.number l.ports))) answer → Passes top net (flat_map (asked l.whole) (enumerate_from 0 l.ports)) answer
