use Rattle.std.proofs.Common.{◌≡◌, false, ◌&&◌, take, map}
use Rattle.std.specs.List.{list_any}
use Rattle.std.specs.Prelude.{codes}
use Rattle.agm_net.specs.Plain.{is_input}
use Rattle.annotations.specs.Rules.{is_marked}
use Rattle.top_module.specs.Ports.{facts_of}
use Rattle.verilog_reader.specs.Plain.{PlainModule}
use Rattle.annotations.proofs.ports.has_secure.Given as goal

abbrev pub invariant-loop-number : goal.invariant-loop-number
invariant-loop-number l = (top : PlainModule) → l.facts ≡ map (λ p. facts_of top p.name) l.ports → list_any (λ p. is_input p && is_marked (codes "secure") top p) (take l.number l.ports) ≡ false
