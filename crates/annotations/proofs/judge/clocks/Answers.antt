use Rattle.std.proofs.Common.{◌≡◌, ℕ, Option, List, map, refl, sym, ap, subst, ◌∙◌, Err}
use Rattle.std.specs.List.{flat_map, enumerate_from}
use Rattle.std.proofs.lemmas.Result.{err_from_is_err_and}
use Rattle.agm_net.specs.View.{plain_of}
use Rattle.agm_net.specs.declared.port.Port.{Port}
use Rattle.annotations.proofs.Verdict.{none_both, fault_left, handed, rest_decides, handed_on}
use Rattle.annotations.specs.Rules.{Broken, clock_rules_of, use_rules, clock_rules, NoneBroken, Answers, Passes}
use Rattle.top_module.specs.Ports.{facts_of}
use Rattle.annotations.proofs.judge.clocks.Goals as goal

pub returns-in_err-check_ports : goal.returns-in_err-check_ports
returns-in_err-check_ports c top is_top =
    let net = plain_of c.args.net.now in let f = c.in_err-check_ports.field-0.0 in
    let all : c.as_slice-3.result.now ≡ map (λ p. facts_of top p.name) c.as_slice-2.result.now = c.as_slice-3.ensures.value ∙ (c.in_ok-facts.ensures.facts top is_top ∙ ap (map (λ p. facts_of top p.name)) (c.as_slice.ensures ∙ sym c.as_slice-2.ensures)) in
    let right = λ (x : Option ℕ). x ≡ c.args.net.now.clock in
    handed_on (Answers (Broken top net) (clock_rules net) right) c.from_residual-in_err-check_ports.result f (err_from_is_err_and c.from_residual-in_err-check_ports.result c.from_residual-in_err-check_ports.ensures.1)
    (fault_left (Broken top net) (flat_map clock_rules_of (enumerate_from 0 net.ports)) (use_rules net) (λ (u : Unit {0}). Unit {0}) right f
    (subst (λ (ps : List Port). Passes top net (flat_map clock_rules_of (enumerate_from 0 ps)) (Err f)) c.as_slice-2.ensures (c.in_err-check_ports.ensures top net refl all)))

pub returns-in_err-check_use : goal.returns-in_err-check_use
returns-in_err-check_use c top is_top =
    let net = plain_of c.args.net.now in let f = c.in_err-check_use.field-0.0 in
    let all : c.as_slice-3.result.now ≡ map (λ p. facts_of top p.name) c.as_slice-2.result.now = c.as_slice-3.ensures.value ∙ (c.in_ok-facts.ensures.facts top is_top ∙ ap (map (λ p. facts_of top p.name)) (c.as_slice.ensures ∙ sym c.as_slice-2.ensures)) in
    let right = λ (x : Option ℕ). x ≡ c.args.net.now.clock in
    handed_on (Answers (Broken top net) (clock_rules net) right) c.from_residual-in_err-check_use.result f (err_from_is_err_and c.from_residual-in_err-check_use.result c.from_residual-in_err-check_use.ensures.1)
    (rest_decides (Broken top net) (flat_map clock_rules_of (enumerate_from 0 net.ports)) (use_rules net) right (Err f) (subst (λ (ps : List Port). NoneBroken (Broken top net) (flat_map clock_rules_of (enumerate_from 0 ps))) c.as_slice-2.ensures (c.in_ok-check_ports.ensures top net refl all).0)
    (handed (Broken top net) (use_rules net) (λ (u : Unit {0}). Unit {0}) right f (c.in_err-check_use.ensures top)))

pub returns : goal.returns
returns c top is_top =
    let net = plain_of c.args.net.now in
    let of_all : (ps : List Port) → c.args.net.now.ports ≡ ps → c.in_ok-facts.facts.items ≡ map (λ p. facts_of top p.name) ps =
    λ ps same. c.in_ok-facts.ensures.facts top is_top ∙ ap (map (λ p. facts_of top p.name)) (c.as_slice.ensures ∙ same) in
    let ports_none = subst (λ (ps : List Port). NoneBroken (Broken top net) (flat_map clock_rules_of (enumerate_from 0 ps))) c.as_slice-2.ensures (c.in_ok-check_ports.ensures top net refl (c.as_slice-3.ensures.value ∙ of_all c.as_slice-2.result.now (sym c.as_slice-2.ensures))).0 in
    (none_both (Broken top net) (flat_map clock_rules_of (enumerate_from 0 net.ports)) (use_rules net) ports_none (c.in_ok-check_use.ensures top).0, refl)
