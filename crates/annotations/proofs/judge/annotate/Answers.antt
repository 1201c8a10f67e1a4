use Rattle.std.proofs.Common.{◌≡◌, List, [], ◌∷◌, map, refl, sym, ap, subst, ◌∙◌, Err}
use Rattle.std.specs.List.{flat_map, enumerate_from}
use Rattle.std.proofs.lemmas.Result.{err_from_is_err_and}
use Rattle.agm_net.specs.View.{plain_of}
use Rattle.agm_net.specs.declared.mark.Marks.{Marks}
use Rattle.agm_net.specs.declared.port.Port.{Port}
use Rattle.annotations.proofs.Verdict.{none_both, fault_left, handed, rest_decides, marks_of_all, handed_on}
use Rattle.annotations.specs.Asked.{mark_in}
use Rattle.annotations.specs.Rules.{mark_of, no_secure, Broken, rules_of, use_rules, annotation_rules, NoneBroken, Answers, Passes}
use Rattle.top_module.specs.Ports.{facts_of}
use Rattle.top_module.specs.declared.facts.PortFacts.{PortFacts}
use Rattle.annotations.proofs.judge.annotate.Goals as goal

pub returns-in_err-check_ports : goal.returns-in_err-check_ports
returns-in_err-check_ports c top is_top =
    let net = plain_of c.args.net.now in let f = c.in_err-check_ports.field-0.0 in
    let all : c.as_slice-3.result.now ≡ map (λ p. facts_of top p.name) c.as_slice-2.result.now = c.as_slice-3.ensures.value ∙ (c.in_ok-facts.ensures.facts top is_top ∙ ap (map (λ p. facts_of top p.name)) (c.as_slice.ensures ∙ sym c.as_slice-2.ensures)) in
    let right = λ (x : Marks). x.kinds ≡ map (mark_of top) c.args.net.now.ports in
    handed_on (Answers (Broken top net) (annotation_rules net) right) c.from_residual-in_err-check_ports.result f (err_from_is_err_and c.from_residual-in_err-check_ports.result c.from_residual-in_err-check_ports.ensures.1)
    (fault_left (Broken top net) (flat_map rules_of (enumerate_from 0 net.ports)) (no_secure ∷ use_rules net) (λ (u : Unit {0}). Unit {0}) right f
    (subst (λ (ps : List Port). Passes top net (flat_map rules_of (enumerate_from 0 ps)) (Err f)) c.as_slice-2.ensures (c.in_err-check_ports.ensures top net refl all)))

pub returns-in_err-check_secure : goal.returns-in_err-check_secure
returns-in_err-check_secure c top is_top =
    let net = plain_of c.args.net.now in let f = c.in_err-check_secure.field-0.0 in
    let all : c.as_slice-3.result.now ≡ map (λ p. facts_of top p.name) c.as_slice-2.result.now = c.as_slice-3.ensures.value ∙ (c.in_ok-facts.ensures.facts top is_top ∙ ap (map (λ p. facts_of top p.name)) (c.as_slice.ensures ∙ sym c.as_slice-2.ensures)) in
    let right = λ (x : Marks). x.kinds ≡ map (mark_of top) c.args.net.now.ports in
    let same = c.as_slice-4.ensures.value ∙ (c.in_ok-facts.ensures.facts top is_top ∙ ap (map (λ p. facts_of top p.name)) c.as_slice.ensures) in
    handed_on (Answers (Broken top net) (annotation_rules net) right) c.from_residual-in_err-check_secure.result f (err_from_is_err_and c.from_residual-in_err-check_secure.result c.from_residual-in_err-check_secure.ensures.1)
    (rest_decides (Broken top net) (flat_map rules_of (enumerate_from 0 net.ports)) (no_secure ∷ use_rules net) right (Err f) (subst (λ (ps : List Port). NoneBroken (Broken top net) (flat_map rules_of (enumerate_from 0 ps))) c.as_slice-2.ensures (c.in_ok-check_ports.ensures top net refl all).0)
    (fault_left (Broken top net) (no_secure ∷ []) (use_rules net) (λ (u : Unit {0}). Unit {0}) right f (c.in_err-check_secure.ensures top same)))

pub returns-in_err-check_use : goal.returns-in_err-check_use
returns-in_err-check_use c top is_top =
    let net = plain_of c.args.net.now in let f = c.in_err-check_use.field-0.0 in
    let all : c.as_slice-3.result.now ≡ map (λ p. facts_of top p.name) c.as_slice-2.result.now = c.as_slice-3.ensures.value ∙ (c.in_ok-facts.ensures.facts top is_top ∙ ap (map (λ p. facts_of top p.name)) (c.as_slice.ensures ∙ sym c.as_slice-2.ensures)) in
    let right = λ (x : Marks). x.kinds ≡ map (mark_of top) c.args.net.now.ports in
    let same = c.as_slice-4.ensures.value ∙ (c.in_ok-facts.ensures.facts top is_top ∙ ap (map (λ p. facts_of top p.name)) c.as_slice.ensures) in
    handed_on (Answers (Broken top net) (annotation_rules net) right) c.from_residual-in_err-check_use.result f (err_from_is_err_and c.from_residual-in_err-check_use.result c.from_residual-in_err-check_use.ensures.1)
    (rest_decides (Broken top net) (flat_map rules_of (enumerate_from 0 net.ports)) (no_secure ∷ use_rules net) right (Err f) (subst (λ (ps : List Port). NoneBroken (Broken top net) (flat_map rules_of (enumerate_from 0 ps))) c.as_slice-2.ensures (c.in_ok-check_ports.ensures top net refl all).0)
    (rest_decides (Broken top net) (no_secure ∷ []) (use_rules net) right (Err f) (c.in_ok-check_secure.ensures top same).0 (handed (Broken top net) (use_rules net) (λ (u : Unit {0}). Unit {0}) right f (c.in_err-check_use.ensures top))))

pub returns : goal.returns
returns c top is_top =
    let net = plain_of c.args.net.now in
    let of_all : (ps : List Port) → c.args.net.now.ports ≡ ps → c.in_ok-facts.facts.items ≡ map (λ p. facts_of top p.name) ps =
    λ ps same. c.in_ok-facts.ensures.facts top is_top ∙ ap (map (λ p. facts_of top p.name)) (c.as_slice.ensures ∙ same) in
    let ports_none = subst (λ (ps : List Port). NoneBroken (Broken top net) (flat_map rules_of (enumerate_from 0 ps))) c.as_slice-2.ensures (c.in_ok-check_ports.ensures top net refl (c.as_slice-3.ensures.value ∙ of_all c.as_slice-2.result.now (sym c.as_slice-2.ensures))).0 in
    let secure_none = (c.in_ok-check_secure.ensures top (c.as_slice-4.ensures.value ∙ of_all c.args.net.now.ports refl)).0.0 in (
      none_both (Broken top net) (flat_map rules_of (enumerate_from 0 net.ports)) (no_secure ∷ use_rules net) ports_none (secure_none, (c.in_ok-check_use.ensures top).0),
      c.in_ok-marks_in.ensures ∙ (ap (map (λ (f : PortFacts). mark_in f.marks)) (c.as_slice-5.ensures.value ∙ of_all c.args.net.now.ports refl) ∙ marks_of_all top c.args.net.now.ports),
    )
