use Rattle.std.proofs.Common.{◌≡◌, ◌++◌, ◌∙◌, ℕ, List, [], OnOk, codes, map, subst}
use Rattle.verilog_reader.specs.declared.design.Attribute.{Attribute}
use Rattle.design_text.specs.Parts.{parts_text}
use Rattle.design_text.specs.Written.{head_parts}
use Rattle.net_design.specs.Design.{port_name}
use Rattle.net_design.proofs.text.add_head.Goals as goal

pub returns : goal.returns
returns c =
    let P : List Attribute → List ℕ → List (List ℕ) → Type 0 =
    λ a n ps. OnOk c.head_text.result (c.head_text.new.text ≡ c.args.text.now ++ parts_text (head_parts a n ps)) in
    let attributes : c.as_slice.result.now ≡ [] = c.as_slice.ensures ∙ c.new-attributes.ensures in
    let names : c.as_slice-2.result.now ≡ map port_name c.args.ports.now = c.as_slice-2.ensures ∙ c.in_ok-names.ensures in
    let first : P [] c.in_ok-name.name c.as_slice-2.result.now = subst (λ a. P a c.in_ok-name.name c.as_slice-2.result.now) attributes c.head_text.ensures in
    let second : P [] (codes "agm_top") c.as_slice-2.result.now = subst (λ n. P [] n c.as_slice-2.result.now) c.in_ok-name.ensures first in
    subst (λ ps. P [] (codes "agm_top") ps) names second
