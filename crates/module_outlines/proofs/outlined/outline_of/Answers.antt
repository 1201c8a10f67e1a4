use Rattle.std.proofs.Common.{◌++◌, List, map, length, ap, sym, ◌∙◌}
use Rattle.std.specs.List.{flat_map}
use Rattle.verilog_reader.specs.View.{item_view, module_view}
use Rattle.verilog_reader.specs.declared.design.Item.{Item}
use Rattle.module_outlines.specs.Outlines.{wide_name, own_wides, spots_from, total_width}
use Rattle.module_outlines.specs.View.{way_by, wide_view}
use Rattle.module_outlines.specs.declared.wide.Wide as raw
use Rattle.module_outlines.proofs.outlined.outline_of.Goals as goal
use Rattle.module_outlines.proofs.Spots.{by_both}
use Rattle.module_outlines.proofs.Joined.{outlined, facts_length}

pub port_wides-requires : goal.port_wides-requires
port_wides-requires c =
    ap length (c.as_slice-3.ensures ∙ c.in_ok-facts.ensures) ∙ (facts_length (module_view c.args.unit.now) c.args.unit.now.ports ∙ sym (ap length c.as_slice-2.ensures))

pub returns : goal.returns
returns c =
    outlined (module_view c.args.unit.now) c.in_ok-facts.facts c.in_ok-wides.wides c.push_items.new.wides c.in_ok-names.names c.in_ok-ports.ports c.in_ok-ways.ways c.in_ok-names.width
    c.in_ok-facts.ensures
    (c.in_ok-wides.ensures ∙ by_both _ _ _ _ c.as_slice-2.ensures c.as_slice-3.ensures)
    (c.in_ok-ports.ensures.0 ∙ ap (λ (ws : List raw.Wide). map wide_name (map wide_view ws)) c.as_slice-4.ensures)
    (c.in_ok-ports.ensures.1 ∙ ap (λ (ws : List raw.Wide). spots_from 0 (map wide_view ws)) c.as_slice-4.ensures)
    (c.in_ok-push_items.ensures ∙ ap (λ (is : List Item). map wide_view c.in_ok-wides.wides ++ flat_map (own_wides c.in_ok-ports.ports.names) (map item_view is)) c.as_slice-5.ensures)
    (c.in_ok-names.ensures.0 ∙ ap (λ (ws : List raw.Wide). map wide_name (map wide_view ws)) c.as_slice-6.ensures)
    (c.in_ok-names.ensures.1 ∙ ap (λ (ws : List raw.Wide). spots_from 0 (map wide_view ws)) c.as_slice-6.ensures)
    (c.in_ok-names.ensures.2 ∙ ap (λ (ws : List raw.Wide). total_width (map wide_view ws)) c.as_slice-6.ensures)
    (c.in_ok-ways.ensures ∙ ap (λ fs. map way_by fs) c.as_slice.ensures)
