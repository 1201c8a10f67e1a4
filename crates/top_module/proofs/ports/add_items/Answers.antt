use Rattle.std.proofs.Common.{List, [], ◌∷◌, ◌++◌, length, take, map, sym, ap, ◌∙◌}
use Rattle.std.proofs.lemmas.List.{take_more, length-map, map-append}
use Rattle.top_module.proofs.Grown.{item_more}
use Rattle.top_module.proofs.Placed.{map_same}
use Rattle.top_module.specs.Steps.{facts_in}
use Rattle.verilog_reader.specs.Plain.{PlainItem}
use Rattle.verilog_reader.specs.View.{item_view}
use Rattle.verilog_reader.specs.declared.design.Item.{Item}
use Rattle.top_module.proofs.ports.add_items.Goals as goal

pub loop-item-init : goal.loop-item-init
loop-item-init c = record { long = ap length c.requires ∙ length-map c.args.names.now (facts_in []); grown = c.requires }

pub loop-item-preserved : goal.loop-item-preserved
loop-item-preserved c = record {
  long = c.add_item.auto.facts ∙ c.loop-item.invariant.long;
  grown =
      let before = map item_view (take c.loop-item.item-index c.args.items.now) in
      let more = take_more c.args.items.now c.loop-item.item-index c.item-item.result c.loop-item-test.true ∙ ap (λ (i : Item). take c.loop-item.item-index c.args.items.now ++ i ∷ []) (sym c.item-item.is) in
      c.add_item.ensures (facts_in before) c.loop-item.invariant.grown
      ∙ map_same _ _ c.args.names.now (λ j n at. sym (ap (λ (is' : List Item). facts_in (map item_view is') n) more ∙ (ap (λ (ps : List PlainItem). facts_in ps n) (map-append item_view (take c.loop-item.item-index c.args.items.now) (c.item-item.result ∷ [])) ∙ item_more n before (item_view c.item-item.result))));
}
