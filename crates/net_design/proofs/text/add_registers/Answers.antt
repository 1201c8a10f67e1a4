use Rattle.std.proofs.Common.{◌≡◌, ◌+◌, map, take, get_or, ap, ◌∙◌}
use Rattle.std.specs.List.{enumerate_from}
use Rattle.agm_net.specs.Plain.{stored_of}
use Rattle.agm_net.specs.View.{plain_of}
use Rattle.verilog_reader.specs.View.{item_view}
use Rattle.net_design.specs.Design.{form_of, register_item}
use Rattle.net_design.proofs.Numbered.{map_more, next_line}
use Rattle.net_design.proofs.text.add_registers.Goals as goal

pub loop-i-preserved : goal.loop-i-preserved
loop-i-preserved c =
    let xs = c.args.registers.now in
    let i = c.loop-i.i in
    let d = c.index-registers-i.result in
    let f = register_item (form_of (plain_of c.args.net.now) c.args.sites.now) c.args.margin in
    let more = map_more f c.args.first stored_of xs i d c.loop-i-test.true in
    let done = map f (enumerate_from c.args.first (map stored_of (take i xs))) in
    let item : item_view c.in_ok-item.item ≡ f (c.args.first + i, stored_of (get_or xs i d)) = c.in_ok-item.ensures ∙ ap (λ e. f (c.args.first + i, stored_of e)) c.index-registers-i.is in
    c.in_ok-item_text.ensures
    ∙ next_line c.args.text.now c.loop-i.text done (map f (enumerate_from c.args.first (map stored_of (take (i + 1) xs)))) (f (c.args.first + i, stored_of (get_or xs i d))) (item_view c.in_ok-item.item) c.loop-i.invariant item more
