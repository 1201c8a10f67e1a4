use Rattle.std.proofs.Common.{◌≡◌, map, take, ◌+◌, get_or, ap, ◌∙◌}
use Rattle.std.specs.List.{enumerate_from}
use Rattle.verilog_reader.specs.View.{item_view}
use Rattle.net_design.specs.Design.{port_item}
use Rattle.net_design.proofs.Numbered.{map_item_more, next_line}
use Rattle.net_design.proofs.text.add_ports.Goals as goal

pub loop-number-preserved : goal.loop-number-preserved
loop-number-preserved c =
    let ports = c.args.ports.now in
    let i = c.loop-number.number in
    let d = c.index-ports-number.result in
    let f = port_item c.args.clock in
    let more = map_item_more f ports i d c.loop-number-test.true in
    let done = map f (enumerate_from 0 (take i ports)) in
    let item : item_view c.in_ok-item.item ≡ f (i, get_or ports i d) = c.in_ok-item.ensures ∙ ap (λ p. f (i, p)) c.index-ports-number.is in
    c.in_ok-item_text.ensures
    ∙ next_line c.args.text.now c.loop-number.text done (map f (enumerate_from 0 (take (i + 1) ports))) (f (i, get_or ports i d)) (item_view c.in_ok-item.item) c.loop-number.invariant item more
