use Rattle.std.proofs.Common.{◌≡◌, ◌+◌, map, take, get_or, ap, ◌∙◌}
use Rattle.std.specs.List.{enumerate_from}
use Rattle.agm_net.specs.Plain.{line_of}
use Rattle.agm_net.specs.View.{plain_of}
use Rattle.verilog_reader.specs.View.{item_view}
use Rattle.net_design.specs.Design.{form_of, line_item}
use Rattle.net_design.proofs.Numbered.{map_enumerate_more, next_line}
use Rattle.net_design.proofs.text.add_lines.Goals as goal

pub loop-number-preserved : goal.loop-number-preserved
loop-number-preserved c =
    let xs = c.args.equations.now in
    let i = c.loop-number.number in
    let d = c.index-equations-number.result in
    let f = line_item (form_of (plain_of c.args.net.now) c.args.sites.now) c.args.margin in
    let more = map_enumerate_more f line_of xs i d c.loop-number-test.true in
    let done = map f (enumerate_from 0 (map line_of (take i xs))) in
    let item : item_view c.in_ok-item.item ≡ f (i, line_of (get_or xs i d)) = c.in_ok-item.ensures ∙ ap (λ e. f (i, line_of e)) c.index-equations-number.is in
    c.in_ok-item_text.ensures
    ∙ next_line c.args.text.now c.loop-number.text done (map f (enumerate_from 0 (map line_of (take (i + 1) xs)))) (f (i, line_of (get_or xs i d))) (item_view c.in_ok-item.item) c.loop-number.invariant item more
