use Rattle.std.proofs.Common.{◌++◌, ◌+◌, take, get_or, ap, ◌∙◌}
use Rattle.std.specs.List.{enumerate_from, flat_map}
use Rattle.net_design.specs.Design.{own_item}
use Rattle.net_design.specs.Lines.{lines_text}
use Rattle.net_design.proofs.Numbered.{flat_map_more, next_lines}
use Rattle.net_design.proofs.text.add_wires.Goals as goal

pub loop-wire-preserved : goal.loop-wire-preserved
loop-wire-preserved c =
    let names = c.args.names.now in
    let i = c.loop-wire.wire in
    let d = c.index-names-wire.result in
    let f = own_item c.args.sites.now in
    let more = flat_map_more f names i d c.loop-wire-test.true in
    let done = flat_map f (enumerate_from 0 (take i names)) in
    c.in_ok-add_own.ensures
    ∙ (ap (λ n. c.loop-wire.text ++ lines_text (f (i, n))) c.index-names-wire.is
    ∙ next_lines c.args.text.now c.loop-wire.text done (flat_map f (enumerate_from 0 (take (i + 1) names))) (f (i, get_or names i d)) c.loop-wire.invariant more)
