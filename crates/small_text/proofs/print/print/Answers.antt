use Rattle.std.specs.List.{flat_map}
use Rattle.small_text.specs.Written.{head_parts, declaration_parts, item_parts, last_parts}
use Rattle.small_text.proofs.Appended.{four_more, whole_text}
use Rattle.small_text.proofs.print.print.Goals as goal

pub returns : goal.returns
returns c =
    whole_text c.args.small.now c.new-text.result c.extend.new.self c.as_slice.result.now c.as_slice-2.result.now c.as_slice-3.result.now c.new-text.ensures c.as_slice.ensures c.as_slice-2.ensures c.as_slice-3.ensures
    (four_more c.new-text.result c.head.new.text c.declarations.new.text c.items.new.text c.extend.new.self (head_parts c.args.small.now.name c.as_slice.result.now) (flat_map declaration_parts c.as_slice-2.result.now) (flat_map item_parts c.as_slice-3.result.now) last_parts
    c.in_ok-head.ensures c.in_ok-declarations.ensures c.in_ok-items.ensures c.in_ok-extend.ensures.ok)
