use Rattle.std.proofs.Common.{◌≡◌, take}
use Rattle.side_by_side.specs.Text.{pairs_text}
use Rattle.side_by_side.proofs.lines.columns_text.Given as goal

abbrev pub invariant-loop-pair : goal.invariant-loop-pair
invariant-loop-pair l = l.text ≡ pairs_text l.net.ports (take l.pair-index l.pairs)
