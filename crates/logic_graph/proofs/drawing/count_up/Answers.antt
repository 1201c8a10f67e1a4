use Rattle.std.proofs.Common.{◌≡◌, ◌++◌, ◌+◌, ◌∷◌, [], ap, sym, ◌∙◌, append_assoc, rules}
use Rattle.std.specs.List.{range_with_len}
use Rattle.logic_graph.proofs.Blocks.{range_more}
use Rattle.logic_graph.proofs.drawing.count_up.Goals as goal

pub loop-i-preserved : goal.loop-i-preserved
loop-i-preserved c =
    let pushed = c.in_ok-push.ensures.ok in
    let before = c.loop-i.invariant in
    let number : c.in-Some.number ≡ c.args.first + c.loop-i.i = search rules in
    pushed ∙ (ap (λ ns. ns ++ c.in-Some.number ∷ []) before
    ∙ (append_assoc c.args.numbers.now (range_with_len c.args.first c.loop-i.i) (c.in-Some.number ∷ [])
    ∙ ap (λ ns. c.args.numbers.now ++ ns) (ap (λ k. range_with_len c.args.first c.loop-i.i ++ k ∷ []) number ∙ sym (range_more c.args.first c.loop-i.i))))
