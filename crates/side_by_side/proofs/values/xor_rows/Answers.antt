use Rattle.std.proofs.Common.{◌≡◌, ◌≤◌, ◌++◌, ◌∷◌, [], Bool, take, length, min, ap₂, sym, subst, ◌∙◌, arith}
use Rattle.std.proofs.lemmas.List.{length-take-le}
use Rattle.std.proofs.lemmas.Option.{slice_get_within}
use Rattle.agm_net.specs.Trace.{Row}
use Rattle.share_wiring.specs.Recombine.{xor_rows}
use Rattle.shared_tape.proofs.Rows.{bit_more}
use Rattle.side_by_side.proofs.Added.{xor_more, xor_cut}
use Rattle.side_by_side.proofs.values.xor_rows.Goals as goal

pub loop-k-preserved : goal.loop-k-preserved
loop-k-preserved c =
    let p = c.args.one.now in
    let q = c.args.other.now in
    let k = c.loop-k.k in
    let x = c.get.result in
    let y = c.get-in-loop-k.result in
    let in_p = slice_get_within p k x c.get.ensures in
    let in_q = slice_get_within q k y c.get-in-loop-k.ensures in
    let same : length (take k p) ≡ length (take k q) = length-take-le k p (omega (arith, in_p)) ∙ sym (length-take-le k q (omega (arith, in_q))) in
    c.in_ok-push.ensures.ok
    ∙ (ap₂ (λ (sum : Row) (bit : Bool). sum ++ bit ∷ []) c.loop-k.invariant c.sum_of.ensures
    ∙ (sym (xor_more (take k p) (take k q) x y same) ∙ sym (ap₂ xor_rows (bit_more p k x c.get.ensures) (bit_more q k y c.get-in-loop-k.ensures))))

pub returns : goal.returns
returns c =
    let p = c.args.one.now in
    let q = c.args.other.now in
    let least = c.min-k-end.ensures ∙ ap₂ min c.len.ensures c.len-2.ensures in
    c.loop-k.invariant ∙ xor_cut c.loop-k.k p q (subst (λ n. n ≤ c.loop-k.k) least c.loop-k-test.false)
