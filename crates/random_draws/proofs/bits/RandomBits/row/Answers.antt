use Rattle.std.proofs.Common.{◌≡◌, ℕ, ◌+◌, ◌%◌, ◌^◌, List, Bool, [], ◌∷◌, ◌++◌, ap, ap₂, sym, ◌∙◌}
use Rattle.random_draws.specs.Draws.{Turn, random_bit}
use Rattle.random_draws.proofs.Repeats.{one_bit_more, one_further, same_bit}
use Rattle.random_draws.proofs.bits.RandomBits.row.Goals as goal

pub loop-preserved : goal.loop-preserved
loop-preserved c =
    let t = c.args.self.now in let k = c.loop.counter in
    let bit : c.next_bit.result ≡ random_bit t.key t.stream (t.next + k) =
    c.next_bit.ensures.bit ∙ (ap (λ (u : Turn). random_bit u.key u.stream u.next) c.loop.invariant.turn ∙ same_bit t.key t.stream (t.next + k)) in
    record {
      row = c.in_ok-push.ensures.ok ∙ (ap₂ (λ (r : List Bool) (b : Bool). r ++ b ∷ []) c.loop.invariant.row bit ∙ sym (one_bit_more t.key t.stream t.next k));
      turn = c.next_bit.ensures.after ∙ (ap (λ (u : Turn). record u { next = (u.next + 1) % 2 ^ 128 }) c.loop.invariant.turn ∙ ap (λ (n : ℕ). record t { next = n }) (one_further t.next k));
    }
