use Rattle.std.proofs.Common.{◌≡◌, ◌+◌, ℕ, cond, ap, sym, ◌∙◌, arith}
use Rattle.wire_drivers.specs.Counted.{is_kept_at, number_at}
use Rattle.wire_drivers.proofs.keep.numbers_of.Goals as goal
use Rattle.wire_drivers.proofs.Ranges.{numbers_on, number_more, number_small}

pub loop-wire-preserved : goal.loop-wire-preserved
loop-wire-preserved c =
    let next : c.number_behind-next.result ≡ number_at c.args.drivers.now (c.loop-wire.wire + 1) =
    c.number_behind-next.ensures ∙ (ap (λ (n : ℕ). n + cond (is_kept_at c.args.drivers.now c.loop-wire.wire) 1 0) c.loop-wire.invariant.1 ∙ sym (number_more c.args.drivers.now c.loop-wire.wire)) in
    let small = number_small c.args.drivers.now (c.loop-wire.wire + 1) in (
      numbers_on c.push.new.self.items c.loop-wire.numbers.items c.loop-wire.next c.args.drivers.now c.loop-wire.wire c.loop-wire.invariant.0 c.loop-wire.invariant.1 c.in_ok-push.ensures.items,
      next,
      omega arith,
    )
