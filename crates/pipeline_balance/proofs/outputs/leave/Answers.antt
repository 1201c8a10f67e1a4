use Rattle.std.proofs.Common.{◌≡◌, ◌<◌, ◌+◌, ◌-◌, ℕ, List, false, length, take, drop, sym, subst, ap, ◌∙◌, arith}
use Rattle.agm_net.specs.Plain.{is_input}
use Rattle.pipeline_balance.specs.declared.values.Value.{Value}
use Rattle.pipeline_balance.specs.Chained.{value_at, AreSources}
use Rattle.pipeline_balance.specs.Valued.{is_secret, IsValue}
use Rattle.pipeline_balance.proofs.LeavingLists.{middle_length, middle_value}
use Rattle.pipeline_balance.proofs.Sizes.{value_fits}
use Rattle.pipeline_balance.proofs.outputs.leave.Goals as goal

pub port_led-requires : goal.port_led-requires
port_led-requires g c =
    let n = g.row.S in
    let p = c.args.port.now in
    let values = c.args.values.now in
    let at = c.args.at in
    let w = length p.bits in
    let net = c.args.builder.now in
    let out : is_input p ≡ false = sym c.is_in.ensures ∙ c.if-is_in.false in
    let can = c.requires.can out in
    let len = c.len.ensures in
    let count : (at + c.len.result) - at ≡ w = omega (arith, len) in
    let long = middle_length n values at w can.within in
    let within = can.within in
    let middle = take w (drop at values) in
    let sources : AreSources n net middle = λ i lt.
    (let less : i < w = omega (arith, lt, long) in
    subst (IsValue n net) (sym (middle_value n values at w within i less)) (c.requires.values (at + i) (omega (arith, less, within)))) in
    let public : c.args.shared ≡ false → (j : ℕ) → j < length middle → is_secret (value_at middle j) ≡ false = λ not_shared j lt.
    (let less : j < w = omega (arith, lt, long) in
    ap is_secret (middle_value n values at w within j less) ∙ can.public not_shared j less) in
    let own : List (Value n) = take ((at + c.len.result) - at) (drop at values) in
    let same : middle ≡ own = ap (λ k. take k (drop at values)) (sym count) in (
      value_fits n c.requires.size.1,
      (
        can.fit,
        (
          can.free,
          (
            can.written,
            (
              out,
              (
                can.place_is,
                (
                  can.room,
                  (
                    ap length (sym same) ∙ (long ∙ can.bits),
                    (
                      subst (AreSources n net) same sources,
                      (
                        λ not_shared. subst (λ vs. (j : ℕ) → j < length vs → is_secret (value_at vs j) ≡ false) same (public not_shared),
                        c.requires.size,
                      ),
                    ),
                  ),
                ),
              ),
            ),
          ),
        ),
      ),
    )
