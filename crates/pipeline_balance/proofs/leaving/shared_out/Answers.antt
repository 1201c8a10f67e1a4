use Rattle.std.proofs.Common.{◌<◌, true, ℕ, List, length, map, sym, ap, subst, ◌∙◌, arith}
use Rattle.agm_net.specs.declared.port.Port.{Port}
use Rattle.hpc2_gadget.proofs.Sizes.{array_fits}
use Rattle.share_wiring.specs.Shape.{header_of}
use Rattle.share_wiring.specs.Wiring.{IsSharing}
use Rattle.pipeline_balance.specs.Leaving.{FitTogether, made_header, sharing_of, AreSpread}
use Rattle.pipeline_balance.proofs.LeavingValues.{shared_led}
use Rattle.pipeline_balance.proofs.leaving.shared_out.Goals as goal

pub shares_out-requires : goal.shares_out-requires
shares_out-requires g c =
    let n = g.row.S in
    let spread = c.in_ok-sharings.ensures in
    let ports = spread.adds.ports in
    let count = ap (λ (ps : List Port). length ps) ports in
    let place = c.requires.place in
    let slice = c.as_slice.ensures in (
      array_fits n c.requires.size.1,
      (
        subst (λ ps. FitTogether (map header_of ps) n (made_header true c.args.port.now)) (sym ports) c.requires.fit,
        (
          c.requires.written,
          (
            c.requires.output,
            (
              (place.0, (let le = place.1 in omega (arith, le, count))),
              (
                c.requires.room,
                (
                  ap length slice ∙ (spread.one_each ∙ c.requires.bits),
                  (subst (λ zs. (j : ℕ) → j < length zs → IsSharing c.sharings_of.new.builder.wires n (sharing_of zs j)) (sym slice) spread.each, c.requires.size),
                ),
              ),
            ),
          ),
        ),
      ),
    )

pub returns : goal.returns
returns g c =
    let n = g.row.S in
    let two = c.requires.size.0 in
    shared_led n c.args.place c.args.port.now c.args.values.now c.as_slice.result.now c.args.builder.now c.sharings_of.new.builder c.shares_out.new.builder (omega (arith, two)) c.requires.size.1 c.requires.written.0
    (subst (AreSpread n c.args.builder.now c.sharings_of.new.builder c.args.values.now) (sym c.as_slice.ensures) c.in_ok-sharings.ensures) c.in_ok-shares_out.ensures
