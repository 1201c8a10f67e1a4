use Rattle.std.proofs.Common.{◌<◌, ◌+◌, ◌∙◌, ap, arith}
use Rattle.hpc2_gadget.proofs.Made.{random_grown, grown_trans, grown_more}
use Rattle.hpc2_gadget.proofs.Numbers.{random_index}
use Rattle.hpc2_gadget.proofs.Shares.{bit_is_next, cross_is}
use Rattle.std.proofs.Common.{◌≡◌, ◌≤◌, ◌-◌, ◌*◌, max, min, refl, ap₂, subst}
use Rattle.agm_net.specs.Label.{part}
use Rattle.agm_net.specs.Network.{pair_part, partial_sum}
use Rattle.agm_net.specs.declared.label.Part.{Part}
use Rattle.agm_net.specs.declared.label.PartKind.{PartKind}
use Rattle.agm_net.specs.declared.label.PartKind.TheVariants.{A, B, Na, R, Rr, S, U, W}
use Rattle.share_wiring.proofs.Runs.{extends_trans}
use Rattle.share_wiring.specs.Networks.{IsPartWire}
use Rattle.share_wiring.specs.declared.gate.Gate.TheVariants.{Same}
use Rattle.share_wiring.specs.declared.gate.Source.TheVariants.{Equation, Register}
use Rattle.hpc2_gadget.specs.Order.{place_of}
use Rattle.hpc2_gadget.proofs.Numbers.{stored_index}
use Rattle.hpc2_gadget.proofs.Placing.{added_at, added_sound, drawn_sound, later, has_later}
use Rattle.hpc2_gadget.proofs.parts.pair.Goals as goal

pub returns-clause-grown : goal.returns-clause-grown
returns-clause-grown c =
    let bit = random_grown c.args.place.shares c.args.place.gadget _ _ _ c.in_ok-bit.ensures.extends c.in_ok-bit.ensures.given c.requires.below in
    let random = grown_trans _ _ _ _ _ _ _ _ _ bit c.in_ok-random.ensures.grown in
    let stored = grown_trans _ _ _ _ _ _ _ _ _ random c.in_ok-stored.ensures.grown in
    let here = grown_trans _ _ _ _ _ _ _ _ _ stored c.in_ok-here.ensures.grown in
    let there = grown_trans _ _ _ _ _ _ _ _ _ here c.in_ok-there.ensures.grown in
    let low = grown_trans _ _ _ _ _ _ _ _ _ there c.in_ok-low.ensures.grown in
    let high = grown_trans _ _ _ _ _ _ _ _ _ low c.in_ok-high.ensures.grown in
    let lower = c.requires.index.0 in
    grown_more _ _ _ _ _ _ _ (omega arith) high

pub returns-clause-value : goal.returns-clause-value
returns-clause-value c cycles bits run =
    let high = c.in_ok-high.ensures.value cycles bits run in
    let low = c.in_ok-low.ensures.value cycles bits high.0 in
    let there = c.in_ok-there.ensures.value cycles bits low.0 in
    let here = c.in_ok-here.ensures.value cycles bits there.0 in
    let stored = c.in_ok-stored.ensures.value cycles bits here.0 in
    let random = c.in_ok-random.ensures.value cycles bits stored.0 in
    let bit = c.in_ok-bit.ensures.adds cycles bits random.0 in
    let next = bit_is_next c.args.builder.now c.random.new.self c.in_ok-bit.bit c.in_ok-bit.ensures.given c.requires.random c.in_ok-bit.ensures.next in (
      bit.0,
      (
        λ t lt inverted.
            let soon : t + 1 < cycles = omega arith in
            let now : t < cycles = omega arith in
            cross_is _ _ _ _ _ _ _ _ _ _ (low.1 (t + 2) lt) (here.1 t lt).0 (here.1 t lt).1 (stored.1 t soon) inverted (random.1 t now ∙ ap (bits t) next),
        λ t lt inverted.
            let soon : t + 1 < cycles = omega arith in
            let now : t < cycles = omega arith in
            cross_is _ _ _ _ _ _ _ _ _ _ (high.1 (t + 2) lt) (there.1 t lt).0 (there.1 t lt).1 (stored.1 t soon) inverted (random.1 t now ∙ ap (bits t) next),
      ),
    )

pub returns-clause-low : goal.returns-clause-low
returns-clause-low c = c.in_ok-high.ensures.grown.extends.shares _ _ _ c.in_ok-low.ensures.shared

pub gate-requires-clause-index : goal.gate-requires-clause-index
gate-requires-clause-index c = random_index c.args.place.shares c.args.i c.args.j c.args.place.size.1 c.requires.index.0 c.requires.index.1

pub returns-clause-rules : goal.returns-clause-rules
returns-clause-rules c sound x_side y_side =
    let n = c.args.place.shares in
    let g = c.args.place.gadget in
    let clock = c.args.place.clock in
    let d = n - 1 in
    let i = c.args.i in
    let j = c.args.j in
    let size = c.args.place.size.0 in
    let few = c.args.place.size.1 in
    let some : 1 ≤ n = omega (arith, size) in
    let small = c.args.place.few in
    let lower = c.requires.index.0 in
    let below = c.requires.index.1 in
    let x = c.args.x in
    let y = c.args.y in
    let bit = c.in_ok-bit.bit in
    let random = c.in_ok-random.random in
    let stored = c.in_ok-stored.stored in
    let net0 = c.args.builder.now in
    let net1 = c.random.new.self in
    let net2 = c.gate.new.builder in
    let net3 = c.register.new.builder in
    let net4 = c.halves.new.builder in
    let net5 = c.halves-2.new.builder in
    let net6 = c.two_more.new.builder in
    let net7 = c.two_more-2.new.builder in
    let e2 = c.in_ok-random.ensures.grown.extends in
    let e3 = c.in_ok-stored.ensures.grown.extends in
    let e4 = c.in_ok-here.ensures.grown.extends in
    let e5 = c.in_ok-there.ensures.grown.extends in
    let e6 = c.in_ok-low.ensures.grown.extends in
    let e7 = c.in_ok-high.ensures.grown.extends in
    let e03 = extends_trans net0 net2 net3 (extends_trans net0 net1 net2 c.in_ok-bit.ensures.extends e2) e3 in
    let e04 = extends_trans net0 net3 net4 e03 e4 in
    let e05 = extends_trans net0 net4 net5 e04 e5 in
    let e06 = extends_trans net0 net5 net6 e05 e6 in
    let e57 = extends_trans net5 net6 net7 e6 e7 in
    let e47 = extends_trans net4 net5 net7 e5 e57 in
    let e37 = extends_trans net3 net4 net7 e4 e47 in
    let e27 = extends_trans net2 net3 net7 e3 e37 in
    let next = bit_is_next net0 net1 bit c.in_ok-bit.ensures.given c.requires.random c.in_ok-bit.ensures.next in
    let index_r = random_index n i j few lower below in
    let index_rr = stored_index n i j few lower below in
    let adds_r = c.in_ok-random.ensures.part in
    let adds_rr = c.in_ok-stored.ensures.part in
    let s2 = drawn_sound n g i j bit random clock net0 net1 net2 some small index_r c.in_ok-bit.ensures.given next c.in_ok-bit.ensures.named adds_r e2 sound in
    let r_at = added_at n g R i j (Equation (Same bit)) net1 net2 random some small index_r adds_r in
    let s3 = added_sound n g Rr i j (Register random clock) net2 net3 stored some small index_rr adds_rr clock e3 (λ no. absurd (cc)) (random, clock, refl, r_at, s2.clocked) s2 in
    let rr_at = added_at n g Rr i j (Register random clock) net2 net3 stored some small index_rr adds_rr in
    let upward : (kind : PartKind) → part g kind i j ≡ pair_part d g kind i j =
    λ kind. (let a : i ≡ min i j = omega (arith, lower) in let b : j ≡ max i j = omega (arith, lower) in ap₂ (part g kind) a b) in
    let downward : (kind : PartKind) → part g kind i j ≡ pair_part d g kind j i =
    λ kind. (let a : i ≡ min j i = omega (arith, lower) in let b : j ≡ max j i = omega (arith, lower) in ap₂ (part g kind) a b) in
    let r3 = later n g net2 net3 e3 (part g R i j) random r_at in
    let here = c.in_ok-here.ensures.rules s3 (record {
      first = later n g net0 net3 e03 (part g A i 0) x.a x_side.first;
      inverted = later n g net0 net3 e03 (part g Na i 0) x.inverse x_side.inverted;
      second = later n g net0 net3 e03 (part g B j 0) y.b y_side.second;
      masks = subst (λ (q : Part). IsPartWire d net3.wires q random) (upward R) r3;
      masks_later = subst (λ (q : Part). IsPartWire d net3.wires q stored) (upward Rr) rr_at;
    }) in
    let r4 = later n g net3 net4 e4 (part g R i j) random r3 in
    let rr4 = later n g net3 net4 e4 (part g Rr i j) stored rr_at in
    let there = c.in_ok-there.ensures.rules here.0 (record {
      first = later n g net0 net4 e04 (part g A j 0) y.a y_side.first;
      inverted = later n g net0 net4 e04 (part g Na j 0) y.inverse y_side.inverted;
      second = later n g net0 net4 e04 (part g B i 0) x.b x_side.second;
      masks = subst (λ (q : Part). IsPartWire d net4.wires q random) (downward R) r4;
      masks_later = subst (λ (q : Part). IsPartWire d net4.wires q stored) (downward Rr) rr4;
    }) in
    let low = c.in_ok-low.ensures.rules there.0 (later n g net0 net5 e05 (partial_sum d g i (2 * place_of i j)) x.sum x_side.summed)
    (later n g net4 net5 e5 (part g U i j) c.in_ok-here.here.0 here.1.kept_later) (later n g net4 net5 e5 (part g W i j) c.in_ok-here.here.1 here.1.crossed_later) in
    let high = c.in_ok-high.ensures.rules low.0 (later n g net0 net6 e06 (partial_sum d g j (2 * place_of j i)) y.sum y_side.summed)
    (later n g net5 net6 e6 (part g U j i) c.in_ok-there.there.0 there.1.kept_later) (later n g net5 net6 e6 (part g W j i) c.in_ok-there.there.1 there.1.crossed_later) in
    let low7 = later n g net6 net7 e7 (partial_sum d g i (2 * place_of i j + 2)) c.in_ok-low.low low.2 in (
      high.0,
      record {
        random = (random, later n g net2 net7 e27 (part g R i j) random r_at);
        random_later = (stored, later n g net3 net7 e37 (part g Rr i j) stored rr_at);
        upper = record {
          masked = has_later n g net4 net7 e47 _ i j here.1.masked;
          masked_later = has_later n g net4 net7 e47 _ i j here.1.masked_later;
          kept = has_later n g net4 net7 e47 _ i j here.1.kept;
          kept_later = (c.in_ok-here.here.0, later n g net4 net7 e47 (part g U i j) c.in_ok-here.here.0 here.1.kept_later);
          crossed = has_later n g net4 net7 e47 _ i j here.1.crossed;
          crossed_later = (c.in_ok-here.here.1, later n g net4 net7 e47 (part g W i j) c.in_ok-here.here.1 here.1.crossed_later);
          odd = has_later n g net6 net7 e7 S i (2 * place_of i j + 1) low.1;
          even = (c.in_ok-low.low, low7);
        };
        lower = record {
          masked = has_later n g net5 net7 e57 _ j i there.1.masked;
          masked_later = has_later n g net5 net7 e57 _ j i there.1.masked_later;
          kept = has_later n g net5 net7 e57 _ j i there.1.kept;
          kept_later = (c.in_ok-there.there.0, later n g net5 net7 e57 (part g U j i) c.in_ok-there.there.0 there.1.kept_later);
          crossed = has_later n g net5 net7 e57 _ j i there.1.crossed;
          crossed_later = (c.in_ok-there.there.1, later n g net5 net7 e57 (part g W j i) c.in_ok-there.there.1 there.1.crossed_later);
          odd = high.1;
          even = (c.in_ok-high.high, high.2);
        };
      },
      low7,
      high.2,
    )
