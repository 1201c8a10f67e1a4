use Rattle.std.proofs.Common.{◌≡◌, ◌<◌, ◌+◌, ◌-◌, ◌&&◌, ◌∙◌, ap, arith}
use Rattle.hpc2_gadget.proofs.Numbers.{two_indices}
use Rattle.hpc2_gadget.proofs.Made.{grown_trans, grown_more}
use Rattle.std.proofs.Common.{refl}
use Rattle.agm_net.specs.Label.{part}
use Rattle.agm_net.specs.Network.{pair_part}
use Rattle.agm_net.specs.declared.label.PartKind.TheVariants.{A, Na, Rr, U, V}
use Rattle.share_wiring.proofs.Runs.{extends_trans}
use Rattle.hpc2_gadget.proofs.Placing.{later, has_later}
use Rattle.hpc2_gadget.proofs.parts.halves.Goals as goal

pub returns-clause-grown : goal.returns-clause-grown
returns-clause-grown c =
    grown_more _ _ _ _ _ _ _ (omega arith)
    (grown_trans _ _ _ _ _ _ _ _ _ (grown_trans _ _ _ _ _ _ _ _ _ c.in_ok-v.ensures.grown c.in_ok-u.ensures.grown) c.in_ok-w.ensures.grown)

pub stored-requires-clause-first : goal.stored-requires-clause-first
stored-requires-clause-first c = two_indices c.args.place.shares c.args.i c.args.j c.args.place.size.1 c.requires.index.0 c.requires.index.1 c.requires.index.2

pub stored-requires-clause-second : goal.stored-requires-clause-second
stored-requires-clause-second c = two_indices c.args.place.shares c.args.i c.args.j c.args.place.size.1 c.requires.index.0 c.requires.index.1 c.requires.index.2

pub stored-requires-2-clause-first : goal.stored-requires-2-clause-first
stored-requires-2-clause-first c = two_indices c.args.place.shares c.args.i c.args.j c.args.place.size.1 c.requires.index.0 c.requires.index.1 c.requires.index.2

pub stored-requires-2-clause-second : goal.stored-requires-2-clause-second
stored-requires-2-clause-second c = two_indices c.args.place.shares c.args.i c.args.j c.args.place.size.1 c.requires.index.0 c.requires.index.1 c.requires.index.2

pub stored-requires-3-clause-first : goal.stored-requires-3-clause-first
stored-requires-3-clause-first c = two_indices c.args.place.shares c.args.i c.args.j c.args.place.size.1 c.requires.index.0 c.requires.index.1 c.requires.index.2

pub stored-requires-3-clause-second : goal.stored-requires-3-clause-second
stored-requires-3-clause-second c = two_indices c.args.place.shares c.args.i c.args.j c.args.place.size.1 c.requires.index.0 c.requires.index.1 c.requires.index.2

pub returns-clause-value : goal.returns-clause-value
returns-clause-value c cycles bits run =
    let later = c.in_ok-w.ensures.value cycles bits run in
    let kept = c.in_ok-u.ensures.value cycles bits later.0 in
    let masked = c.in_ok-v.ensures.value cycles bits kept.0 in (
      masked.0,
      λ t lt.
          let same : t + 2 ≡ t + 1 + 1 = omega arith in
          let soon : t + 1 + 1 < cycles = omega arith in
          let near : t + 1 < cycles = omega arith in (
            ap (λ s. bits s c.in_ok-u.u) same ∙ kept.1 (t + 1) soon,
            ap (λ s. bits s c.in_ok-w.w) same ∙ (later.1 (t + 1) soon ∙ ap (λ x. bits (t + 1) c.args.wires.a && x) (masked.1 t near)),
          ),
    )

pub returns-clause-rules : goal.returns-clause-rules
returns-clause-rules c sound reads =
    let n = c.args.place.shares in
    let g = c.args.place.gadget in
    let i = c.args.i in
    let j = c.args.j in
    let wires = c.args.wires in
    let e_v = c.in_ok-v.ensures.grown.extends in
    let e_u = c.in_ok-u.ensures.grown.extends in
    let e_w = c.in_ok-w.ensures.grown.extends in
    let e_uv = extends_trans _ _ _ e_v e_u in
    let e_vw = extends_trans _ _ _ e_u e_w in
    let v = c.in_ok-v.ensures.rules sound (record { made = (wires.b, wires.random, refl, reads.second, reads.masks); stores = refl; no_pair = λ no. absurd (cc); none_later = λ no. absurd (cc) }) in
    let u = c.in_ok-u.ensures.rules v.0
    (record { made = (wires.inverse, wires.stored, refl, later n g _ _ e_v (part g Na i 0) wires.inverse reads.inverted, later n g _ _ e_v (pair_part (n - 1) g Rr i j) wires.stored reads.masks_later); stores = refl; no_pair = λ no. absurd (cc); none_later = λ no. absurd (cc) }) in
    let w = c.in_ok-w.ensures.rules u.0
    (record { made = (wires.a, c.in_ok-v.v, refl, later n g _ _ e_uv (part g A i 0) wires.a reads.first, later n g _ _ e_u (part g V i j) c.in_ok-v.v v.2); stores = refl; no_pair = λ no. absurd (cc); none_later = λ no. absurd (cc) }) in (
      w.0,
      record {
        masked = has_later n g _ _ e_vw _ i j v.1;
        masked_later = (c.in_ok-v.v, later n g _ _ e_vw (part g V i j) c.in_ok-v.v v.2);
        kept = has_later n g _ _ e_w _ i j u.1;
        kept_later = later n g _ _ e_w (part g U i j) c.in_ok-u.u u.2;
        crossed = w.1;
        crossed_later = w.2;
      },
    )
