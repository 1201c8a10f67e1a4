use Rattle.std.proofs.Common.{◌≡◌, ◌<◌, ◌+◌, ◌++◌, ◌∷◌, [], ℕ, List, length, map, take, refl, sym, ap, subst, ◌∙◌, arith}
use Rattle.std.proofs.lemmas.List.{length-map}
use Rattle.std.proofs.lemmas.List.FromFn.{length-map-range_with_len}
use Rattle.agm_net.specs.Network.{random_bits_of}
use Rattle.agm_net.specs.Plain.{data_ports, stored_of}
use Rattle.agm_net.specs.Run.{bit_in, run_of}
use Rattle.agm_net.specs.Trace.{Row, row_at}
use Rattle.agm_net.specs.View.{plain_of}
use Rattle.cycle_sim.specs.HasRun.{HasRun}
use Rattle.probe_cones.specs.Inputs.{random_width, with_random}
use Rattle.probe_cones.specs.Observing.{flags_of, joined_rows}
use Rattle.probe_cones.proofs.Joined.{tape_long}
use Rattle.twin_tape.specs.Allowed.{label_at}
use Rattle.twin_tape.specs.Pairs.{pair_for}
use Rattle.twin_tape.specs.Tapes.{IsTape}
use Rattle.twin_tape.specs.Twinned.{IsTwinOf, Moves}
use Rattle.twin_tape.proofs.Counting.{length-IsTape}
use Rattle.twin_tape.proofs.RowsMade.{item_is, one_more, stages_long}
use Rattle.twin_tape.proofs.Running.{is_tape}
use Rattle.twin_tape.proofs.WholeTwins.{exists}
use Rattle.twin_tape.proofs.making.rows_of.Goals as goal

pub loop-cycle-init : goal.loop-cycle-init
loop-cycle-init c = λ made is. (c.new-rows.ensures, c.in_ok-sim.ensures)

pub next_row-requires-clause-running : goal.next_row-requires-clause-running
next_row-requires-clause-running c =
    let net = plain_of c.args.net.now in
    let power : Row = c.args.power_up.now in
    let T = length c.args.random.now.rows in
    let tape : IsTape (random_width net) T c.args.random.now.rows =
    subst (λ R. IsTape R T c.args.random.now.rows) c.requires.random_wide (is_tape c.args.random.now.width c.args.random.now.rows c.args.random.now.rectangular) in
    let twin = exists net c.args.order c.args.net.now.well_formed c.requires.network (label_at c.args.labels.now) c.requires.labels T c.args.probes.now.probes c.args.probes.now.indices c.requires.probes power c.args.first.now.rows c.args.second.now.rows c.args.random.now.rows tape in
    (power, joined_rows (flags_of (data_ports net)) c.args.second.now.rows twin.0 c.loop-cycle.cycle, (c.loop-cycle.invariant twin.0 (twin.1, twin.2)).1)

pub next_row-requires-clause-stages : goal.next_row-requires-clause-stages
next_row-requires-clause-stages c =
    let T = c.len.result in
    stages_long (label_at c.args.labels.now) c.args.probes.now T c.in_ok-plan.plan c.in_ok-plan.ensures

pub next_row-requires-clause-table : goal.next_row-requires-clause-table
next_row-requires-clause-table c =
    let net = plain_of c.args.net.now in
    let tape = with_random net c.args.first.now.rows c.args.random.now.rows in
    let long : length (run_of net c.args.power_up.now tape) ≡ length tape =
    length-map-range_with_len (λ t. map (bit_in net c.args.power_up.now tape t) (Rattle.std.specs.List.range_with_len 0 (length net.wires))) 0 (length tape) in
    ap (λ ls. length ls) (c.as_slice-in-loop-cycle-2.ensures ∙ c.in_ok-table.ensures)
    ∙ (long ∙ (tape_long net c.args.first.now.rows c.args.random.now.rows c.requires.first_long ∙ (c.requires.first_long ∙ (sym c.len.ensures ∙ sym c.in_ok-plan.ensures.cycles))))

pub loop-cycle-preserved : goal.loop-cycle-preserved
loop-cycle-preserved c = λ made is. (
    let net = plain_of c.args.net.now in
    let label = label_at c.args.labels.now in
    let T = length c.args.random.now.rows in
    let t = c.loop-cycle.cycle in
    let end = c.len-cycle-end.ensures in
    let test = c.loop-cycle-test.true in
    let below : t < T = omega (arith, end, test) in
    let second : c.index-as_slice-cycle.result ≡ row_at c.args.second.now.rows t =
    item_is c.as_slice-in-loop-cycle-3.result.now c.args.second.now.rows t c.index-as_slice-cycle.result [] c.as_slice-in-loop-cycle-3.ensures (subst (λ n. t < n) (sym c.requires.second_long) below) c.index-as_slice-cycle.is in
    let random : c.index-as_slice-cycle-in-loop-cycle.result ≡ row_at c.args.random.now.rows t =
    item_is c.as_slice-in-loop-cycle-4.result.now c.args.random.now.rows t c.index-as_slice-cycle-in-loop-cycle.result [] c.as_slice-in-loop-cycle-4.ensures below c.index-as_slice-cycle-in-loop-cycle.is in
    let flags : c.as_slice.result.now ≡ flags_of (data_ports net) = c.as_slice.ensures ∙ c.in_ok-flags.ensures in
    let moves : Moves net (flags_of (data_ports net)) c.in_ok-plan.plan c.as_slice-in-loop-cycle.result.now c.as_slice-in-loop-cycle-2.result.now t (row_at c.args.second.now.rows t) (row_at c.args.random.now.rows t) c.loop-cycle.sim c.next_row.new.sim c.in_ok-row.row =
    subst (λ f. Moves net f c.in_ok-plan.plan c.as_slice-in-loop-cycle.result.now c.as_slice-in-loop-cycle-2.result.now t (row_at c.args.second.now.rows t) (row_at c.args.random.now.rows t) c.loop-cycle.sim c.next_row.new.sim c.in_ok-row.row) flags
    (subst (λ r. Moves net c.as_slice.result.now c.in_ok-plan.plan c.as_slice-in-loop-cycle.result.now c.as_slice-in-loop-cycle-2.result.now t (row_at c.args.second.now.rows t) r c.loop-cycle.sim c.next_row.new.sim c.in_ok-row.row) random
    (subst (λ r. Moves net c.as_slice.result.now c.in_ok-plan.plan c.as_slice-in-loop-cycle.result.now c.as_slice-in-loop-cycle-2.result.now t r c.index-as_slice-cycle-in-loop-cycle.result c.loop-cycle.sim c.next_row.new.sim c.in_ok-row.row) second c.in_ok-row.ensures)) in
    one_more net c.args.order c.args.net.now.well_formed c.requires.network label c.requires.labels c.args.probes.now c.args.power_up.now (c.requires.powered ∙ sym (length-map c.args.net.now.registers stored_of))
    c.args.first.now.rows c.args.second.now.rows c.args.random.now.rows made T c.requires.first_long c.requires.second_long refl is
    c.in_ok-plan.plan (subst (λ n. Rattle.twin_tape.specs.Plans.IsPlan label c.args.probes.now.probes c.args.probes.now.indices n c.in_ok-plan.plan) c.len.ensures c.in_ok-plan.ensures)
    c.as_slice-in-loop-cycle.result.now (c.as_slice-in-loop-cycle.ensures ∙ c.in_ok-pairs.ensures)
    c.as_slice-in-loop-cycle-2.result.now (c.as_slice-in-loop-cycle-2.ensures ∙ c.in_ok-table.ensures)
    t below c.loop-cycle.sim c.next_row.new.sim c.in_ok-row.row moves
    c.loop-cycle.rows c.push.new.self c.in_ok-push.ensures.ok (c.loop-cycle.invariant made is))

pub returns : goal.returns
returns c =
    let net = plain_of c.args.net.now in
    let power : Row = c.args.power_up.now in
    let label = label_at c.args.labels.now in
    let T = length c.args.random.now.rows in
    let tape : IsTape (random_width net) T c.args.random.now.rows =
    subst (λ R. IsTape R T c.args.random.now.rows) c.requires.random_wide (is_tape c.args.random.now.width c.args.random.now.rows c.args.random.now.rectangular) in
    let twin = exists net c.args.order c.args.net.now.well_formed c.requires.network label c.requires.labels T c.args.probes.now.probes c.args.probes.now.indices c.requires.probes power c.args.first.now.rows c.args.second.now.rows c.args.random.now.rows tape in
    let long : length twin.0 ≡ T = length-IsTape (random_width net) T twin.0 twin.1 in
    let end = c.len-cycle-end.ensures in
    let test = c.loop-cycle-test.false in
    let range = c.loop-cycle.auto.cycle-end in
    let all : c.loop-cycle.cycle ≡ length twin.0 = omega (arith, end, test, range, long) in
    let made : c.loop-cycle.rows ≡ twin.0 = (c.loop-cycle.invariant twin.0 (twin.1, twin.2)).0 ∙ (ap (λ n. take n twin.0) all ∙ take_length twin.0) in
    subst (λ rows. IsTwinOf net c.args.order label c.args.probes.now T power c.args.first.now.rows c.args.second.now.rows c.args.random.now.rows rows) (sym made) (twin.1, twin.2)
  where
    take_length : (xs : List Row) → take (length xs) xs ≡ xs
    take_length [] = refl
    take_length (x ∷ xs) = ap (λ ys. x ∷ ys) (take_length xs)
