use Rattle.std.proofs.Common.{◌≡◌, ◌<◌, ◌+◌, ◌*◌, ◌++◌, ◌∷◌, [], List, length, take, sym, ap, ◌∙◌, subst, arith}
use Rattle.std.proofs.lemmas.List.{length-map, length-take-le, take_all}
use Rattle.agm_net.specs.Plain.{stored_of}
use Rattle.agm_net.specs.View.{plain_of}
use Rattle.share_wiring.specs.ReportOf.{streams_of}
use Rattle.sim_text.proofs.Items.{all_item, take_item}
use Rattle.stimulus.specs.Fits.{StreamFits}
use Rattle.stimulus.specs.declared.stimuli.Stream.{Stream}
use Rattle.side_by_side.specs.Beside.{ArePairs}
use Rattle.side_by_side.proofs.Streams.{stream_more, read_within}
use Rattle.side_by_side.proofs.sides.pairs_of.Goals as goal

pub loop-number-init : goal.loop-number-init
loop-number-init c = λ masked table by seen_is. record { tables = []; traces = tt; pairs_are = c.new-pairs.ensures }

pub push_stream-requires-clause-initial : goal.push_stream-requires-clause-initial
push_stream-requires-clause-initial c =
    let net = plain_of c.args.net.now in
    let fits = c.requires.fits in
    let own = all_item (StreamFits net fits.steps) c.args.stimulus.now.streams c.as_slice-stream-items.result.now c.loop-number.number c.stream-item.result c.as_slice-stream-items.ensures c.loop-number-test.true c.stream-item.is fits.each in
    own.initial ∙ length-map c.args.net.now.registers stored_of

pub push_stream-requires-clause-rows : goal.push_stream-requires-clause-rows
push_stream-requires-clause-rows c =
    let net = plain_of c.args.net.now in
    let fits = c.requires.fits in
    let own = all_item (StreamFits net fits.steps) c.args.stimulus.now.streams c.as_slice-stream-items.result.now c.loop-number.number c.stream-item.result c.as_slice-stream-items.ensures c.loop-number-test.true c.stream-item.is fits.each in
    own.rows

pub push_stream-requires-clause-read : goal.push_stream-requires-clause-read
push_stream-requires-clause-read c = λ k lt. (
    let net = plain_of c.args.net.now in
    let report = c.args.report.now in
    let fits = c.requires.fits in
    let streams = c.args.stimulus.now.streams in
    let own = all_item (StreamFits net fits.steps) streams c.as_slice-stream-items.result.now c.loop-number.number c.stream-item.result c.as_slice-stream-items.ensures c.loop-number-test.true c.stream-item.is fits.each in
    let all : length c.as_slice-stream-items.result.now ≡ length streams = ap length c.as_slice-stream-items.ensures in
    let test = c.loop-number-test.true in
    let within = fits.within in
    let turns = c.requires.turns in
    let turn : c.loop-number.number < streams_of report.balance report.period = omega (arith, test, all, within, turns) in
    let count = own.count in
    let read = read_within report.balance report.period report.latency fits.steps c.loop-number.number k c.requires.period turn (omega (arith, lt, count)) in
    let long : length c.args.seen.now ≡ report.period * fits.steps + report.streams = c.requires.long fits.steps (λ j d less. (fits.each j d less).count) in
    omega (arith, read, long, turns))

pub loop-number-preserved : goal.loop-number-preserved
loop-number-preserved c = λ masked table by seen_is. (
    let net = plain_of c.args.net.now in
    let report = c.args.report.now in
    let streams = c.args.stimulus.now.streams in
    let k = c.loop-number.number in
    let stream = c.stream-item.result in
    let test = c.loop-number-test.true in
    let all : length c.as_slice-stream-items.result.now ≡ length streams = ap length c.as_slice-stream-items.ensures in
    let more : take (k + 1) streams ≡ take k streams ++ stream ∷ [] = take_item streams c.as_slice-stream-items.result.now k stream c.as_slice-stream-items.ensures c.loop-number-test.true c.stream-item.is in
    subst (λ (ss : List Stream). ArePairs net report masked table ss c.push_stream.new.pairs) (sym more)
    (stream_more net report masked table (take k streams) k stream c.loop-number.pairs c.push_stream.new.pairs (sym (length-take-le k streams (omega (arith, test, all)))) (c.loop-number.invariant masked table by seen_is)
    (c.in_ok-push_stream.ensures masked table by seen_is)))

pub returns : goal.returns
returns c = λ masked table by seen_is. (
    let streams = c.args.stimulus.now.streams in
    let test = c.loop-number-test.false in
    let all : length c.as_slice-stream-items.result.now ≡ length streams = ap length c.as_slice-stream-items.ensures in
    subst (λ (ss : List Stream). ArePairs (plain_of c.args.net.now) c.args.report.now masked table ss c.loop-number.pairs) (take_all c.loop-number.number streams (omega (arith, test, all))) (c.loop-number.invariant masked table by seen_is))
