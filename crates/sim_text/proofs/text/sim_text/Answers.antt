use Rattle.std.proofs.Common.{◌≡◌, ◌+◌, ◌++◌, ◌∷◌, [], List, length, take, sym, ap, ◌∙◌, subst, arith}
use Rattle.std.proofs.lemmas.List.{length-map, length-take-le, take_all}
use Rattle.agm_net.specs.Plain.{stored_of}
use Rattle.agm_net.specs.View.{plain_of}
use Rattle.stimulus.specs.Fits.{StreamFits}
use Rattle.stimulus.specs.declared.stimuli.Stream.{Stream}
use Rattle.sim_text.specs.Text.{IsSimText}
use Rattle.sim_text.proofs.Items.{all_item, take_item}
use Rattle.sim_text.proofs.Texts.{stream_more}
use Rattle.sim_text.proofs.text.sim_text.Goals as goal

pub loop-number-init : goal.loop-number-init
loop-number-init c = record { tables = []; traces = tt; text_is = c.new-text.ensures }

pub push_stream-requires-clause-initial : goal.push_stream-requires-clause-initial
push_stream-requires-clause-initial c =
    let net = plain_of c.args.net.now in
    let fits = c.requires.fits in
    let own = all_item (StreamFits net fits.steps) c.args.stimulus.now.streams c.as_slice-stream-items.result.now c.loop-number.number c.stream-item.result c.as_slice-stream-items.ensures c.loop-number-test.true c.stream-item.is fits.each in
    own.initial ∙ length-map c.args.net.now.registers stored_of

pub push_stream-requires-clause-rows : goal.push_stream-requires-clause-rows
push_stream-requires-clause-rows c =
    let net = plain_of c.args.net.now in
    let fits = c.requires.fits in
    let own = all_item (StreamFits net fits.steps) c.args.stimulus.now.streams c.as_slice-stream-items.result.now c.loop-number.number c.stream-item.result c.as_slice-stream-items.ensures c.loop-number-test.true c.stream-item.is fits.each in
    own.rows

pub loop-number-preserved : goal.loop-number-preserved
loop-number-preserved c =
    let net = plain_of c.args.net.now in
    let streams = c.args.stimulus.now.streams in
    let k = c.loop-number.number in
    let stream = c.stream-item.result in
    let test = c.loop-number-test.true in
    let all : length c.as_slice-stream-items.result.now ≡ length streams = ap length c.as_slice-stream-items.ensures in
    let more : take (k + 1) streams ≡ take k streams ++ stream ∷ [] = take_item streams c.as_slice-stream-items.result.now k stream c.as_slice-stream-items.ensures c.loop-number-test.true c.stream-item.is in
    subst (λ (ss : List Stream). IsSimText net ss c.push_stream.new.text) (sym more)
    (stream_more net (take k streams) k stream c.loop-number.text c.push_stream.new.text (sym (length-take-le k streams (omega arith))) c.loop-number.invariant c.in_ok-push_stream.ensures)

pub returns : goal.returns
returns c =
    let streams = c.args.stimulus.now.streams in
    let test = c.loop-number-test.false in
    let all : length c.as_slice-stream-items.result.now ≡ length streams = ap length c.as_slice-stream-items.ensures in
    subst (λ (ss : List Stream). IsSimText (plain_of c.args.net.now) ss c.loop-number.text) (take_all c.loop-number.number streams (omega arith)) c.loop-number.invariant
