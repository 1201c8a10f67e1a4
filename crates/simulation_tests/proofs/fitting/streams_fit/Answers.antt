use Rattle.std.proofs.Common.{All, List, subst}
use Rattle.std.proofs.lemmas.List.{take_all}
use Rattle.std.proofs.lemmas.List.Elements.{All-more}
use Rattle.agm_net.specs.View.{plain_of}
use Rattle.stimulus.specs.Fits.{StreamFits}
use Rattle.stimulus.specs.declared.stimuli.Stream.{Stream}
use Rattle.simulation_tests.proofs.fitting.streams_fit.Goals as goal

pub loop-stream-preserved : goal.loop-stream-preserved
loop-stream-preserved c =
    let Suits : Stream → Type 0 = StreamFits (plain_of c.args.net.now) c.args.steps in
    All-more Suits c.args.streams.now c.loop-stream.stream-index c.stream-item.result c.loop-stream-test.true c.loop-stream.invariant (subst Suits c.stream-item.is (c.stream_fits.ensures c.if-not-stream_fits.false))

pub returns : goal.returns
returns c = λ told. subst (λ (streams : List Stream). All (StreamFits (plain_of c.args.net.now) c.args.steps) streams) (take_all c.loop-stream.stream-index c.args.streams.now c.loop-stream-test.false) c.loop-stream.invariant
