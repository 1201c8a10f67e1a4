use Rattle.std.proofs.Common.{ap, ◌∙◌, length, get_or, arith}
use Rattle.std.proofs.lemmas.Option.{slice_get-get_or, slice_get_within, get_or_from_slice_get}
use Rattle.logic_graph.specs.declared.nodes.Node.TheVariants.{Zero}
use Rattle.logic_graph.specs.Settled.{bit_of}
use Rattle.secrecy_spread.specs.NodeSecrets.{is_secret}
use Rattle.secrecy_spread.proofs.NodesTold.{reads_later, secret_more}
use Rattle.secrecy_spread.proofs.nodes.tell_nodes.Goals as goal

pub is_secret-requires-clause-in_order : goal.is_secret-requires-clause-in_order
is_secret-requires-clause-in_order c =
    let k = c.loop-k.k in
    let n = get_or c.args.nodes.now k Zero in
    let same = c.loop-k.auto.flags in
    reads_later k (length c.loop-k.flags) n (omega arith) (c.requires.in_order k n (slice_get-get_or c.args.nodes.now k Zero c.loop-k-test.true))

pub is_secret-requires-clause-sources : goal.is_secret-requires-clause-sources
is_secret-requires-clause-sources c = c.requires.sources c.loop-k.k _ (slice_get-get_or c.args.nodes.now c.loop-k.k Zero c.loop-k-test.true)

pub loop-k-preserved : goal.loop-k-preserved
loop-k-preserved c =
    let same = c.loop-k.auto.flags in
    secret_more c.args.nodes.now c.args.inputs.now c.args.registers.now c.loop-k.flags c.loop-k.k c.is_secret.result c.requires.in_order (omega arith)
    (λ n at. c.is_secret.ensures ∙ ap (is_secret c.args.inputs.now c.args.registers.now (bit_of c.loop-k.flags)) (get_or_from_slice_get c.args.nodes.now c.loop-k.k n Zero at))
    c.loop-k.invariant

pub returns : goal.returns
returns c =
    let same = c.loop-k.auto.flags in
    record {
      one_each = c.loop-k.auto.flags ∙ c.requires.as_many;
      spread = λ k n at. (let lt = slice_get_within c.args.nodes.now k n at in c.loop-k.invariant k n (omega arith) at);
    }
