use Rattle.std.proofs.Common.{◌≡◌, ◌<◌, ℕ, Some, filter, length, get_or, slice_get, slice_index_or, sym, ap, subst, ◌∙◌}
use Rattle.std.specs.List.{flat_map}
use Rattle.std.proofs.lemmas.Option.{slice_get-get_or}
use Rattle.agm_net.specs.Network.{random_bits_of}
use Rattle.agm_net.specs.Plain.{ports_but}
use Rattle.agm_net.specs.View.{plain_of}
use Rattle.agm_net.specs.declared.port.Port.{Port}
use Rattle.agm_net.proofs.Wires.{clock_within}
use Rattle.twin_tape.specs.Allowed.{label_at}
use Rattle.twin_tape.specs.Pairs.{HasPair, is_random_port}
use Rattle.twin_tape.proofs.Pairing.{bit_is, has_pair}
use Rattle.twin_tape.proofs.pairs.pairs_of.Goals as goal

pub random_wires-requires : goal.random_wires-requires
random_wires-requires c = λ n is. (
    subst (λ ps. n < length ps) (sym c.as_slice-2.ensures) (clock_within c.args.net.now.ports n (c.args.net.now.well_formed.ports_right.clock_fits n is)))

pub pairs_among-requires-clause-wires : goal.pairs_among-requires-clause-wires
pairs_among-requires-clause-wires c = λ k e lt. (
    let net = plain_of c.args.net.now in
    let bits = c.as_slice-3.result.now in
    let are : bits ≡ random_bits_of net = c.as_slice-3.ensures ∙ (c.in_ok-bits.ensures ∙ ap (λ ps. flat_map (λ (p : Port). p.bits) (filter is_random_port (ports_but c.args.net.now.clock ps))) c.as_slice-2.ensures) in
    let at : slice_get (random_bits_of net) k ≡ Some (slice_index_or bits k e) = subst (λ ws. slice_get ws k ≡ Some (slice_index_or bits k e)) are (slice_get-get_or bits k e lt) in
    let bit = bit_is net c.args.order c.args.net.now.well_formed c.requires.network (label_at c.args.labels.now) c.requires.labels k (slice_index_or bits k e) at in
    subst (λ n. slice_index_or bits k e < n) (sym c.requires.as_many) bit.inside)

pub pairs_among-requires-clause-pairs : goal.pairs_among-requires-clause-pairs
pairs_among-requires-clause-pairs c = λ k e lt. (
    let net = plain_of c.args.net.now in
    let bits = c.as_slice-3.result.now in
    let label = label_at c.args.labels.now in
    let are : bits ≡ random_bits_of net = c.as_slice-3.ensures ∙ (c.in_ok-bits.ensures ∙ ap (λ ps. flat_map (λ (p : Port). p.bits) (filter is_random_port (ports_but c.args.net.now.clock ps))) c.as_slice-2.ensures) in
    let at : slice_get (random_bits_of net) k ≡ Some (slice_index_or bits k e) = subst (λ ws. slice_get ws k ≡ Some (slice_index_or bits k e)) are (slice_get-get_or bits k e lt) in
    let names : c.in_ok-names.names ≡ c.args.net.now.wires = c.in_ok-names.ensures ∙ c.as_slice.ensures in
    subst (λ ns. HasPair ns (label (slice_index_or bits k e))) (sym names) (has_pair net c.args.order c.args.net.now.well_formed c.requires.network label c.requires.labels k (slice_index_or bits k e) at))
