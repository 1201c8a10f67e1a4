use Rattle.network_examples.proofs.ShareWires.{is_network}
use Rattle.network_examples.proofs.shares_apart_are_a_network.Goals as goal

pub returns : goal.returns
returns c = is_network
